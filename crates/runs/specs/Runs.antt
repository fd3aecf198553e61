-- Runs: what stands after a list of calls, what they answer, and what a new receiver is given.
use Rattle.std.specs.Prelude.{ℕ, List, [], ◌∷◌, map}
use Rattle.channel.specs.Meaning.{Meaning}
use Rattle.receiver.specs.Standing.{Standing, new_standing, settled}
use Rattle.runs.specs.Calls.{Reply, after, answer, written}
use Rattle.runs.specs.declared.call.Call.{Call}
use Rattle.runs.specs.declared.call.Call.TheVariants.{Add, Depth}

-- What stands after the calls, one after the other.
abbrev pub ends : Meaning → List Call → Standing → Standing
ends m [] s = s
ends m (call ∷ calls) s = ends m calls (after m call s)

-- What they answer, with a list of bytes.
abbrev pub answers_to : Meaning → List Call → Standing → List ℕ → List Reply
answers_to m [] s bytes = []
answers_to m (call ∷ calls) s bytes = answer m call s bytes ∷ answers_to m calls (after m call s) (written m call s bytes)

-- What they leave in the list.
abbrev pub bytes_after : Meaning → List Call → Standing → List ℕ → List ℕ
bytes_after m [] s bytes = bytes
bytes_after m (call ∷ calls) s bytes = bytes_after m calls (after m call s) (written m call s bytes)

-- What stands in a receiver that is worked by the calls, and then settled.
abbrev pub worked : Meaning → List Call → Standing
worked m calls = settled (ends m calls (new_standing m))

-- the calls that give a receiver what stands: the depth, then place after place
abbrev pub renewal : Standing → List Call
renewal s = Depth s.depth ∷ map Add s.places

-- What stands in a new receiver that is given this.
abbrev pub given : Meaning → Standing → Standing
given m s = ends m (renewal s) (new_standing m)
