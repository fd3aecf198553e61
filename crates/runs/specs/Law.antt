-- The law over whole runs: a receiver that was worked and settled, beside a new one that is given what stands.
use Rattle.std.specs.Prelude.{◌≡◌, ℕ, ◌<◌, ◌≤◌, List, map, length, take, ◌≢◌, nat_eq, slice_index}
use Rattle.cost.specs.declared.Cost.TheVariants.{Barred}
use Rattle.channel.specs.Meaning.{Meaning}
use Rattle.trellis.specs.Least.{IsLeast}
use Rattle.burst.specs.Sequences.{total}
use Rattle.recursions.specs.Laws.{BestShown}
use Rattle.receiver.specs.Settling.{best_cost}
use Rattle.receiver.specs.Standing.{Standing, settled}
use Rattle.receiver.specs.declared.settle.Settled.{Settled}
use Rattle.runs.specs.Calls.{Reply, stale_columns, best_at, cost_at}
use Rattle.runs.specs.Runs.{ends, answers_to, bytes_after}
use Rattle.runs.specs.declared.call.Call.{Call}
use Rattle.runs.specs.declared.call.Heard.{Heard}

-- the answers of the one and of the other receiver, as far as calls were made
abbrev pub one_said : ℕ → List Heard → List Reply
one_said n heard = map (λ h. h.one) (take n heard)

abbrev pub other_said : ℕ → List Heard → List Reply
other_said n heard = map (λ h. h.other) (take n heard)

-- A receiver is settled where s stands and then given calls: what it tells, and what it leaves in a list of bytes.
pub record Goes (m : Meaning) (s : Standing) (calls : List Call) (told : Settled) (said : List Reply) (bytes bytes' : List ℕ) : Type 0 where
  pub columns : told.columns ≡ stale_columns s
  pub best : best_cost told.best ≡ best_at m s
  pub answers : said ≡ answers_to m calls (settled s) bytes
  pub writes : bytes' ≡ bytes_after m calls (settled s) bytes

-- Two receivers cannot be told apart, and the one worked no more columns than the other.
pub record Alike (told told' : Settled) (said said' : List Reply) (bytes bytes' : List ℕ) : Type 0 where
  pub best : told.best ≡ told'.best
  pub columns : told.columns ≤ told'.columns
  pub answers : said ≡ said'
  pub writes : bytes ≡ bytes'

-- What costs, the best and the shown sequence are, said of sequences and their totals.
pub record OfSequences (m : Meaning) (s : Standing) : Type 0 where
  -- at full depth the cost of a value at a place is the least total of all admitted sequences with it there, and barred exactly if there is none
  pub least : s.depth ≡ m.memory → (k a : ℕ) → k < length s.places → a < m.symbols
      → IsLeast m.symbols (length s.places) (λ sequence. nat_eq a (slice_index sequence k)) (total m s.places) (cost_at m s k a)
  -- at any depth, unless there is no best: the least cost at every place is the best, which is the total of the shown sequence and the cost of each of its symbols
  pub shown : (best_at m s ≢ Barred) → BestShown m s.depth s.places

-- So it is wherever calls lead.
abbrev pub AlwaysOfSequences : Meaning → Standing → Type 0
AlwaysOfSequences m s = (calls : List Call) → OfSequences m (ends m calls s)
