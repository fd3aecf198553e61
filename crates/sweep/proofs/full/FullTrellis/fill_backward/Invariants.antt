use Rattle.std.proofs.Common.{◌+◌, ◌*◌, length}
use Rattle.trellis.specs.Lists.{Holds, Keeps}
use Rattle.sweep.specs.Burst.{states, backward_at}
use Rattle.sweep.proofs.full.FullTrellis.fill_backward.Given as goal

-- The elements from the index on are written, and those past the columns kept.
abbrev pub invariant-loop-index : goal.invariant-loop-index
invariant-loop-index g l =
    let o = g.J.Joining.operations in
    let n = states g.C.Channel.meaning l.self in
    let all = (length l.self.places + 1) * n in
    Holds o.none l.backward n l.index all (backward_at o g.J.Joining.worth_of g.C.Channel.meaning l.self)
    × Keeps o.none l.initial.backward l.backward all
