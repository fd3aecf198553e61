use Rattle.std.proofs.Common.{◌+◌, ◌*◌, length}
use Rattle.trellis.specs.Lists.{Holds, Keeps}
use Rattle.sweep.specs.Burst.{states, forward_at}
use Rattle.sweep.proofs.full.FullTrellis.fill_forward.Given as goal

-- The elements before the index are written, and those past the columns kept.
abbrev pub invariant-loop-index : goal.invariant-loop-index
invariant-loop-index g l =
    let o = g.J.Joining.operations in
    let n = states g.C.Channel.meaning l.self in
    Holds o.none l.forward n 0 l.index (forward_at o g.J.Joining.worth_of g.C.Channel.meaning l.self)
    × Keeps o.none l.initial.forward l.forward ((length l.self.places + 1) * n)
