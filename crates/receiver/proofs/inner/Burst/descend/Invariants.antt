use Rattle.std.proofs.Common.{◌≡◌}
use Rattle.receiver.specs.Bursts.{Sized}
use Rattle.receiver.specs.Steps.{Descended}
use Rattle.receiver.proofs.inner.Burst.descend.Given as goal

-- The columns so far are worked, and the mark stands at the last of them.
abbrev pub invariant-loop-k : goal.invariant-loop-k
invariant-loop-k g l = Descended (g.C.Channel.meaning l.channel) l.initial.self l.self × Sized l.self × (l.self.marks.backward ≡ l.k)
