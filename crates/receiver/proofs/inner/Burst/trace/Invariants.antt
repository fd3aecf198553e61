use Rattle.std.proofs.Common.{◌≡◌, ◌<◌, drop}
use Rattle.receiver.specs.Readings.{Tracing}
use Rattle.receiver.proofs.inner.Burst.trace.Given as goal

-- The symbols from the place on are written, and those before it lead to the state.
abbrev pub invariant-loop-k : goal.invariant-loop-k
invariant-loop-k l =
    (l.state < 16) × (drop l.self.count l.list ≡ drop l.self.count l.initial.list) × Tracing l.self l.start l.list l.k l.state
