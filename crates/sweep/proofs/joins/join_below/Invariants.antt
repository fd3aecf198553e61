use Rattle.sweep.specs.Joins.{JoinsBelow}
use Rattle.sweep.proofs.joins.join_below.Given as goal

-- The ways so far are joined.
abbrev pub invariant-loop-i : goal.invariant-loop-i
invariant-loop-i g l = JoinsBelow g.J.Joining.operations l.i (λ i x. goal.F-post g l.way i x) l.ways
