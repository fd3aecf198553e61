use Rattle.columns.specs.Arrivals.{Picked}
use Rattle.columns.proofs.forward.pick.Given as goal

abbrev pub invariant-loop-way : goal.invariant-loop-way
invariant-loop-way l = Picked l.shape.states l.sums l.state l.way l.best
