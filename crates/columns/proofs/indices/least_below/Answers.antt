use Rattle.std.proofs.Common.{min, ◌∙◌, ap₂}
use Rattle.columns.proofs.Minima.{min_none, min_more}
use Rattle.columns.proofs.indices.least_below.Goals as goal

pub loop-i-init : goal.loop-i-init
loop-i-init g c = λ h is. min_none h

pub loop-i-preserved : goal.loop-i-preserved
loop-i-preserved g c = λ h is.
    c.min-least.ensures
    ∙ ap₂ min (c.loop-i.invariant h is) (is c.loop-i.i _ c.loop-i-test.true c.f.ensures)
    ∙ min_more c.loop-i.i h
