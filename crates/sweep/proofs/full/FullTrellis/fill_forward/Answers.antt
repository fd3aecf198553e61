use Rattle.std.proofs.Common.{rules}
use Rattle.trellis.proofs.Lists.{holds_all}
use Rattle.sweep.proofs.full.FullTrellis.fill_forward.Goals as goal

pub returns : goal.returns
returns g c =
    holds_all _ _ _ _ _ _ c.loop-index.auto.forward (search rules) c.loop-index.invariant.1
