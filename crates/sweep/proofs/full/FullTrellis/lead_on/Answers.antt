use Rattle.std.proofs.Common.{rules}
use Rattle.sweep.proofs.Elements.{backward_joined}
use Rattle.sweep.proofs.full.FullTrellis.lead_on.Goals as goal

pub returns : goal.returns
returns g c = search (rules, backward_joined) depth 9
