use Rattle.std.proofs.Common.{rules}
use Rattle.sweep.proofs.Elements.{forward_joined}
use Rattle.sweep.proofs.full.FullTrellis.gather.Goals as goal

pub returns : goal.returns
returns g c = search (rules, forward_joined) depth 9
