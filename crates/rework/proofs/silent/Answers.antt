use Rattle.rework.proofs.Computed.{reworked}
use Rattle.rework.proofs.silent.Goals as goal

pub returns : goal.returns
returns c = reworked
