use Rattle.count.proofs.Computed.{counts_worked}
use Rattle.count.proofs.worked.Goals as goal

pub returns : goal.returns
returns c = counts_worked
