use Rattle.std.proofs.Common.{rules}
use Rattle.sweep.proofs.Elements.{answer_joined}
use Rattle.sweep.proofs.full.meets.Columns.meet.Goals as goal

pub returns : goal.returns
returns g c = search (rules, answer_joined) depth 9
