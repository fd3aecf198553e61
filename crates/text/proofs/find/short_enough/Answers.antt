use Rattle.text.proofs.Finding.{one_answer}
use Rattle.text.proofs.find.short_enough.Goals as goal

pub returns-clause-one : goal.returns-clause-one
returns-clause-one c = one_answer
