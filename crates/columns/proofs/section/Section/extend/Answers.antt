use Rattle.std.proofs.Common.{◌<◌, rules, arith}
use Rattle.columns.proofs.section.Section.extend.Goals as goal

pub returns : goal.returns
returns g c = λ p lt. let below : p < c.pairs.result = omega (arith, c.pairs.ensures) in let h = c.filled.ensures.front 0 p below in search rules
