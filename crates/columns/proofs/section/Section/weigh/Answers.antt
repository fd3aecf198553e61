use Rattle.std.proofs.Common.{◌<◌, rules, arith, inl, inr}
use Rattle.std.proofs.lemmas.Bool.{cases_lt}
use Rattle.columns.proofs.Numbers.{within_top}
use Rattle.columns.proofs.section.Section.weigh.Goals as goal

pub returns : goal.returns
returns g c =
    record {
      value = λ p lt. let below : p < c.pairs.result = omega (arith, c.pairs.ensures) in let h = c.filled.ensures.front 0 p below in search rules;
      small = λ p lt. elim (cases_lt p c.pairs.result) [
        | inl below ↦ let h = c.filled.ensures.front 0 p below in search rules
        | inr past ↦ within_top _ _ (c.filled.ensures.others 0 p past lt)
      ];
    }
