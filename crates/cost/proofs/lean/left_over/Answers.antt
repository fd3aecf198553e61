use Rattle.std.proofs.Common.{arith, rules}
use Rattle.std.proofs.lemmas.Fmt.{decimal_digit}
use Rattle.cost.specs.Leans.{LeansInDecimal}
use Rattle.cost.proofs.lean.left_over.Goals as goal

leans : LeansInDecimal
leans =
    record {
      exact = λ n. omega arith;
      below = simp (decimal_digit 1 (omega arith), decimal_digit 0 (omega arith));
      above = simp (decimal_digit 1 (omega arith), decimal_digit 6 (omega arith), decimal_digit 2 (omega arith), decimal_digit 5 (omega arith));
    }

pub returns : goal.returns
returns c = record { value = search rules; laws = leans }
