-- The first number that passes a test, and the test that two costs are equal.
use Rattle.std.specs.Prelude.{ℕ, zero, suc, Bool, true, false, cond, Some, None, Option, ◌==◌}
use Rattle.cost.specs.declared.Cost.{Cost}
use Rattle.cost.specs.declared.Cost.TheVariants.{Eighths, Barred}

-- the first found, or else the second
abbrev pub or_else : {X : Type 0} → Option X → Option X → Option X
or_else None later = later
or_else (Some x) later = Some x

-- The first number below n that passes, or none.
unfoldable pub first_under : ℕ → (ℕ → Bool) → Option ℕ
first_under zero passes = None
first_under (suc n) passes = or_else (first_under n passes) (cond (passes n) (Some n) None)

abbrev pub same_cost : Cost → Cost → Bool
same_cost (Eighths m) (Eighths n) = m == n
same_cost (Eighths m) Barred = false
same_cost Barred (Eighths n) = false
same_cost Barred Barred = true
