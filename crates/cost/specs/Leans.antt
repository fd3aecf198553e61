-- The lean between two costs, and its text: its eighths as a decimal with three digits after the point, or a word.
use Rattle.std.specs.Prelude.{◌≡◌, ℕ, ◌+◌, ◌*◌, ◌/◌, ◌%◌, List, [], ◌++◌, ℤ, pos, negsuc, ◌-ℤ◌, codes, decimal, unsigned_abs}
use Rattle.cost.specs.declared.Cost.{Cost}
use Rattle.cost.specs.declared.Cost.TheVariants as costs
use Rattle.cost.specs.declared.lean.Lean.{Lean}
use Rattle.cost.specs.declared.lean.Lean.TheVariants.{Eighths, Sure, Never, Neither}

-- the first cost minus the second, or which of them is barred
abbrev pub lean_of : Cost → Cost → Lean
lean_of (costs.Eighths m) (costs.Eighths n) = Eighths (pos m -ℤ pos n)
lean_of (costs.Eighths m) costs.Barred = Never
lean_of costs.Barred (costs.Eighths n) = Sure
lean_of costs.Barred costs.Barred = Neither

-- a minus before a number below 0
abbrev pub sign : ℤ → List ℕ
sign (pos n) = []
sign (negsuc n) = codes "-"

-- the whole part of so many eighths, and the thousandths that are left
abbrev pub whole : ℕ → ℕ
whole eighths = eighths / 8

abbrev pub thousandths : ℕ → ℕ
thousandths eighths = eighths % 8 * 125

-- a number below a thousand with three digits
abbrev pub three_digits : ℕ → List ℕ
three_digits n = decimal (n / 100) ++ (decimal (n / 10 % 10) ++ decimal (n % 10))

abbrev pub lean_text : Lean → List ℕ
lean_text (Eighths z) = sign z ++ (decimal (whole (unsigned_abs z)) ++ (codes "." ++ three_digits (thousandths (unsigned_abs z))))
lean_text Sure = codes "sure"
lean_text Never = codes "never"
lean_text Neither = codes "neither"

-- The decimal is the number of eighths, exactly; and two leans as they are printed.
pub record LeansInDecimal : Type 0 where
  pub exact : (n : ℕ) → 8 * (1000 * whole n + thousandths n) ≡ 1000 * n
  pub below : lean_text (Eighths (negsuc 7)) ≡ codes "-1.000"
  pub above : lean_text (Eighths (pos 13)) ≡ codes "1.625"
