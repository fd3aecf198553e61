-- Costs as stored numbers of 32 bits, of which the greatest stands for barred.
use Rattle.std.specs.Prelude.{◌≡◌, ℕ, Bool, true, cond, ◌||◌, ◌==◌, nat_le}
use Rattle.cost.specs.declared.Cost.{Cost}
use Rattle.cost.specs.declared.Cost.TheVariants.{Eighths, Barred}

-- the cost that a number stands for
abbrev pub as_cost : ℕ → Cost
as_cost n = cond (n == 4294967295) Barred (Eighths n)

-- the number is at most b, or stands for barred
abbrev pub within : ℕ → ℕ → Bool
within b n = nat_le n b || n == 4294967295

abbrev pub Within : ℕ → ℕ → Type 0
Within b n = within b n ≡ true
