-- The arithmetic of costs: barred exceeds every number, and barred plus anything is barred.
use Rattle.std.specs.Prelude.{◌+◌, ◌^◌, ◌<◌, ◌≤◌, min, Bool, true, false}
use Rattle.cost.specs.declared.Cost.{Cost}
use Rattle.cost.specs.declared.Cost.TheVariants.{Eighths, Barred}

abbrev pub plus : Cost → Cost → Cost
plus (Eighths m) (Eighths n) = Eighths (m + n)
plus (Eighths m) Barred = Barred
plus Barred d = Barred

abbrev pub least : Cost → Cost → Cost
least (Eighths m) (Eighths n) = Eighths (min m n)
least (Eighths m) Barred = Eighths m
least Barred d = d

-- c does not exceed d
abbrev pub AtMost : Cost → Cost → Type 0
AtMost (Eighths m) (Eighths n) = m ≤ n
AtMost (Eighths m) Barred = Unit {0}
AtMost Barred (Eighths n) = ⊥
AtMost Barred Barred = Unit {0}

-- c is barred or a number of 32 bits
abbrev pub Fits32 : Cost → Type 0
Fits32 (Eighths n) = n < 2 ^ 32
Fits32 Barred = Unit {0}

abbrev pub barred : Cost → Bool
barred (Eighths n) = false
barred Barred = true
