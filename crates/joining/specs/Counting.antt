-- The count joining: how many ways there are, from 0 to 65,535. What exceeds that is cut to it.
use Rattle.std.specs.Prelude.{ℕ, ◌+◌, ◌*◌, min}
use Rattle.std.proofs.Math.Nat.{min-le_right}
use Rattle.cost.specs.declared.Cost.{Cost}
use Rattle.cost.specs.declared.Cost.TheVariants.{Eighths, Barred}
use Rattle.joining.specs.Laws.{Operations}
use Rattle.joining.specs.declared.Count.{Count}

-- the element of a number, cut at the greatest
abbrev pub count_of : ℕ → Count
count_of n = record { number = min n 65535; fits = min-le_right n 65535 }

abbrev pub count_operations : Operations Count
count_operations = record {
  none = count_of 0;
  unit = count_of 1;
  join = λ x y. count_of (x.number + y.number);
  follow = λ x y. count_of (x.number * y.number);
}

-- every number is one way
abbrev pub count_worth : Cost → Count
count_worth (Eighths n) = count_of 1
count_worth Barred = count_of 0
