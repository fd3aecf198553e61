-- The least-cost joining: 32-bit numbers, the lesser of two, and the sum of two. The greatest number is none, and what exceeds it is cut to it.
use Rattle.std.specs.Prelude.{ℕ, ◌+◌, min}
use Rattle.std.proofs.Math.Nat.{min-le_right}
use Rattle.cost.specs.declared.Cost.{Cost}
use Rattle.cost.specs.declared.Cost.TheVariants.{Eighths, Barred}
use Rattle.joining.specs.Laws.{Operations}
use Rattle.joining.specs.declared.LeastCost.{LeastCost}

-- the element of a number, cut at the greatest
abbrev pub least_cost : ℕ → LeastCost
least_cost n = record { number = min n 4294967295; fits = min-le_right n 4294967295 }

abbrev pub least_cost_operations : Operations LeastCost
least_cost_operations = record {
  none = least_cost 4294967295;
  unit = least_cost 0;
  join = λ x y. least_cost (min x.number y.number);
  follow = λ x y. least_cost (x.number + y.number);
}

-- a number of eighths is worth itself
abbrev pub least_cost_worth : Cost → LeastCost
least_cost_worth (Eighths n) = least_cost n
least_cost_worth Barred = least_cost 4294967295
