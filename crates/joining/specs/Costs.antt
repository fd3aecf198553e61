-- Costs as a joining: the lesser of two, and the sum of two.
use Rattle.cost.specs.declared.Cost.{Cost}
use Rattle.cost.specs.declared.Cost.TheVariants.{Eighths, Barred}
use Rattle.cost.specs.Arithmetic.{plus, least}
use Rattle.joining.specs.Laws.{Operations}

abbrev pub cost_operations : Operations Cost
cost_operations = record { none = Barred; unit = Eighths 0; join = least; follow = plus }
