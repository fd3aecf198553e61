-- The text of a cost: its number of eighths in decimal, or the word barred.
use Rattle.std.specs.Prelude.{ℕ, List, codes, decimal}
use Rattle.cost.specs.declared.Cost.{Cost}
use Rattle.cost.specs.declared.Cost.TheVariants.{Eighths, Barred}

abbrev pub cost_text : Cost → List ℕ
cost_text (Eighths n) = decimal n
cost_text Barred = codes "barred"
