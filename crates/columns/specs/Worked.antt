-- What is worked from stored columns: the rule's step on what they say.
use Rattle.std.specs.Prelude.{◌≡◌, ℕ, List}
use Rattle.channel.specs.Meaning.{Meaning}
use Rattle.burst.specs.declared.place.Place.{Place}
use Rattle.recursions.specs.Answers.{meeting}
use Rattle.recursions.specs.Backward.{backstep}
use Rattle.recursions.specs.Depths.{states}
use Rattle.recursions.specs.Forward.{step}
use Rattle.columns.specs.Cells.{cells_of, costs_of}
use Rattle.columns.specs.Numbers.{as_cost}
use Rattle.columns.specs.declared.column.Column.{Column}

-- the column r is the step from a stored column
abbrev pub Stepped : Meaning → ℕ → Place → Column → Column → Type 0
Stepped m q place column r = cells_of (states m q) r ≡ step m q place (cells_of (states m q) column)

-- the column r is the step back from a stored column, with the histories of a stored forward column
abbrev pub Backstepped : Meaning → ℕ → Place → Column → List ℕ → List ℕ → Type 0
Backstepped m q place column later r =
    costs_of (states m q) r ≡ backstep m q place (cells_of (states m q) column) (costs_of (states m q) later)

-- the number r stands for what a symbol costs where stored columns meet
abbrev pub Met : Meaning → ℕ → Place → Column → List ℕ → ℕ → ℕ → Type 0
Met m q place column later a r = as_cost r ≡ meeting m q place (cells_of (states m q) column) (costs_of (states m q) later) a
