-- How a state is entered: by the first pair with the least sum.
use Rattle.std.specs.Prelude.{◌≡◌, ℕ, ◌+◌, ◌*◌, ◌/◌, ◌%◌, ◌<◌, ◌≤◌, cond, List, Some, None, Option, ◌==◌, slice_index}
use Rattle.columns.specs.Cells.{entry_at}
use Rattle.columns.specs.declared.column.Cell.{Cell}
use Rattle.columns.specs.declared.column.Column.{Column}
use Rattle.columns.specs.declared.column.Survivor.{Survivor}
use Rattle.columns.specs.declared.shape.Shape.{Shape}

-- Of the pairs t, t + n, t + 2n, .., so many of them, p is the first that has the least sum. With n states, M such pairs lead to t.
pub record Picked (states : ℕ) (sums : List ℕ) (t ways p : ℕ) : Type 0 where
  pub way : ℕ
  pub few : way < ways
  pub place : p ≡ t + states * way
  pub least : (j : ℕ) → j < ways → slice_index sums p ≤ slice_index sums (t + states * j)
  pub first : (j : ℕ) → j < way → slice_index sums p < slice_index sums (t + states * j)

-- the history that a pair leaves, and the state itself where its sum is barred
abbrev pub history_by : ℕ → ℕ → Column → ℕ → ℕ → ℕ → ℕ
history_by symbols histories column t p cost = cond (cost == 4294967295) t ((p % symbols + symbols * (entry_at column (p / symbols)).history) % histories)

-- the pair as a survivor, none where its sum is barred
abbrev pub survivor_by : ℕ → ℕ → ℕ → Option Survivor
survivor_by symbols p cost = cond (cost == 4294967295) None (Some (record { state = p / symbols; symbol = p % symbols }))

-- t is entered by the pair that was picked
pub record Arrived (symbols states histories : ℕ) (column : Column) (sums : List ℕ) (t : ℕ) (r : Cell) : Type 0 where
  pub pair : ℕ
  pub picked : Picked states sums t symbols pair
  pub cost : r.cost ≡ slice_index sums pair
  pub history : r.history ≡ history_by symbols histories column t pair r.cost
  pub survivor : r.survivor ≡ survivor_by symbols pair r.cost

-- the same in the sizes of a shape
abbrev pub Entered : Shape → Column → List ℕ → ℕ → Cell → Type 0
Entered shape column sums t r = Arrived shape.symbols shape.states shape.histories column sums t r
