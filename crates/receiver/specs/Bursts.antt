-- What a burst in a receiver holds.
use Rattle.std.specs.Prelude.{◌≡◌, ℕ, ◌-◌, ◌*◌, ◌≤◌, List, [], length, take, slice_index_or}
use Rattle.burst.specs.declared.place.Place.{Place}
use Rattle.columns.specs.Cells.{CellsWithin, CostsWithin, SurvivorsBelow}
use Rattle.columns.specs.declared.column.Column.{Column}
use Rattle.receiver.specs.declared.inner.Burst.{Burst}

-- the places that it has
abbrev pub places_of : Burst → List Place
places_of b = take b.count b.places

-- a column of a list; past its end one that no definition asks for
abbrev pub column_at : List Column → ℕ → Column
column_at columns k = slice_index_or columns k (record { cells = [] })

-- the stored columns
abbrev pub forward_at : Burst → ℕ → Column
forward_at b k = column_at b.forward k

abbrev pub backward_at : Burst → ℕ → List ℕ
backward_at b k = slice_index_or b.backward k []

-- The numbers of the fresh columns are small, right or wrong: each place adds one weight at most.
abbrev pub ForwardCosts : Burst → Type 0
ForwardCosts b = (k : ℕ) → k ≤ b.marks.forward → CellsWithin (131069 * k) (forward_at b k)

abbrev pub BackwardCosts : Burst → Type 0
BackwardCosts b = (k : ℕ) → b.marks.backward ≤ k → k ≤ b.count → CostsWithin (131069 * (b.count - k)) (backward_at b k)

-- and their survivors come from one of sixteen states
abbrev pub ForwardSurvivors : Burst → Type 0
ForwardSurvivors b = (k : ℕ) → k ≤ b.marks.forward → SurvivorsBelow (forward_at b k)

-- The sizes of a burst's lists, and its marks.
pub record Sized (b : Burst) : Type 0 where
  pub places : length b.places ≡ 128
  pub forward : length b.forward ≡ 129
  pub backward : length b.backward ≡ 129
  pub few : b.count ≤ 128
  pub ahead : b.marks.forward ≤ b.count
  pub behind : b.marks.backward ≤ b.count

-- What every call on a receiver keeps, whatever its columns hold.
pub record Kept (b : Burst) : Type 0 where
  pub sized : Sized b
  pub costs : ForwardCosts b
  pub survivors : ForwardSurvivors b
  pub onward : BackwardCosts b

-- every column is fresh
pub record Fresh (b : Burst) : Type 0 where
  pub forward : b.marks.forward ≡ b.count
  pub backward : b.marks.backward ≡ 0
