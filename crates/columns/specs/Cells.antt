-- What a stored column says of its states.
use Rattle.std.specs.Prelude.{◌≡◌, ℕ, Bool, true, List, map, Some, None, Option, nat_lt, slice_index, slice_index_or}
use Rattle.std.specs.List.{range_with_len, list_all}
use Rattle.cost.specs.declared.Cost.{Cost}
use Rattle.recursions.specs.Forward as forward
use Rattle.columns.specs.Numbers.{as_cost, within}
use Rattle.columns.specs.declared.column.Cell.{Cell}
use Rattle.columns.specs.declared.column.Column.{Column}
use Rattle.columns.specs.declared.column.Survivor.{Survivor}

abbrev pub survivor_pair : Option Survivor → Option (ℕ × ℕ)
survivor_pair None = None
survivor_pair (Some v) = Some (v.state, v.symbol)

-- the stored cell of a state; past the sixteen one that no definition asks for
abbrev pub entry_at : Column → ℕ → Cell
entry_at column s = slice_index_or column.cells s (record { cost = 0; history = 0; survivor = None })

-- what a stored cell stands for
abbrev pub stored_cell : Cell → forward.Cell
stored_cell c = record { cost = as_cost c.cost; history = c.history; survivor = survivor_pair c.survivor }

-- what a stored column has for so many states
unfoldable pub cells_of : ℕ → Column → List forward.Cell
cells_of n column = map (λ s. stored_cell (entry_at column s)) (range_with_len 0 n)

-- a stored backward column's costs of so many states
unfoldable pub costs_of : ℕ → List ℕ → List Cost
costs_of n costs = map (λ s. as_cost (slice_index costs s)) (range_with_len 0 n)

-- each cost of a stored backward column is at most b or barred
abbrev pub CostsWithin : ℕ → List ℕ → Type 0
CostsWithin b costs = list_all (within b) costs ≡ true

-- each cost of a stored column is at most b or barred
abbrev pub CellsWithin : ℕ → Column → Type 0
CellsWithin b column = list_all (λ (c : Cell). within b c.cost) column.cells ≡ true

-- a survivor's state is one of sixteen
abbrev pub survivor_fits : Option Survivor → Bool
survivor_fits None = true
survivor_fits (Some v) = nat_lt v.state 16

-- each survivor comes from one of sixteen states
abbrev pub SurvivorsBelow : Column → Type 0
SurvivorsBelow column = list_all (λ (c : Cell). survivor_fits c.survivor) column.cells ≡ true
