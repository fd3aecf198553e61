-- What each element of a list passes.
use Rattle.std.proofs.Common.{◌≡◌, ℕ, zero, suc, ◌<◌, ◌≤◌, Bool, true, List, [], ◌∷◌, length, get_or, inl, inr, arith}
use Rattle.std.specs.List.{list_all}
use Rattle.std.proofs.lemmas.Bool.{and_parts}
use Rattle.std.proofs.lemmas.List.Elements.{All-from_get_or}
use Rattle.std.proofs.lemmas.List.Sums.{list_all-from_AllPass}
use Rattle.columns.specs.Numbers.{within, Within}
use Rattle.columns.specs.Cells.{entry_at, CostsWithin, CellsWithin}
use Rattle.columns.specs.declared.column.Cell.{Cell}
use Rattle.columns.specs.declared.column.Column.{Column}
use Rattle.columns.proofs.Numbers.{within_low, within_more, within_cases}

module _ {X : Type 0} (passes : X → Bool) (d : X) where
  -- the element at any place, if what stands for none passes too
  pub every_at : passes d ≡ true → (xs : List X) → list_all passes xs ≡ true → (s : ℕ) → passes (get_or xs s d) ≡ true
  every_at past [] all s = past
  every_at past (x ∷ xs) all zero = (and_parts (passes x) (list_all passes xs) all).0
  every_at past (x ∷ xs) all (suc s) = every_at past xs (and_parts (passes x) (list_all passes xs) all).1 s

  pub every_from : (xs : List X) → ((s : ℕ) → s < length xs → passes (get_or xs s d) ≡ true) → list_all passes xs ≡ true
  every_from xs each = list_all-from_AllPass passes xs (All-from_get_or (λ x. passes x ≡ true) xs d each)

-- the cost at any place
pub cost_within : (b : ℕ) (costs : List ℕ) → CostsWithin b costs → (s : ℕ) → Within b (get_or costs s 0)
cost_within b costs all s = every_at (within b) 0 (within_low b 0 (omega arith)) costs all s

-- sixteen costs from each
pub sixteen_within : (b : ℕ) (costs : List ℕ) → length costs ≡ 16 → ((s : ℕ) → s < 16 → Within b (get_or costs s 0)) → CostsWithin b costs
sixteen_within b costs long each = every_from (within b) 0 costs (λ s lt. each s (omega arith))

-- the same of the cells of a column
pub cell_within : (b : ℕ) (column : Column) → CellsWithin b column → (s : ℕ) → Within b (entry_at column s).cost
cell_within b column all s = every_at (λ (c : Cell). within b c.cost) _ (within_low b 0 (omega arith)) column.cells all s

pub sixteen_cells_within : (b : ℕ) (column : Column) → length column.cells ≡ 16 → ((s : ℕ) → s < 16 → Within b (entry_at column s).cost) → CellsWithin b column
sixteen_cells_within b column long each = every_from (λ (c : Cell). within b c.cost) _ column.cells (λ s lt. each s (omega arith))

-- what is within a bound is within a greater one
pub cells_more : (b d : ℕ) (column : Column) → b ≤ d → CellsWithin b column → CellsWithin d column
cells_more b d column more all = every_from (λ (c : Cell). within d c.cost) _ column.cells (λ s lt. within_more b d _ more (cell_within b column all s))

pub costs_more : (b d : ℕ) (costs : List ℕ) → b ≤ d → CostsWithin b costs → CostsWithin d costs
costs_more b d costs more all = every_from (within d) 0 costs (λ s lt. within_more b d _ more (cost_within b costs all s))

pub cell_fits : (b : ℕ) (column : Column) → b ≤ 4294967295 → CellsWithin b column → (s : ℕ) → (entry_at column s).cost ≤ 4294967295
cell_fits b column low all s =
    elim (within_cases b (entry_at column s).cost (cell_within b column all s)) [ inl fits ↦ omega arith | inr top ↦ omega arith ]
