use Rattle.std.proofs.Common.{◌≡◌, ℕ, ◌<◌, ◌≤◌, length, map, None, rules, arith}
use Rattle.std.specs.List.{range_with_len}
use Rattle.recursions.specs.Forward.{start_cell}
use Rattle.recursions.proofs.Locality.{counted_same}
use Rattle.columns.specs.Cells.{entry_at, stored_cell, cells_of, survivor_fits}
use Rattle.columns.specs.declared.column.Cell.{Cell}
use Rattle.columns.specs.declared.column.Column.{Column}
use Rattle.columns.proofs.Every.{every_from, sixteen_cells_within}
use Rattle.columns.proofs.column.Column.start.Goals as goal

-- whole columns from their cells
cells_by : (column : Column) → ((s : ℕ) → s < 16 → stored_cell (entry_at column s) ≡ start_cell s)
    → (n : ℕ) → n ≤ 16 → cells_of n column ≡ map start_cell (range_with_len 0 n)
unfolding cells_of
cells_by column same n few = counted_same (λ s. stored_cell (entry_at column s)) start_cell n (λ s lt. same s (omega arith))

pub returns : goal.returns
returns c =
    let column : Column = record { cells = c.from_fn.result } in
    let none : Cell = record { cost = 0; history = 0; survivor = None } in
    let long : length column.cells ≡ 16 = c.from_fn.ensures.items.long in
    record {
      cells = cells_by column (λ s lt. let h = c.from_fn.ensures.items.at s none lt in search rules);
      within = sixteen_cells_within 0 column long (λ s lt. let h = c.from_fn.ensures.items.at s none lt in search rules);
      survivors = every_from (λ (r : Cell). survivor_fits r.survivor) none column.cells (λ s lt. let h = c.from_fn.ensures.items.at s none (omega arith) in search rules);
    }
