-- A column whose states are all entered is the rule's step.
use Rattle.std.proofs.Common.{◌≡◌, ℕ, ◌+◌, ◌<◌, ◌≤◌, Bool, true, false, cond, List, length, get_or, Some, None, Option, sym, refl, ap, subst, inl, inr, arith}
use Rattle.std.proofs.lemmas.Bool.{cases_lt, lt-ltb}
use Rattle.channel.specs.Meaning.{Meaning}
use Rattle.burst.specs.Histories.{histories}
use Rattle.burst.specs.declared.place.Place.{Place}
use Rattle.recursions.specs.Depths.{states}
use Rattle.recursions.specs.Forward.{cell_of, least_into, step}
use Rattle.recursions.specs.Forward as forward
use Rattle.recursions.proofs.Locality.{counted_same}
use Rattle.columns.specs.Numbers.{Within}
use Rattle.columns.specs.Arrivals.{Arrived, Entered}
use Rattle.columns.specs.Cells.{entry_at, cells_of, stored_cell, survivor_fits, CellsWithin, SurvivorsBelow}
use Rattle.columns.specs.Pairs.{Weighed, Extended}
use Rattle.columns.specs.Shapes.{Shapes}
use Rattle.columns.specs.declared.column.Cell.{Cell}
use Rattle.columns.specs.declared.column.Column.{Column}
use Rattle.columns.specs.declared.column.Survivor.{Survivor}
use Rattle.columns.specs.declared.shape.Shape.{Shape}
use Rattle.columns.proofs.Every.{every_from, sixteen_cells_within}
use Rattle.columns.proofs.Pairs.{state_of_lem}
use Rattle.columns.proofs.Numbers.{within_top}
use Rattle.columns.proofs.Picks.{picked_below}
use Rattle.columns.proofs.Steps.{cell_is}
use Rattle.columns.proofs.Sums.{cell_at_lem, sum_bounded, sums_are, sums_fit}

-- the sizes of a shape are those of the meaning
entered_of : (m : Meaning) (q : ℕ) (shape : Shape) → Shapes m q shape → (column : Column) (sums : List ℕ) (t : ℕ) (r : Cell)
    → Entered shape column sums t r → Arrived m.symbols (states m q) (histories m) column sums t r
entered_of m q shape shapes column sums t r entered =
    subst (λ (h : ℕ). Arrived m.symbols (states m q) h column sums t r) shapes.histories
    (subst (λ (n : ℕ). Arrived m.symbols n shape.histories column sums t r) shapes.states
    (subst (λ (k : ℕ). Arrived k shape.states shape.histories column sums t r) shapes.symbols entered))

-- whole columns from their cells
cells_by : (m : Meaning) (q : ℕ) (place : Place) (cells : List forward.Cell) (next : Column)
    → ((t : ℕ) → t < states m q → stored_cell (entry_at next t) ≡ cell_of m q place cells t (least_into m q place cells t))
    → cells_of (states m q) next ≡ step m q place cells
unfolding cells_of step
cells_by m q place cells next same = counted_same (λ t. stored_cell (entry_at next t)) (λ t. cell_of m q place cells t (least_into m q place cells t)) (states m q) same

module _ (m : Meaning) (q : ℕ) (shape : Shape) (shapes : Shapes m q shape) (place : Place) (column : Column) (weights : List ℕ)
    (weighed : Weighed m shape place column weights)
    (b : ℕ) (within : CellsWithin b column) (low : b ≤ 40000000) (sums : List ℕ)
    (summed : Extended shape column weights sums)
    (next : Column) (entered : (t : ℕ) → t < shape.states → Entered shape column sums t (entry_at next t)) where
  cell_of_lem : (t : ℕ) → t < states m q
      → stored_cell (entry_at next t) ≡ cell_of m q place (cells_of (states m q) column) t (least_into m q place (cells_of (states m q) column) t)
  cell_of_lem t lt =
      cell_is m q place (cells_of (states m q) column) sums (omega (arith, shapes.symbols, shape.some)) (omega arith)
      (sums_are m q shape shapes place column weights weighed b within low sums summed)
      (sums_fit m q shape shapes place column weights weighed b within low sums summed)
      column (λ s ls. ap (λ (c : forward.Cell). c.history) (cell_at_lem (states m q) column s ls))
      t (entry_at next t) lt (entered_of m q shape shapes column sums t (entry_at next t) (entered t (omega (arith, shapes.states))))

  pub stepped_by : cells_of (states m q) next ≡ step m q place (cells_of (states m q) column)
  stepped_by = cells_by m q place (cells_of (states m q) column) next cell_of_lem

-- a worked column adds one weight at most
pub stepped_within : (shape : Shape) (column : Column) (weights : List ℕ) → ((p : ℕ) → p < 64 → Within 131069 (get_or weights p 0))
    → (sums : List ℕ) → Extended shape column weights sums
    → (next : Column) → length next.cells ≡ 16 → ((t : ℕ) → t < shape.states → Entered shape column sums t (entry_at next t))
    → ((t : ℕ) → shape.states ≤ t → t < 16 → (entry_at next t).cost ≡ 4294967295)
    → (b : ℕ) → CellsWithin b column → b ≤ 40000000 → CellsWithin (b + 131069) next
stepped_within shape column weights small sums summed next long entered barred b within low =
    sixteen_cells_within (b + 131069) next long (λ t lt.
    elim (cases_lt t shape.states) [
      | inl there ↦
          let p : ℕ = (entered t there).pair in
          subst (Within (b + 131069)) (sym (entered t there).cost)
          (sum_bounded shape column weights sums small summed b within low p
          (picked_below shape sums t shape.symbols p (omega arith) there (entered t there).picked))
      | inr past ↦ within_top (b + 131069) ((entry_at next t).cost) (barred t past lt)
    ])

-- a survivor by a pair comes from the pair's state
state_below_by : (b : Bool) (v : Survivor) → v.state < 16 → survivor_fits (cond b None (Some v)) ≡ true
state_below_by true v below = refl
state_below_by false v below = lt-ltb _ _ below

-- every survivor of a worked column comes from one of sixteen states
pub survivors_below : (shape : Shape) (column : Column) (sums : List ℕ) (next : Column) → length next.cells ≡ 16
    → ((t : ℕ) → t < shape.states → Entered shape column sums t (entry_at next t))
    → ((t : ℕ) → shape.states ≤ t → t < 16 → (entry_at next t).survivor ≡ None) → SurvivorsBelow next
survivors_below shape column sums next long entered barred =
    every_from (λ (c : Cell). survivor_fits c.survivor) _ next.cells (λ t lt.
    elim (cases_lt t shape.states) [
      | inl there ↦
          let p : ℕ = (entered t there).pair in
          subst (λ (v : Option Survivor). survivor_fits v ≡ true) (sym (entered t there).survivor)
          (state_below_by _ _ (state_of_lem shape p (picked_below shape sums t shape.symbols p (omega arith) there (entered t there).picked)))
      | inr past ↦ ap survivor_fits (barred t past (omega arith))
    ])
