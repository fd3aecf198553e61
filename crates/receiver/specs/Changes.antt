-- What a call that changes a burst leaves in it, besides what stands: which columns it writes.
use Rattle.std.specs.Prelude.{◌≡◌, ℕ, ◌+◌, ◌-◌, ◌≤◌, map, replicate, Ok, Err, Result, slice_set}
use Rattle.burst.specs.declared.place.Place.{Place}
use Rattle.burst.specs.declared.refusal.Refusal.{Refusal}
use Rattle.std.specs.List.{range_with_len}
use Rattle.recursions.specs.Forward.{start_cell}
use Rattle.columns.specs.Cells.{cells_of}
use Rattle.columns.specs.declared.column.Column.{Column}
use Rattle.receiver.specs.Standing.{Standing, standing, added, deepened, shortened}
use Rattle.receiver.specs.declared.inner.Burst.{Burst}

-- a place more: the last backward column is written, no other
pub record Added (before after : Burst) (place : Place) : Type 0 where
  pub stands : standing after ≡ added (standing before) place
  pub shape : after.shape ≡ before.shape
  pub forward : after.forward ≡ before.forward
  pub backward : after.backward ≡ slice_set before.backward (before.count + 1) (replicate 16 0)

-- another depth: the first forward and the last backward column are written, no other
pub record Deepened (before after : Burst) (depth : ℕ) : Type 0 where
  pub start : Column
  pub first : (n : ℕ) → n ≤ 16 → cells_of n start ≡ map start_cell (range_with_len 0 n)
  pub stands : standing after ≡ deepened (standing before) depth
  pub forward : after.forward ≡ slice_set before.forward 0 start
  pub backward : after.backward ≡ slice_set before.backward before.count (replicate 16 0)

-- another place: what stands is given, and no column is written
pub record Altered (before after : Burst) (stands' : Standing) : Type 0 where
  pub stands : standing after ≡ stands'
  pub shape : after.shape ≡ before.shape
  pub forward : after.forward ≡ before.forward
  pub backward : after.backward ≡ before.backward

-- places fewer: the new last backward column is written, no other
pub record Shortened (before after : Burst) (n : ℕ) : Type 0 where
  pub stands : standing after ≡ shortened (standing before) n
  pub shape : after.shape ≡ before.shape
  pub forward : after.forward ≡ before.forward
  pub backward : after.backward ≡ slice_set before.backward (before.count - n) (replicate 16 0)

-- after a call: what it does, or after a refusal the burst as it was
abbrev pub Then : {X : Type 0} → Result X Refusal → Burst → Burst → Type 0 → Type 0
Then (Ok done) before after does = does
Then (Err e) before after does = after ≡ before

-- a check that passed shows a fact
abbrev pub Passed : Result (Unit {0}) Refusal → Type 0 → Type 0
Passed (Ok done) fact = fact
Passed (Err e) fact = Unit {0}
