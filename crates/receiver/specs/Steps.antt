-- One column worked, and many: what is left as found, and what is worked from its stored neighbour.
use Rattle.std.specs.Prelude.{◌≡◌, ℕ, ◌+◌, ◌-◌, ◌*◌, ◌<◌, ◌≤◌}
use Rattle.channel.specs.Meaning.{Meaning}
use Rattle.burst.specs.Sequences.{place_at}
use Rattle.columns.specs.Cells.{CellsWithin, CostsWithin, SurvivorsBelow}
use Rattle.columns.specs.Shapes.{Shapes}
use Rattle.columns.specs.Worked.{Stepped, Backstepped}
use Rattle.receiver.specs.Bursts.{places_of, forward_at, backward_at}
use Rattle.receiver.specs.declared.inner.Burst.{Burst}

-- all but columns and marks
pub record SameRest (before after : Burst) : Type 0 where
  pub places : after.places ≡ before.places
  pub count : after.count ≡ before.count
  pub depth : after.depth ≡ before.depth
  pub shape : after.shape ≡ before.shape

-- Forward columns are worked up to the new mark, one from the other; those up to the old mark and past the new one are left.
pub record Climbed (m : Meaning) (before after : Burst) : Type 0 where
  pub rest : SameRest before after
  pub backward : after.backward ≡ before.backward
  pub behind : after.marks.backward ≡ before.marks.backward
  pub from : before.marks.forward ≤ after.marks.forward
  pub kept : (i : ℕ) → i ≤ before.marks.forward → forward_at after i ≡ forward_at before i
  pub past : (i : ℕ) → after.marks.forward < i → forward_at after i ≡ forward_at before i
  pub survivors : (i : ℕ) → before.marks.forward < i → i ≤ after.marks.forward → SurvivorsBelow (forward_at after i)
  pub bounded : (b : ℕ) → b ≤ 20000000 → CellsWithin b (forward_at before before.marks.forward)
      → (i : ℕ) → before.marks.forward ≤ i → i ≤ after.marks.forward → CellsWithin (b + 131069 * (i - before.marks.forward)) (forward_at after i)
  pub worked : (q b : ℕ) → Shapes m q before.shape → b ≤ 20000000 → CellsWithin b (forward_at before before.marks.forward)
      → (i : ℕ) → before.marks.forward ≤ i → i < after.marks.forward
      → Stepped m q (place_at (places_of before) i) (forward_at after i) (forward_at after (i + 1))

-- Backward columns are worked down to the new mark; those from the old mark on and before the new one are left.
pub record Descended (m : Meaning) (before after : Burst) : Type 0 where
  pub rest : SameRest before after
  pub forward : after.forward ≡ before.forward
  pub ahead : after.marks.forward ≡ before.marks.forward
  pub to : after.marks.backward ≤ before.marks.backward
  pub kept : (i : ℕ) → before.marks.backward ≤ i → backward_at after i ≡ backward_at before i
  pub bounded : (b : ℕ) → b ≤ 20000000 → CostsWithin b (backward_at before before.marks.backward)
      → (i : ℕ) → after.marks.backward ≤ i → i ≤ before.marks.backward → CostsWithin (b + 131069 * (before.marks.backward - i)) (backward_at after i)
  pub worked : (q b : ℕ) → Shapes m q before.shape → b ≤ 20000000 → CostsWithin b (backward_at before before.marks.backward)
      → (i : ℕ) → after.marks.backward ≤ i → i < before.marks.backward
      → Backstepped m q (place_at (places_of before) i) (forward_at before i) (backward_at after (i + 1)) (backward_at after i)
