-- What settling makes of any stored columns, right or wrong: fresh ones stay as found, every other is worked from its stored neighbour.
use Rattle.std.specs.Prelude.{◌≡◌, ℕ, ◌+◌, ◌<◌, ◌≤◌, Some, None, Option}
use Rattle.cost.specs.declared.Cost.{Cost}
use Rattle.cost.specs.declared.Cost.TheVariants.{Eighths, Barred}
use Rattle.channel.specs.Meaning.{Meaning}
use Rattle.burst.specs.Sequences.{place_at}
use Rattle.recursions.specs.Answers.{least_of, best}
use Rattle.recursions.specs.Depths.{states}
use Rattle.columns.specs.Cells.{CellsWithin, cells_of, CostsWithin}
use Rattle.columns.specs.Worked.{Stepped, Backstepped}
use Rattle.receiver.specs.Bursts.{places_of, forward_at, backward_at}
use Rattle.receiver.specs.Sound.{Sound}
use Rattle.receiver.specs.Standing.{standing, settled}
use Rattle.receiver.specs.Steps.{SameRest}
use Rattle.receiver.specs.declared.inner.Burst.{Burst}

-- the cost that a best is: none is barred
abbrev pub best_cost : Option ℕ → Cost
best_cost None = Barred
best_cost (Some n) = Eighths n

-- the costs of a fresh column are barred or at most 20,000,000
pub record Bounded (b : Burst) : Type 0 where
  pub forward : (k : ℕ) → k ≤ b.marks.forward → CellsWithin 20000000 (forward_at b k)
  pub backward : (k : ℕ) → b.marks.backward ≤ k → k ≤ b.count → CostsWithin 20000000 (backward_at b k)

-- Which columns stay as found, with histories and survivors, and what stands.
pub record Left (before after : Burst) : Type 0 where
  pub stands : standing after ≡ settled (standing before)
  pub rest : SameRest before after
  pub forward : (k : ℕ) → k ≤ before.marks.forward → forward_at after k ≡ forward_at before k
  pub forward_past : (k : ℕ) → before.count < k → forward_at after k ≡ forward_at before k
  pub backward : (k : ℕ) → before.marks.backward ≤ k → backward_at after k ≡ backward_at before k

-- Every other column is worked from its stored neighbour, and the best is the least of the last forward column.
pub record Worked (m : Meaning) (before after : Burst) (told : Option ℕ) : Type 0 where
  pub forward : (k : ℕ) → before.marks.forward ≤ k → k < before.count
      → Stepped m before.depth (place_at (places_of before) k) (forward_at after k) (forward_at after (k + 1))
  pub backward : (k : ℕ) → k < before.marks.backward
      → Backstepped m before.depth (place_at (places_of before) k) (forward_at after k) (backward_at after (k + 1)) (backward_at after k)
  pub best : best_cost told ≡ least_of m before.depth (cells_of (states m before.depth) (forward_at after before.count))

-- A sound burst is sound when settled, and the best is that of the recursion.
pub record SettledSound (m : Meaning) (before after : Burst) (told : Option ℕ) : Type 0 where
  pub sound : Sound m after
  pub best : best_cost told ≡ best m before.depth (places_of before)
