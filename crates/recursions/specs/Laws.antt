-- What the recursions answer, said of sequences and their totals.
use Rattle.std.specs.Prelude.{◌≡◌, ℕ, ◌<◌, true, List, length, ◌≢◌, nat_eq, slice_index}
use Rattle.cost.specs.declared.Cost.TheVariants.{Barred}
use Rattle.channel.specs.Meaning.{Meaning, Lawful}
use Rattle.joining.specs.Costs.{cost_operations}
use Rattle.trellis.specs.Sequences.{Sequence, join_below}
use Rattle.trellis.specs.Least.{IsLeast}
use Rattle.burst.specs.Sequences.{total}
use Rattle.burst.specs.declared.place.Place.{Place}
use Rattle.recursions.specs.Depths.{states, depth_allowed}
use Rattle.recursions.specs.Forward.{cell_at, forward}
use Rattle.recursions.specs.Answers.{value_cost, best, shown}

-- What holds of the best and of the shown sequence.
pub record BestShown (m : Meaning) (q : ℕ) (places : List Place) : Type 0 where
  -- the least cost at every place is the best
  pub everywhere : (k : ℕ) → k < length places → join_below cost_operations m.symbols (value_cost m q places k) ≡ best m q places
  -- a symbol is shown for each place
  pub sequence : Sequence m.symbols (length places) (shown m q places)
  -- the best is the true total of the shown sequence, which so is admitted
  pub totals : total m places (shown m q places) ≡ best m q places
  -- the shown symbol costs the best at each place
  pub costs : (k : ℕ) → k < length places → value_cost m q places k (slice_index (shown m q places) k) ≡ best m q places

-- At any depth, unless the best is barred.
abbrev pub BestIsShown : Type 0
BestIsShown =
    (m : Meaning) → Lawful m → (q : ℕ) → depth_allowed m q ≡ true → (places : List Place) → (best m q places ≢ Barred) → BestShown m q places

-- At full depth every history is its state.
abbrev pub FullDepthRemembers : Type 0
FullDepthRemembers =
    (m : Meaning) → Lawful m → depth_allowed m m.memory ≡ true → (places : List Place) (k s : ℕ) → s < states m m.memory
    → (cell_at (forward m m.memory places k) s).history ≡ s

-- At full depth the cost of a value at a place is the least total of all sequences with that value there, and barred exactly if none of them is admitted.
abbrev pub FullDepthIsLeast : Type 0
FullDepthIsLeast =
    (m : Meaning) → Lawful m → depth_allowed m m.memory ≡ true → (places : List Place) (k a : ℕ) → k < length places → a < m.symbols
    → IsLeast m.symbols (length places) (λ sequence. nat_eq a (slice_index sequence k)) (total m places) (value_cost m m.memory places k a)
