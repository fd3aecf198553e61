-- A burst at another depth, and one without places: what they keep, and that they are sound.
use Rattle.std.proofs.Common.{◌≡◌, ℕ, ◌≤◌, true, List, [], map, length, take, set, replicate, sym, ap, ◌∙◌, arith, get_or-set_same}
use lib.ListN.{get_or-replicate}
use Rattle.std.specs.List.{range_with_len}
use Rattle.channel.specs.Meaning.{Meaning}
use Rattle.burst.specs.declared.place.Place.{Place}
use Rattle.recursions.specs.Depths.{states, depth_allowed}
use Rattle.recursions.specs.Forward.{forward, start_cell}
use Rattle.recursions.proofs.Depths.{allowed_keeps}
use Rattle.columns.specs.Cells.{CellsWithin, SurvivorsBelow, cells_of, costs_of}
use Rattle.columns.specs.Shapes.{Shapes}
use Rattle.columns.specs.declared.column.Column.{Column}
use Rattle.columns.specs.declared.shape.Shape.{Shape}
use Rattle.receiver.specs.Bursts.{Kept, places_of, forward_at, backward_at}
use Rattle.receiver.specs.Sound.{Sound}
use Rattle.receiver.specs.declared.inner.Burst.{Burst}
use Rattle.receiver.proofs.Places.{places_long, zeros, zeros_last, backward_end}

-- what the first column is
pub record IsStart (start : Column) : Type 0 where
  pub cells : (n : ℕ) → n ≤ 16 → cells_of n start ≡ map start_cell (range_with_len 0 n)
  pub within : CellsWithin 0 start
  pub survivors : SurvivorsBelow start

-- the first column is right at every depth
start_right : (start : Column) → IsStart start → (m : Meaning) (q : ℕ) → depth_allowed m q ≡ true → (places : List Place)
    → cells_of (states m q) start ≡ forward m q places 0
unfolding forward
start_right start is m q allowed places = is.cells (states m q) (allowed_keeps m q allowed).few_states

-- the burst at another depth
abbrev pub with_depth : Burst → ℕ → Shape → Column → Burst
with_depth b depth shape start = record {
  places = b.places;
  count = b.count;
  depth = depth;
  shape = shape;
  forward = set b.forward 0 start;
  backward = set b.backward b.count zeros;
  marks = record { forward = 0; backward = b.count };
}

module _ (b : Burst) (depth : ℕ) (shape : Shape) (start : Column) (is : IsStart start) (kept : Kept b) where
  first_written : (k : ℕ) → k ≤ 0 → forward_at (with_depth b depth shape start) k ≡ start
  first_written k le =
      let none : k ≡ 0 = omega arith in
      ap (forward_at (with_depth b depth shape start)) none ∙ get_or-set_same b.forward 0 start _ (omega (arith, kept.sized.forward))

  last_written : (k : ℕ) → b.count ≤ k → k ≤ b.count → backward_at (with_depth b depth shape start) k ≡ zeros
  last_written k low high =
      let here : k ≡ b.count = omega arith in
      ap (backward_at (with_depth b depth shape start)) here ∙ get_or-set_same b.backward b.count zeros [] (omega (arith, kept.sized.backward, kept.sized.few))

  pub deepen_sound : (m : Meaning) → depth_allowed m depth ≡ true → Shapes m depth shape → Sound m b → Sound m (with_depth b depth shape start)
  deepen_sound m allowed shapes sound = record {
    shaped = record { allowed = allowed; shape = shapes };
    fits = sound.fits;
    forward = λ k le.
        let none : 0 ≡ k = omega arith in
        ap (cells_of (states m depth)) (first_written k le)
        ∙ start_right start is m depth allowed (places_of b)
        ∙ ap (forward m depth (places_of b)) none;
    backward = λ k low high.
        ap (costs_of (states m depth)) (last_written k low high)
        ∙ zeros_last m depth (allowed_keeps m depth allowed).few_states
        ∙ sym (backward_end m depth (places_of b) k (omega (arith, places_long b kept.sized)));
  }

-- the burst without places
abbrev pub without : List Place → ℕ → Shape → Column → Burst
without places depth shape start = record {
  places = places;
  count = 0;
  depth = depth;
  shape = shape;
  forward = replicate 129 start;
  backward = replicate 129 zeros;
  marks = record { forward = 0; backward = 0 };
}

module _ (places : List Place) (depth : ℕ) (shape : Shape) (start : Column) (is : IsStart start) (long : length places ≡ 128) where
  first_column : (k : ℕ) → k ≤ 0 → forward_at (without places depth shape start) k ≡ start
  first_column k le = get_or-replicate 129 k start _ (omega arith)

  last_column_lem : (k : ℕ) → k ≤ 0 → backward_at (without places depth shape start) k ≡ zeros
  last_column_lem k le = get_or-replicate 129 k zeros [] (omega arith)

  pub new_sound : (m : Meaning) → depth_allowed m depth ≡ true → Shapes m depth shape → Sound m (without places depth shape start)
  new_sound m allowed shapes = record {
    shaped = record { allowed = allowed; shape = shapes };
    fits = λ k lt. absurd (omega arith);
    forward = λ k le.
        let none : 0 ≡ k = omega arith in
        ap (cells_of (states m depth)) (first_column k le) ∙ start_right start is m depth allowed (take 0 places) ∙ ap (forward m depth (take 0 places)) none;
    backward = λ k low high.
        ap (costs_of (states m depth)) (last_column_lem k high)
        ∙ zeros_last m depth (allowed_keeps m depth allowed).few_states
        ∙ sym (backward_end m depth (take 0 places) k (omega arith));
  }
