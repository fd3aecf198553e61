-- Columns worked from right ones are right.
use Rattle.std.proofs.Common.{◌≡◌, ℕ, zero, suc, ◌+◌, ◌-◌, ◌<◌, ◌≤◌, true, List, length, Option, sym, ap, ◌∙◌, subst, ap₂, inl, inr, add-one, arith}
use Rattle.std.proofs.lemmas.Bool.{cases_lt}
use Rattle.channel.specs.Meaning.{Meaning}
use Rattle.burst.specs.Sequences.{place_at}
use Rattle.burst.specs.declared.place.Place.{Place}
use Rattle.recursions.specs.Answers.{least_of}
use Rattle.recursions.specs.Backward.{backward, backward_of, backstep}
use Rattle.recursions.specs.Depths.{states, depth_allowed}
use Rattle.recursions.specs.Forward.{Cell, forward, step}
use Rattle.columns.specs.Cells.{cells_of, costs_of}
use Rattle.columns.specs.Shapes.{Shapes}
use Rattle.columns.specs.declared.shape.Shape.{Shape}
use Rattle.receiver.specs.Bursts.{Sized, places_of, forward_at, backward_at}
use Rattle.receiver.specs.Settling.{Left, Worked, SettledSound}
use Rattle.receiver.specs.Sound.{Fits, Sound}
use Rattle.receiver.specs.Standing.{Standing}
use Rattle.receiver.specs.declared.inner.Burst.{Burst}
use Rattle.receiver.proofs.Places.{places_long}

module _ (m : Meaning) (b z : Burst) (told : Option ℕ) (sized : Sized b) (left : Left b z) (worked : Worked m b z told) (sound : Sound m b) where
  abbrev q : ℕ
  q = b.depth

  abbrev places : List Place
  places = places_of b

  -- a fresh forward column is right already
  fresh_up : (k : ℕ) → k ≤ b.marks.forward → cells_of (states m q) (forward_at z k) ≡ forward m q places k
  fresh_up k fresh = ap (cells_of (states m q)) (left.forward k fresh) ∙ sound.forward k fresh

  -- one worked from a right one is right
  step_up : (k : ℕ) → b.marks.forward ≤ k → k < b.count → cells_of (states m q) (forward_at z k) ≡ forward m q places k
      → cells_of (states m q) (forward_at z (suc k)) ≡ forward m q places (suc k)
  unfolding forward
  step_up k ge lt right =
      ap (λ (i : ℕ). cells_of (states m q) (forward_at z i)) (sym (add-one k))
      ∙ worked.forward k ge lt ∙ ap (step m q (place_at places k)) right

  up : (k : ℕ) → k ≤ b.count → cells_of (states m q) (forward_at z k) ≡ forward m q places k
  up zero le = fresh_up zero (omega arith)
  up (suc k) le =
      elim (cases_lt k b.marks.forward) [
        | inl fresh ↦ fresh_up (suc k) (omega arith)
        | inr past ↦ step_up k past (omega arith) (up k (omega arith))
      ]

  -- a fresh backward column is right already
  fresh_down : (left' k : ℕ) → k + left' ≡ b.count → b.marks.backward ≤ k → costs_of (states m q) (backward_at z k) ≡ backward_of m q places left' k
  fresh_down left' k at fresh =
      let rest : length places - k ≡ left' = omega (arith, places_long b sized) in
      ap (costs_of (states m q)) (left.backward k fresh) ∙ sound.backward k fresh (omega arith) ∙ ap (λ (n : ℕ). backward_of m q places n k) rest

  step_down : (left' k : ℕ) → k < b.marks.backward → k < b.count → costs_of (states m q) (backward_at z (suc k)) ≡ backward_of m q places left' (suc k)
      → costs_of (states m q) (backward_at z k) ≡ backward_of m q places (suc left') k
  unfolding backward_of
  step_down left' k lt within right =
      worked.backward k lt
      ∙ ap₂ (λ (cells : List Cell) (i : ℕ). backstep m q (place_at places k) cells (costs_of (states m q) (backward_at z i))) (up k (omega arith)) (add-one k)
      ∙ ap (backstep m q (place_at places k) (forward m q places k)) right

  down : (left' k : ℕ) → k + left' ≡ b.count → costs_of (states m q) (backward_at z k) ≡ backward_of m q places left' k
  down zero k at = fresh_down zero k at (omega (arith, sized.behind))
  down (suc left') k at =
      elim (cases_lt k b.marks.backward) [
        | inl past ↦ step_down left' k past (omega arith) (down left' (suc k) (omega arith))
        | inr fresh ↦ fresh_down (suc left') k at fresh
      ]

  depth_is : z.depth ≡ q
  depth_is = left.rest.depth

  places_are : places_of z ≡ places
  places_are = ap (λ (s : Standing). s.places) left.stands

  pub settled_sound : SettledSound m b z told
  settled_sound = record {
    sound = record {
      shaped = record {
        allowed = subst (λ (d : ℕ). depth_allowed m d ≡ true) (sym depth_is) sound.shaped.allowed;
        shape =
            subst (λ (s : Shape). Shapes m z.depth s) (sym left.rest.shape) (subst (λ (d : ℕ). Shapes m d b.shape) (sym depth_is) sound.shaped.shape);
      };
      fits = λ k lt. subst (λ (ps : List Place). Fits m (place_at ps k)) (sym places_are) (sound.fits k (omega (arith, left.rest.count)));
      forward = λ k le. right_forward k (omega (arith, ap (λ (s : Standing). s.forward) left.stands, places_long b sized));
      backward = λ k ge le. right_backward k (omega (arith, left.rest.count));
    };
    best = worked.best ∙ ap (least_of m q) (up b.count (omega arith)) ∙ ap (λ (n : ℕ). least_of m q (forward m q places n)) (sym (places_long b sized));
  }
    where
      right_forward : (k : ℕ) → k ≤ b.count → cells_of (states m z.depth) (forward_at z k) ≡ forward m z.depth (places_of z) k
      right_forward k le =
          subst (λ (ps : List Place). cells_of (states m z.depth) (forward_at z k) ≡ forward m z.depth ps k) (sym places_are)
          (subst (λ (d : ℕ). cells_of (states m d) (forward_at z k) ≡ forward m d places k) (sym depth_is) (up k le))

      right_backward : (k : ℕ) → k ≤ b.count → costs_of (states m z.depth) (backward_at z k) ≡ backward m z.depth (places_of z) k
      right_backward k le =
          let rest : k + (length places - k) ≡ b.count = omega (arith, places_long b sized) in
          subst (λ (ps : List Place). costs_of (states m z.depth) (backward_at z k) ≡ backward m z.depth ps k) (sym places_are)
          (subst (λ (d : ℕ). costs_of (states m d) (backward_at z k) ≡ backward m d places k) (sym depth_is) (down (length places - k) k rest))
