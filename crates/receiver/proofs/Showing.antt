-- The symbols back along survivors from the first state with the best are the shown sequence.
use Rattle.std.proofs.Common.{◌≡◌, ℕ, ◌<◌, ◌≤◌, List, ◌++◌, length, get_or, take, drop, Some, sym, ap, ◌∙◌, ap₂}
use Rattle.std.proofs.lemmas.List.{take-append-drop, get_or-take}
use Rattle.cost.specs.declared.Cost.{Cost}
use Rattle.cost.specs.declared.Cost.TheVariants.{Barred}
use Rattle.channel.specs.Meaning.{Meaning}
use Rattle.recursions.specs.Answers.{first_least, least_of, trace, trace_from, shown}
use Rattle.recursions.specs.Depths.{states}
use Rattle.recursions.specs.Forward.{cell_at, forward}
use Rattle.recursions.proofs.Firsts.{first_found, same_true}
use Rattle.receiver.specs.Bursts.{Sized, places_of}
use Rattle.receiver.specs.Readings.{LastState, Shows}
use Rattle.receiver.specs.declared.inner.Burst.{Burst}
use Rattle.receiver.proofs.Places.{places_long}

module _ (m : Meaning) (b : Burst) (sized : Sized b) (s : ℕ) (last : LastState m b (Some s)) where
  costs : ℕ → Cost
  costs i = (cell_at (forward m b.depth (places_of b) b.count) i).cost

  pub first_below : s < states m b.depth
  first_below = (first_found (states m b.depth) s _ last.1).below

  pub first_some : (cell_at (forward m b.depth (places_of b) b.count) s).cost ≡ Barred → ⊥
  first_some barred =
      let is : (cell_at (forward m b.depth (places_of b) b.count) s).cost ≡ least_of m b.depth (forward m b.depth (places_of b) b.count) =
      same_true _ _ (first_found (states m b.depth) s _ last.1).passing in
      last.0 (ap (λ (n : ℕ). least_of m b.depth (forward m b.depth (places_of b) n)) (places_long b sized) ∙ sym is ∙ barred)

  pub shown_is : shown m b.depth (places_of b) ≡ trace m b.depth (places_of b) b.count s
  shown_is =
      ap (λ (n : ℕ). trace_from m b.depth (places_of b) (first_least m b.depth (forward m b.depth (places_of b) n))) (places_long b sized)
      ∙ ap (trace_from m b.depth (places_of b)) last.1
      ∙ ap (λ (n : ℕ). trace m b.depth (places_of b) n s) (places_long b sized)

  pub shows : (before after : List ℕ) → b.count ≤ length after → take b.count after ≡ trace m b.depth (places_of b) b.count s
      → drop b.count after ≡ drop b.count before → Shows m b before after
  shows before after room front rest =
      let front' : take b.count after ≡ shown m b.depth (places_of b) = front ∙ sym shown_is in
      record {
        list = sym (take-append-drop b.count after) ∙ ap₂ (λ (xs ys : List ℕ). xs ++ ys) front' rest;
        symbols = λ k lt. sym (get_or-take b.count after k 0 lt) ∙ ap (λ (xs : List ℕ). get_or xs k 0) front';
      }
