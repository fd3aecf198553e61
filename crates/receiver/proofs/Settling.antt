-- Forward columns worked up to the end and then backward columns worked down to the start: what is left, what is worked, and that soundness stays.
use Rattle.std.proofs.Common.{◌≡◌, ℕ, ◌+◌, ◌-◌, ◌*◌, ◌≤◌, List, [], get_or, take, Option, sym, ap, ◌∙◌, subst, ap₂, inl, inr, arith}
use Rattle.std.proofs.lemmas.Bool.{cases_lt}
use Rattle.channel.specs.Meaning.{Meaning}
use Rattle.joining.specs.Costs.{cost_operations}
use Rattle.trellis.proofs.Below.{below_cong}
use Rattle.burst.specs.Sequences.{place_at}
use Rattle.burst.specs.declared.place.Place.{Place}
use Rattle.recursions.specs.Answers.{least_of}
use Rattle.recursions.specs.Depths.{states}
use Rattle.recursions.specs.Forward.{Cell}
use Rattle.columns.specs.Numbers.{as_cost}
use Rattle.columns.specs.Pairs.{min_below}
use Rattle.columns.specs.Cells.{entry_at, CellsWithin, CostsWithin, SurvivorsBelow, cells_of}
use Rattle.columns.specs.Shapes.{Shapes}
use Rattle.columns.specs.Worked.{Stepped, Backstepped}
use Rattle.columns.specs.declared.column.Column.{Column}
use Rattle.columns.specs.declared.shape.Shape.{Shape}
use Rattle.columns.proofs.Every.{cells_more, costs_more, cell_fits}
use Rattle.columns.proofs.Minima.{min_as}
use Rattle.columns.proofs.Sums.{cell_at_lem}
use Rattle.receiver.specs.Bursts.{Sized, Kept, places_of, column_at, forward_at, backward_at}
use Rattle.receiver.specs.Settling.{Bounded, Left, Worked, best_cost}
use Rattle.receiver.specs.Sound.{Shaped}
use Rattle.receiver.specs.Steps.{SameRest, Climbed, Descended}
use Rattle.receiver.specs.declared.inner.Burst.{Burst}
use Rattle.receiver.proofs.Places.{places_long}

-- a receiver's own bounds are below 20,000,000
pub kept_bounded : (b : Burst) → Kept b → Bounded b
kept_bounded b kept = record {
  forward = λ k le. cells_more (131069 * k) 20000000 (forward_at b k) (omega (arith, kept.sized.ahead, kept.sized.few)) (kept.costs k le);
  backward = λ k ge le. costs_more (131069 * (b.count - k)) 20000000 (backward_at b k) (omega (arith, kept.sized.few)) (kept.onward k ge le);
}

module _ (m : Meaning) (b a z : Burst) (sized : Sized b) (up : Climbed m b a) (top : a.marks.forward ≡ b.count) (down : Descended m a z)
    (bottom : z.marks.backward ≡ 0) (last : Sized z) where
  rest : SameRest b z
  rest = record {
    places = down.rest.places ∙ up.rest.places;
    count = down.rest.count ∙ up.rest.count;
    depth = down.rest.depth ∙ up.rest.depth;
    shape = down.rest.shape ∙ up.rest.shape;
  }

  places_are : places_of z ≡ places_of b
  places_are = ap₂ (λ (n : ℕ) (ps : List Place). take n ps) rest.count rest.places

  places_between : places_of a ≡ places_of b
  places_between = ap₂ (λ (n : ℕ) (ps : List Place). take n ps) up.rest.count up.rest.places

  mark : z.marks.forward ≡ b.count
  mark = down.ahead ∙ top

  -- the forward columns are those that were climbed to
  ahead : (k : ℕ) → forward_at z k ≡ forward_at a k
  ahead k = ap (λ (cs : List Column). column_at cs k) down.forward

  -- the backward columns were not touched by climbing
  behind : (k : ℕ) → backward_at a k ≡ backward_at b k
  behind k = ap (λ (cs : List (List ℕ)). get_or cs k []) up.backward

  pub left_by : Left b z
  left_by = record {
    stands = λ j. record {
      depth = rest.depth j;
      places = places_are j;
      forward = (mark ∙ sym (places_long b sized)) j;
      backward = bottom j;
    };
    rest = rest;
    forward = λ k le. ahead k ∙ up.kept k le;
    forward_past = λ k lt. ahead k ∙ up.past k (omega (arith, top));
    backward = λ k ge. down.kept k (omega (arith, up.behind)) ∙ behind k;
  }

  -- the costs of the last forward column fit
  last_fits : Bounded b → (s : ℕ) → (entry_at (forward_at z b.count) s).cost ≤ 4294967295
  last_fits bounded s =
      subst (λ (x : Column). (entry_at x s).cost ≤ 4294967295) (sym (ahead b.count))
      (cell_fits (20000000 + 131069 * (b.count - b.marks.forward)) (forward_at a b.count) (omega (arith, sized.few))
      (up.bounded 20000000 (omega arith) (bounded.forward b.marks.forward (omega arith)) b.count sized.ahead (omega (arith, top))) s)

  module _ (told : Option ℕ)
      (is : best_cost told ≡ as_cost (min_below z.shape.states (λ s. (entry_at (forward_at z z.count) s).cost))) where
    best_by : Bounded b → Shaped m b → best_cost told ≡ least_of m b.depth (cells_of (states m b.depth) (forward_at z b.count))
    best_by bounded shaped =
        let q : ℕ = b.depth in
        let few : z.shape.states ≡ states m q = ap (λ (s : Shape). s.states) rest.shape ∙ shaped.shape.states in
        is
        ∙ ap₂ (λ (n k : ℕ). as_cost (min_below n (λ s. (entry_at (forward_at z k) s).cost))) few rest.count
        ∙ min_as (states m q) (λ s. (entry_at (forward_at z b.count) s).cost) (λ s lt. last_fits bounded s)
        ∙ below_cong cost_operations (states m q) _ _ (λ s lt. sym (ap (λ (c : Cell). c.cost) (cell_at_lem (states m q) (forward_at z b.count) s lt)))

    pub worked_by : Shaped m b → Bounded b → Worked m b z told
    worked_by shaped bounded = record {
      forward = λ k ge lt.
          subst (λ (x : Column). Stepped m b.depth (place_at (places_of b) k) x (forward_at z (k + 1))) (sym (ahead k))
          (subst (λ (x : Column). Stepped m b.depth (place_at (places_of b) k) (forward_at a k) x) (sym (ahead (k + 1)))
          (up.worked b.depth 20000000 shaped.shape (omega arith) (bounded.forward b.marks.forward (omega arith)) k ge (omega (arith, top))));
      backward = λ k lt.
          subst (λ (x : Column). Backstepped m b.depth (place_at (places_of b) k) x (backward_at z (k + 1)) (backward_at z k)) (sym (ahead k))
          (subst (λ (ps : List Place). Backstepped m b.depth (place_at ps k) (forward_at a k) (backward_at z (k + 1)) (backward_at z k)) places_between
          (down.worked b.depth 20000000 (subst (Shapes m b.depth) (sym up.rest.shape) shaped.shape) (omega arith) low k (omega (arith, bottom)) (omega (arith, up.behind))));
      best = best_by bounded shaped;
    }
      where
        low : CostsWithin 20000000 (backward_at a a.marks.backward)
        low =
            subst (CostsWithin 20000000) (sym (behind a.marks.backward))
            (bounded.backward a.marks.backward (omega (arith, up.behind)) (omega (arith, up.behind, sized.behind)))

  -- what a receiver keeps, it keeps
  pub kept_by : Kept b → Kept z
  kept_by kept = record {
    sized = last;
    costs = λ k le.
        subst (λ (x : Column). CellsWithin (131069 * k) x) (sym (ahead k))
        (elim (cases_lt b.marks.forward k) [
          | inl past ↦
              let grows : 131069 * b.marks.forward + 131069 * (k - b.marks.forward) ≡ 131069 * k = omega arith in
              subst (λ (n : ℕ). CellsWithin n (forward_at a k)) grows
              (up.bounded (131069 * b.marks.forward) (omega (arith, sized.ahead, sized.few)) (kept.costs b.marks.forward (omega arith)) k (omega arith)
              (omega (arith, mark, top)))
          | inr fresh ↦ subst (λ (x : Column). CellsWithin (131069 * k) x) (sym (up.kept k fresh)) (kept.costs k fresh)
        ]);
    survivors = λ k le.
        subst SurvivorsBelow (sym (ahead k))
        (elim (cases_lt b.marks.forward k) [
          | inl past ↦ up.survivors k past (omega (arith, mark, top))
          | inr fresh ↦ subst SurvivorsBelow (sym (up.kept k fresh)) (kept.survivors k fresh)
        ]);
    onward = λ k ge le. onward_by kept k (omega (arith, rest.count));
  }
    where
      count_is : z.count ≡ b.count
      count_is = rest.count

      first : Kept b → CostsWithin (131069 * (b.count - b.marks.backward)) (backward_at a a.marks.backward)
      first kept =
          subst (CostsWithin (131069 * (b.count - b.marks.backward))) (sym (behind a.marks.backward))
          (subst (λ (i : ℕ). CostsWithin (131069 * (b.count - b.marks.backward)) (backward_at b i)) (sym up.behind) (kept.onward b.marks.backward (omega arith) sized.behind))

      onward_by : Kept b → (k : ℕ) → k ≤ b.count → CostsWithin (131069 * (z.count - k)) (backward_at z k)
      onward_by kept k le =
          elim (cases_lt k b.marks.backward) [
            | inl past ↦
                let grows : 131069 * (b.count - b.marks.backward) + 131069 * (a.marks.backward - k) ≡ 131069 * (z.count - k) = omega (arith, up.behind, rest.count, sized.behind) in
                subst (λ (n : ℕ). CostsWithin n (backward_at z k)) grows
                (down.bounded (131069 * (b.count - b.marks.backward)) (omega (arith, sized.few)) (first kept) k (omega (arith, bottom)) (omega (arith, up.behind)))
            | inr fresh ↦
                subst (CostsWithin (131069 * (z.count - k))) (sym (left_by.backward k fresh))
                (subst (λ (n : ℕ). CostsWithin (131069 * (n - k)) (backward_at b k)) (sym rest.count) (kept.onward k fresh le))
          ]
