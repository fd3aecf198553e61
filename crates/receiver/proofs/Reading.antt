-- What is read off sound columns is what the recursions answer.
use Rattle.std.proofs.Common.{◌≡◌, ℕ, ◌+◌, ◌<◌, ◌≤◌, true, eqb, List, Some, None, Option, sym, refl, ap, ◌∙◌, subst, ap₂, inl, inr, add-one, arith}
use Rattle.std.proofs.lemmas.Bool.{eq-eqb, ne_eqb, cases_eq}
use Rattle.cost.specs.declared.Cost.{Cost}
use Rattle.cost.specs.declared.Cost.TheVariants.{Eighths, Barred}
use Rattle.channel.specs.Meaning.{Meaning}
use Rattle.burst.specs.Sequences.{place_at}
use Rattle.burst.specs.declared.place.Place.{Place}
use Rattle.joining.specs.Costs.{cost_operations}
use Rattle.trellis.proofs.Below.{below_cong}
use Rattle.trellis.proofs.Least.{below_reached}
use Rattle.recursions.specs.Answers.{meeting, value_cost, best, least_of, first_least}
use Rattle.recursions.specs.Backward.{backward}
use Rattle.recursions.specs.Depths.{states}
use Rattle.recursions.specs.Firsts.{first_under, same_cost}
use Rattle.recursions.specs.Forward.{Cell, cell_at, forward}
use Rattle.recursions.proofs.Firsts.{first_cong, first_exists, same_itself, same_false}
use Rattle.columns.specs.Numbers.{as_cost}
use Rattle.columns.specs.Pairs.{min_below}
use Rattle.columns.specs.Cells.{entry_at, CellsWithin, CostsWithin, cells_of, costs_of}
use Rattle.columns.specs.Shapes.{Shapes}
use Rattle.columns.specs.Worked.{Met}
use Rattle.columns.proofs.Every.{cell_fits}
use Rattle.columns.proofs.Minima.{min_as, min_fits}
use Rattle.columns.proofs.Numbers.{as_barred, as_eighths}
use Rattle.columns.proofs.Steps.{as_same}
use Rattle.columns.proofs.Sums.{cell_at_lem}
use Rattle.receiver.specs.Bursts.{Kept, Fresh, places_of, forward_at, backward_at}
use Rattle.receiver.specs.Readings.{LastState}
use Rattle.receiver.specs.Sound.{Sound}
use Rattle.receiver.specs.declared.inner.Burst.{Burst}
use Rattle.receiver.proofs.Places.{places_long, place_of}
use Rattle.receiver.proofs.Settling.{kept_bounded}

not_barred : (n : ℕ) → Eighths n ≡ Barred → ⊥
not_barred n e = let no : ◌≡◌ {A = ℕ} 0 1 = cc in omega arith

-- the number that stands for so many eighths
number_is : (n k : ℕ) → k ≤ 4294967295 → Eighths n ≡ as_cost k → n ≡ k
number_is n k fits same =
    elim (cases_eq k 4294967295) [
      | inl top ↦ absurd (not_barred n (same ∙ as_barred k top))
      | inr low ↦ let other = as_eighths k (omega (arith, low)) in cc
    ]

module _ (b : Burst) (kept : Kept b) (fresh : Fresh b) where
  -- the bounds of all columns
  forward_low : (k : ℕ) → k ≤ b.count → CellsWithin 20000000 (forward_at b k)
  forward_low k le = (kept_bounded b kept).forward k (omega (arith, fresh.forward))

  backward_low : (k : ℕ) → k ≤ b.count → CostsWithin 20000000 (backward_at b k)
  backward_low k le = (kept_bounded b kept).backward k (omega (arith, fresh.backward)) le

  module _ (m : Meaning) (sound : Sound m b) where
    forward_right : (k : ℕ) → k ≤ b.count → cells_of (states m b.depth) (forward_at b k) ≡ forward m b.depth (places_of b) k
    forward_right k le = sound.forward k (omega (arith, fresh.forward))

    backward_right : (k : ℕ) → k ≤ b.count → costs_of (states m b.depth) (backward_at b k) ≡ backward m b.depth (places_of b) k
    backward_right k le = sound.backward k (omega (arith, fresh.backward)) le

    -- the cost of a symbol
    pub cost_is : (k a number : ℕ) → k < b.count → a < m.symbols
        → ((q c : ℕ) → Shapes m q b.shape → CellsWithin c (forward_at b k) → CostsWithin c (backward_at b (k + 1)) → c ≤ 20000000 → a < b.shape.symbols
        → Met m q (place_at b.places k) (forward_at b k) (backward_at b (k + 1)) a number)
        → as_cost number ≡ value_cost m b.depth (places_of b) k a
    cost_is k a number lk la met =
        let q : ℕ = b.depth in
        met q 20000000 sound.shaped.shape (forward_low k (omega arith)) (backward_low (k + 1) (omega arith)) (omega arith) (omega (arith, sound.shaped.shape.symbols))
        ∙ ap (λ (p : Place). meeting m q p (cells_of (states m q) (forward_at b k)) (costs_of (states m q) (backward_at b (k + 1))) a) (sym (place_of b k lk))
        ∙ ap₂ (λ (cells : List Cell) (costs : List Cost). meeting m q (place_at (places_of b) k) cells costs a) (forward_right k (omega arith))
        (backward_right (k + 1) (omega arith) ∙ ap (backward m q (places_of b)) (add-one k))

    -- the last column's costs as they are stored
    last_cost : (s : ℕ) → s < states m b.depth
        → as_cost (entry_at (forward_at b b.count) s).cost ≡ (cell_at (forward m b.depth (places_of b) b.count) s).cost
    last_cost s lt =
        sym (ap (λ (c : Cell). c.cost) (cell_at_lem (states m b.depth) (forward_at b b.count) s lt))
        ∙ ap (λ (cells : List Cell). (cell_at cells s).cost) (forward_right b.count (omega arith))

    last_fits : (s : ℕ) → (entry_at (forward_at b b.count) s).cost ≤ 4294967295
    last_fits s = cell_fits 20000000 (forward_at b b.count) (omega arith) (forward_low b.count (omega arith)) s

    -- the least of them
    least_is : (number : ℕ) → number ≡ min_below b.shape.states (λ s. (entry_at (forward_at b b.count) s).cost)
        → as_cost number ≡ least_of m b.depth (forward m b.depth (places_of b) b.count)
    least_is number is =
        ap as_cost (is ∙ ap (λ (n : ℕ). min_below n (λ s. (entry_at (forward_at b b.count) s).cost)) sound.shaped.shape.states)
        ∙ min_as (states m b.depth) (λ s. (entry_at (forward_at b b.count) s).cost) (λ s lt. last_fits s)
        ∙ below_cong cost_operations (states m b.depth) _ _ last_cost

    best_is : best m b.depth (places_of b) ≡ least_of m b.depth (forward m b.depth (places_of b) b.count)
    best_is = ap (λ (n : ℕ). least_of m b.depth (forward m b.depth (places_of b) n)) (places_long b kept.sized)

    pub no_state : Barred ≡ as_cost (min_below b.shape.states (λ s. (entry_at (forward_at b b.count) s).cost)) → LastState m b None
    no_state top = best_is ∙ sym (least_is _ refl) ∙ sym top

    -- equal numbers stand for equal costs, and the other way round
    same_number : (x y : ℕ) → x ≤ 4294967295 → y ≤ 4294967295 → eqb x y ≡ same_cost (as_cost x) (as_cost y)
    same_number x y fits fits' =
        elim (cases_eq x y) [
          | inl same ↦ eq-eqb x y same ∙ sym (ap (λ (n : ℕ). same_cost (as_cost x) (as_cost n)) (sym same) ∙ same_itself (as_cost x))
          | inr apart ↦ ne_eqb x y apart ∙ sym (same_false (as_cost x) (as_cost y) (λ e. apart (as_same x y fits fits' e)))
        ]

    first_is : (number : ℕ) → number ≡ min_below b.shape.states (λ s. (entry_at (forward_at b b.count) s).cost)
        → first_under b.shape.states (λ s. eqb (entry_at (forward_at b b.count) s).cost number)
        ≡ first_least m b.depth (forward m b.depth (places_of b) b.count)
    first_is number is =
        let fits : number ≤ 4294967295 = subst (λ (n : ℕ). n ≤ 4294967295) (sym is) (min_fits b.shape.states _) in
        ap (λ (n : ℕ). first_under n (λ s. eqb (entry_at (forward_at b b.count) s).cost number)) sound.shaped.shape.states
        ∙ first_cong (states m b.depth) _ _ (λ s lt.
        same_number (entry_at (forward_at b b.count) s).cost number (last_fits s) fits
        ∙ ap₂ same_cost (last_cost s lt) (least_is number is))

    -- a best that is not barred is the cost of some state
    state_by : (found : Option ℕ) → (best m b.depth (places_of b) ≡ Barred → ⊥)
        → found ≡ first_least m b.depth (forward m b.depth (places_of b) b.count) → LastState m b found
    state_by None some none =
        let costs : ℕ → Cost = λ s. (cell_at (forward m b.depth (places_of b) b.count) s).cost in
        let least : Cost = least_of m b.depth (forward m b.depth (places_of b) b.count) in
        let reached = below_reached (states m b.depth) costs (λ barred. some (best_is ∙ barred)) in
        let passes : same_cost (costs reached.0) least ≡ true = ap (λ (c : Cost). same_cost c least) reached.2 ∙ same_itself least in
        let found = first_exists (states m b.depth) reached.0 (λ s. same_cost (costs s) least) reached.1 passes in
        absurd (never found.0 (none ∙ found.1))
      where
        never : (s : ℕ) → None ≡ Some s → ⊥
        never s e = let no : ◌≡◌ {A = ℕ} 0 1 = cc in omega arith
    state_by (Some s) some is = (some, sym is)

    pub some_state : (number : ℕ) (found : Option ℕ) → Eighths number ≡ as_cost (min_below b.shape.states (λ s. (entry_at (forward_at b b.count) s).cost))
        → found ≡ first_under b.shape.states (λ s. eqb (entry_at (forward_at b b.count) s).cost number) → LastState m b found
    some_state number found least first =
        let is = number_is number _ (min_fits b.shape.states _) least in
        state_by found (λ barred. not_barred number (least ∙ least_is _ refl ∙ sym best_is ∙ barred)) (first ∙ first_is number is)
