-- One forward column more: the columns so far stay as they were worked.
use Rattle.std.proofs.Common.{◌≡◌, ℕ, ◌+◌, ◌-◌, ◌*◌, ◌<◌, ◌≤◌, ◌≢◌, List, set, sym, refl, ap, ◌∙◌, subst, inl, inr, mul-le-mul_left, arith, length-set, get_or-set_other, get_or-set_same}
use Rattle.std.proofs.lemmas.Bool.{cases_eq}
use Rattle.channel.specs.Meaning.{Meaning}
use Rattle.burst.specs.Sequences.{place_at}
use Rattle.burst.specs.declared.place.Place.{Place}
use Rattle.columns.specs.Cells.{CellsWithin, SurvivorsBelow}
use Rattle.columns.specs.Shapes.{Shapes}
use Rattle.columns.specs.Worked.{Stepped}
use Rattle.columns.specs.declared.column.Column.{Column}
use Rattle.receiver.specs.Bursts.{Sized, places_of, forward_at}
use Rattle.receiver.specs.Steps.{Climbed}
use Rattle.receiver.specs.declared.inner.Burst.{Burst}
use Rattle.receiver.proofs.Places.{place_of}

-- the burst with the forward column after place k
abbrev pub with_forward : Burst → ℕ → Column → Burst
with_forward b k column = record {
  places = b.places;
  count = b.count;
  depth = b.depth;
  shape = b.shape;
  forward = set b.forward (k + 1) column;
  backward = b.backward;
  marks = record { forward = k + 1; backward = b.marks.backward };
}

pub forward_sized : (b : Burst) (k : ℕ) (column : Column) → Sized b → k < b.count → Sized (with_forward b k column)
forward_sized b k column sized more = record {
  places = sized.places;
  forward = length-set b.forward (k + 1) column ∙ sized.forward;
  backward = sized.backward;
  few = sized.few;
  ahead = omega arith;
  behind = sized.behind;
}

module _ (m : Meaning) (b a : Burst) (climbed : Climbed m b a) (sized : Sized a) (more : a.marks.forward < a.count) (column : Column)
    (stepped : (q c : ℕ) → Shapes m q a.shape → CellsWithin c (forward_at a a.marks.forward) → c ≤ 40000000
    → Stepped m q (place_at a.places a.marks.forward) (forward_at a a.marks.forward) column)
    (within : (c : ℕ) → CellsWithin c (forward_at a a.marks.forward) → c ≤ 40000000 → CellsWithin (c + 131069) column)
    (survivors : SurvivorsBelow column) where
  abbrev k : ℕ
  k = a.marks.forward

  abbrev F : ℕ
  F = b.marks.forward

  new : (i : ℕ) → i ≡ k + 1 → forward_at (with_forward a k column) i ≡ column
  new i e = ap (forward_at (with_forward a k column)) e ∙ get_or-set_same a.forward (k + 1) column _ (omega (arith, sized.forward, sized.few))

  old : (i : ℕ) → i ≢ k + 1 → forward_at (with_forward a k column) i ≡ forward_at a i
  old i ne = get_or-set_other a.forward (k + 1) i column _ ne

  -- the bound of the column last worked
  last_bound : (c : ℕ) → c ≤ 20000000 → CellsWithin c (forward_at b F) → CellsWithin (c + 131069 * (k - F)) (forward_at a k)
  last_bound c low first = climbed.bounded c low first k climbed.from (omega arith)

  few : k - F ≤ 128
  few = omega (arith, sized.few)

  small : (c : ℕ) → c ≤ 20000000 → c + 131069 * (k - F) ≤ 40000000
  small c low = let most : 131069 * (k - F) ≤ 131069 * 128 = mul-le-mul_left 131069 few in omega arith

  new_bound : (c : ℕ) → c ≤ 20000000 → CellsWithin c (forward_at b F) → CellsWithin (c + 131069 * (k + 1 - F)) column
  new_bound c low first =
      let from : F ≤ k = climbed.from in
      let one : k + 1 - F ≡ (k - F) + 1 = omega arith in
      let grows : c + 131069 * (k - F) + 131069 ≡ c + 131069 * (k + 1 - F) = omega (arith, ap (λ (n : ℕ). 131069 * n) one) in
      subst (λ (n : ℕ). CellsWithin n column) grows (within (c + 131069 * (k - F)) (last_bound c low first) (small c low))

  -- the new column is worked from the last one
  newest : (q c : ℕ) → Shapes m q b.shape → c ≤ 20000000 → CellsWithin c (forward_at b F)
      → Stepped m q (place_at (places_of b) k) (forward_at (with_forward a k column) k) (forward_at (with_forward a k column) (k + 1))
  newest q c shapes low first =
      let ne : k ≢ k + 1 = omega arith in
      let place : place_at (places_of b) k ≡ place_at a.places k =
      place_of b k (omega (arith, climbed.rest.count)) ∙ ap (λ (ps : List Place). place_at ps k) (sym climbed.rest.places) in
      subst (λ (p : Place). Stepped m q p (forward_at (with_forward a k column) k) (forward_at (with_forward a k column) (k + 1))) (sym place)
      (subst (λ (x : Column). Stepped m q (place_at a.places k) x (forward_at (with_forward a k column) (k + 1))) (sym (old k ne))
      (subst (λ (x : Column). Stepped m q (place_at a.places k) (forward_at a k) x) (sym (new (k + 1) refl))
      (stepped q (c + 131069 * (k - F)) (subst (Shapes m q) (sym climbed.rest.shape) shapes) (last_bound c low first) (small c low))))

  climbed_more : Climbed m b (with_forward a k column)
  climbed_more = record {
    rest = record { places = climbed.rest.places; count = climbed.rest.count; depth = climbed.rest.depth; shape = climbed.rest.shape };
    backward = climbed.backward;
    behind = climbed.behind;
    from = omega (arith, climbed.from);
    kept = λ i le. let ne : i ≢ k + 1 = omega (arith, climbed.from) in old i ne ∙ climbed.kept i le;
    past = λ i lt. let ne : i ≢ k + 1 = omega arith in old i ne ∙ climbed.past i (omega arith);
    survivors = λ i lt le.
        elim (cases_eq i (k + 1)) [
          | inl here ↦ subst SurvivorsBelow (sym (new i here)) survivors
          | inr there ↦ subst SurvivorsBelow (sym (old i there)) (climbed.survivors i lt (omega (arith, there)))
        ];
    bounded = λ c low first i ge le.
        elim (cases_eq i (k + 1)) [
          | inl here ↦
              subst (λ (x : Column). CellsWithin (c + 131069 * (i - F)) x) (sym (new i here))
              (subst (λ (j : ℕ). CellsWithin (c + 131069 * (j - F)) column) (sym here) (new_bound c low first))
          | inr there ↦
              subst (λ (x : Column). CellsWithin (c + 131069 * (i - F)) x) (sym (old i there)) (climbed.bounded c low first i ge (omega (arith, there)))
        ];
    worked = λ q c shapes low first i ge lt.
        let ne : i ≢ k + 1 = omega arith in
        elim (cases_eq i k) [
          | inl here ↦
              subst (λ (j : ℕ). Stepped m q (place_at (places_of b) j) (forward_at (with_forward a k column) j) (forward_at (with_forward a k column) (j + 1))) (sym here)
              (newest q c shapes low first)
          | inr there ↦
              let ne' : i + 1 ≢ k + 1 = λ e. there (omega arith) in
              subst (λ (x : Column). Stepped m q (place_at (places_of b) i) x (forward_at (with_forward a k column) (i + 1))) (sym (old i ne))
              (subst (λ (x : Column). Stepped m q (place_at (places_of b) i) (forward_at a i) x) (sym (old (i + 1) ne'))
              (climbed.worked q c shapes low first i ge (omega (arith, there))))
        ];
  }

-- the same at a place that is known to be the mark
pub climbed_at : (m : Meaning) (b a : Burst) → Climbed m b a → Sized a → (column : Column) (k : ℕ) → a.marks.forward ≡ k → k < a.count
    → ((q c : ℕ) → Shapes m q a.shape → CellsWithin c (forward_at a k) → c ≤ 40000000 → Stepped m q (place_at a.places k) (forward_at a k) column)
    → ((c : ℕ) → CellsWithin c (forward_at a k) → c ≤ 40000000 → CellsWithin (c + 131069) column)
    → SurvivorsBelow column → Climbed m b (with_forward a k column)
climbed_at m b a climbed sized column k at =
    subst (λ (i : ℕ). i < a.count
    → ((q c : ℕ) → Shapes m q a.shape → CellsWithin c (forward_at a i) → c ≤ 40000000 → Stepped m q (place_at a.places i) (forward_at a i) column)
    → ((c : ℕ) → CellsWithin c (forward_at a i) → c ≤ 40000000 → CellsWithin (c + 131069) column)
    → SurvivorsBelow column → Climbed m b (with_forward a i column)) at
    (λ more stepped within survivors. climbed_more m b a climbed sized more column stepped within survivors)
