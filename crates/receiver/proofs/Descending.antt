-- One backward column more: the columns so far stay as they were worked.
use Rattle.std.proofs.Common.{◌≡◌, ℕ, ◌+◌, ◌-◌, ◌*◌, ◌<◌, ◌≤◌, ◌≢◌, List, [], set, sym, refl, ap, ◌∙◌, subst, inl, inr, mul-le-mul_left, arith, length-set, get_or-set_other, get_or-set_same}
use Rattle.std.proofs.lemmas.Bool.{cases_eq}
use Rattle.channel.specs.Meaning.{Meaning}
use Rattle.burst.specs.Sequences.{place_at}
use Rattle.burst.specs.declared.place.Place.{Place}
use Rattle.columns.specs.Cells.{CostsWithin}
use Rattle.columns.specs.Shapes.{Shapes}
use Rattle.columns.specs.Worked.{Backstepped}
use Rattle.columns.specs.declared.column.Column.{Column}
use Rattle.receiver.specs.Bursts.{Sized, places_of, column_at, forward_at, backward_at}
use Rattle.receiver.specs.Steps.{Descended}
use Rattle.receiver.specs.declared.inner.Burst.{Burst}
use Rattle.receiver.proofs.Places.{place_of}

-- the burst with the backward column of place k
abbrev pub with_backward : Burst → ℕ → List ℕ → Burst
with_backward b k column = record {
  places = b.places;
  count = b.count;
  depth = b.depth;
  shape = b.shape;
  forward = b.forward;
  backward = set b.backward k column;
  marks = record { forward = b.marks.forward; backward = k };
}

pub backward_sized : (b : Burst) (k : ℕ) (column : List ℕ) → Sized b → k ≤ b.count → Sized (with_backward b k column)
backward_sized b k column sized within = record {
  places = sized.places;
  forward = sized.forward;
  backward = length-set b.backward k column ∙ sized.backward;
  few = sized.few;
  ahead = sized.ahead;
  behind = within;
}

module _ (m : Meaning) (b a : Burst) (descended : Descended m b a) (sized : Sized a) (more : 0 < a.marks.backward) (column : List ℕ)
    (worked : (q c : ℕ) → Shapes m q a.shape → CostsWithin c (backward_at a (a.marks.backward - 1 + 1)) → c ≤ 40000000
    → Backstepped m q (place_at a.places (a.marks.backward - 1)) (forward_at a (a.marks.backward - 1)) (backward_at a (a.marks.backward - 1 + 1)) column)
    (within : (c : ℕ) → CostsWithin c (backward_at a (a.marks.backward - 1 + 1)) → c ≤ 40000000 → CostsWithin (c + 131069) column)
    (bounded : b.marks.backward ≤ b.count) where
  -- the place that is worked, and the marks
  abbrev k : ℕ
  k = a.marks.backward - 1

  abbrev R : ℕ
  R = b.marks.backward

  mark : k + 1 ≡ a.marks.backward
  mark = omega arith

  new : (i : ℕ) → i ≡ k → backward_at (with_backward a k column) i ≡ column
  new i e = ap (backward_at (with_backward a k column)) e ∙ get_or-set_same a.backward k column [] (omega (arith, sized.backward, sized.few, sized.behind))

  old : (i : ℕ) → i ≢ k → backward_at (with_backward a k column) i ≡ backward_at a i
  old i ne = get_or-set_other a.backward k i column [] ne

  -- the bound of the column last worked
  last_bound : (c : ℕ) → c ≤ 20000000 → CostsWithin c (backward_at b R) → CostsWithin (c + 131069 * (R - (k + 1))) (backward_at a (k + 1))
  last_bound c low first = descended.bounded c low first (k + 1) (omega arith) (omega (arith, descended.to))

  few : R - (k + 1) ≤ 128
  few = omega (arith, sized.few, descended.rest.count, bounded)

  small : (c : ℕ) → c ≤ 20000000 → c + 131069 * (R - (k + 1)) ≤ 40000000
  small c low = let most : 131069 * (R - (k + 1)) ≤ 131069 * 128 = mul-le-mul_left 131069 few in omega arith

  new_bound : (c : ℕ) → c ≤ 20000000 → CostsWithin c (backward_at b R) → CostsWithin (c + 131069 * (R - k)) column
  new_bound c low first =
      let to : k + 1 ≤ R = omega (arith, descended.to) in
      let one : R - k ≡ (R - (k + 1)) + 1 = omega arith in
      let grows : c + 131069 * (R - (k + 1)) + 131069 ≡ c + 131069 * (R - k) = omega (arith, ap (λ (n : ℕ). 131069 * n) one) in
      subst (λ (n : ℕ). CostsWithin n column) grows (within (c + 131069 * (R - (k + 1))) (last_bound c low first) (small c low))

  -- the new column is worked from the last one
  newest : (q c : ℕ) → Shapes m q b.shape → c ≤ 20000000 → CostsWithin c (backward_at b R)
      → Backstepped m q (place_at (places_of b) k) (forward_at b k) (backward_at (with_backward a k column) (k + 1)) (backward_at (with_backward a k column) k)
  newest q c shapes low first =
      let ne : k + 1 ≢ k = omega arith in
      let place : place_at (places_of b) k ≡ place_at a.places k =
      place_of b k (omega (arith, descended.to, bounded)) ∙ ap (λ (ps : List Place). place_at ps k) (sym descended.rest.places) in
      let forward : forward_at b k ≡ forward_at a k = ap (λ (cs : List Column). column_at cs k) (sym descended.forward) in
      subst (λ (p : Place). Backstepped m q p (forward_at b k) (backward_at (with_backward a k column) (k + 1)) (backward_at (with_backward a k column) k)) (sym place)
      (subst (λ (x : Column). Backstepped m q (place_at a.places k) x (backward_at (with_backward a k column) (k + 1)) (backward_at (with_backward a k column) k)) (sym forward)
      (subst (λ (x : List ℕ). Backstepped m q (place_at a.places k) (forward_at a k) x (backward_at (with_backward a k column) k)) (sym (old (k + 1) ne))
      (subst (λ (x : List ℕ). Backstepped m q (place_at a.places k) (forward_at a k) (backward_at a (k + 1)) x) (sym (new k refl))
      (worked q (c + 131069 * (R - (k + 1))) (subst (Shapes m q) (sym descended.rest.shape) shapes) (last_bound c low first) (small c low)))))

  descended_more : Descended m b (with_backward a k column)
  descended_more = record {
    rest = record { places = descended.rest.places; count = descended.rest.count; depth = descended.rest.depth; shape = descended.rest.shape };
    forward = descended.forward;
    ahead = descended.ahead;
    to = omega (arith, descended.to);
    kept = λ i ge. let ne : i ≢ k = omega (arith, descended.to) in old i ne ∙ descended.kept i ge;
    bounded = λ c low first i ge le.
        elim (cases_eq i k) [
          | inl here ↦
              subst (CostsWithin (c + 131069 * (R - i))) (sym (new i here))
              (subst (λ (j : ℕ). CostsWithin (c + 131069 * (R - j)) column) (sym here) (new_bound c low first))
          | inr there ↦ subst (CostsWithin (c + 131069 * (R - i))) (sym (old i there)) (descended.bounded c low first i (omega (arith, there)) le)
        ];
    worked = λ q c shapes low first i ge lt.
        elim (cases_eq i k) [
          | inl here ↦
              subst (λ (j : ℕ). Backstepped m q (place_at (places_of b) j) (forward_at b j) (backward_at (with_backward a k column) (j + 1)) (backward_at (with_backward a k column) j)) (sym here)
              (newest q c shapes low first)
          | inr there ↦
              let ne : i + 1 ≢ k = omega (arith, there) in
              subst (λ (x : List ℕ). Backstepped m q (place_at (places_of b) i) (forward_at b i) x (backward_at (with_backward a k column) i)) (sym (old (i + 1) ne))
              (subst (λ (x : List ℕ). Backstepped m q (place_at (places_of b) i) (forward_at b i) (backward_at a (i + 1)) x) (sym (old i there))
              (descended.worked q c shapes low first i (omega (arith, there)) lt))
        ];
  }

-- the same at a place that is known to be the one before the mark
pub descended_at : (m : Meaning) (b a : Burst) → Descended m b a → Sized a → b.marks.backward ≤ b.count → (column : List ℕ) (i : ℕ) → a.marks.backward ≡ i → 0 < i
    → ((q c : ℕ) → Shapes m q a.shape → CostsWithin c (backward_at a (i - 1 + 1)) → c ≤ 40000000 → Backstepped m q (place_at a.places (i - 1)) (forward_at a (i - 1)) (backward_at a (i - 1 + 1)) column)
    → ((c : ℕ) → CostsWithin c (backward_at a (i - 1 + 1)) → c ≤ 40000000 → CostsWithin (c + 131069) column)
    → Descended m b (with_backward a (i - 1) column)
descended_at m b a descended sized bounded column i at =
    subst (λ (i : ℕ). 0 < i
    → ((q c : ℕ) → Shapes m q a.shape → CostsWithin c (backward_at a (i - 1 + 1)) → c ≤ 40000000 → Backstepped m q (place_at a.places (i - 1)) (forward_at a (i - 1)) (backward_at a (i - 1 + 1)) column)
    → ((c : ℕ) → CostsWithin c (backward_at a (i - 1 + 1)) → c ≤ 40000000 → CostsWithin (c + 131069) column)
    → Descended m b (with_backward a (i - 1) column)) at
    (λ more worked within. descended_more m b a descended sized more column worked within bounded)
