-- A burst with another place, or with places fewer, keeps what it kept, and is as sound as it was.
use Rattle.std.proofs.Common.{◌≡◌, ℕ, ◌+◌, ◌-◌, ◌*◌, ◌<◌, ◌≤◌, min, max, Bool, true, false, cond, ◌≢◌, List, [], length, take, set, sym, refl, ap, ◌∙◌, subst, inl, inr, le_trans, le_refl, arith, length-set, get_or-set_other, get_or-set_same, take-take}
use native.Mathlib.Nat.{min-le_left, min-le_right, le-max_left, le-max_right, max-le}
use lib.Seq.{take-set-lt}
use Rattle.std.proofs.lemmas.List.{get_or-take}
use Rattle.std.proofs.lemmas.Bool.{cases_eq, eqb-true}
use Rattle.channel.specs.Meaning.{Meaning}
use Rattle.burst.specs.Sequences.{place_at}
use Rattle.burst.specs.declared.place.Place.{Place}
use Rattle.recursions.specs.Backward.{backward, backward_of}
use Rattle.recursions.specs.Depths.{states}
use Rattle.recursions.proofs.Depths.{allowed_keeps}
use Rattle.recursions.proofs.FullDepth.{backward_local}
use Rattle.recursions.proofs.Locality.{forward_local}
use Rattle.columns.specs.Cells.{CostsWithin, costs_of}
use Rattle.receiver.specs.Bursts.{Kept, places_of, backward_at}
use Rattle.receiver.specs.Changes.{Altered}
use Rattle.receiver.specs.Sound.{Fits, Sound, TellsFull}
use Rattle.receiver.specs.Standing.{standing, altered, marks_after, full_depth}
use Rattle.receiver.specs.declared.inner.Burst.{Burst}
use Rattle.receiver.specs.declared.inner.Marks.{Marks}
use Rattle.receiver.proofs.Places.{places_long, zeros, zeros_within, zeros_last, backward_end}

-- where R stands after a change at place k
abbrev back : Bool → ℕ → ℕ → ℕ → ℕ
back full R k count = cond full (max R (k + 1)) count

-- R only grows, and stays within the places
back_grows : (full : Bool) (R k count : ℕ) → R ≤ count → R ≤ back full R k count
back_grows true R k count le = le-max_left R (k + 1)
back_grows false R k count le = le

back_within : (full : Bool) (R k count : ℕ) → R ≤ count → k < count → back full R k count ≤ count
back_within true R k count le lt = max-le le (omega arith)
back_within false R k count le lt = le_refl count

-- the burst with another place k
abbrev pub with_other : Burst → Marks → ℕ → Place → Burst
with_other b marks k p = record {
  places = set b.places k p;
  count = b.count;
  depth = b.depth;
  shape = b.shape;
  forward = b.forward;
  backward = b.backward;
  marks = marks;
}

module _ (b : Burst) (full : Bool) (k : ℕ) (p : Place) (kept : Kept b) (held : k < b.count) where
  abbrev after : Burst
  after = with_other b (marks_after full b.count k b.marks) k p

  places_are : places_of after ≡ set (places_of b) k p
  places_are = take-set-lt b.count b.places k p held

  done : Altered b after (altered full (standing b) k p)
  done = record {
    stands = λ j. record {
      depth = b.depth;
      places = places_are j;
      forward = min b.marks.forward k;
      backward = ap (back full b.marks.backward k) (sym (places_long b kept.sized)) j;
    };
    shape = refl;
    forward = refl;
    backward = refl;
  }

  keeps : Kept after
  keeps = record {
    sized = record {
      places = length-set b.places k p ∙ kept.sized.places;
      forward = kept.sized.forward;
      backward = kept.sized.backward;
      few = kept.sized.few;
      ahead = le_trans (min-le_left b.marks.forward k) kept.sized.ahead;
      behind = back_within full b.marks.backward k b.count kept.sized.behind held;
    };
    costs = λ i le. kept.costs i (le_trans le (min-le_left b.marks.forward k));
    survivors = λ i le. kept.survivors i (le_trans le (min-le_left b.marks.forward k));
    onward = λ i ge le. kept.onward i (le_trans (back_grows full b.marks.backward k b.count kept.sized.behind) ge) le;
  }

  after_long : length (places_of after) ≡ b.count
  after_long = places_long after keeps.sized

  -- every other place is as it was
  other : (i : ℕ) → i ≢ k → place_at (places_of after) i ≡ place_at (places_of b) i
  other i ne = ap (λ (ps : List Place). place_at ps i) places_are ∙ get_or-set_other (places_of b) k i p _ ne

  here : (i : ℕ) → i ≡ k → place_at (places_of after) i ≡ p
  here i e =
      ap (λ (ps : List Place). place_at ps i) places_are
      ∙ ap (λ (n : ℕ). place_at (set (places_of b) k p) n) e
      ∙ get_or-set_same (places_of b) k p _ (omega (arith, places_long b kept.sized))

  module _ (m : Meaning) (tells : TellsFull m b full) (fits : Fits m p) (sound : Sound m b) where
    fit : (i : ℕ) → i < b.count → Fits m (place_at (places_of after) i)
    fit i lt =
        elim (cases_eq i k) [
          | inl same ↦ subst (Fits m) (sym (here i same)) fits
          | inr differs ↦ subst (Fits m) (sym (other i differs)) (sound.fits i lt)
        ]

    -- what is left to come is as long as it was
    left_same : (i : ℕ) → length (places_of b) - i ≡ length (places_of after) - i
    left_same i = ap (λ (n : ℕ). n - i) (places_long b kept.sized ∙ sym after_long)

    -- at full depth the backward columns after place k do not depend on it
    later : (i : ℕ) → b.depth ≡ m.memory → k < i → i ≤ b.count → backward m b.depth (places_of b) i ≡ backward m b.depth (places_of after) i
    later i whole past le =
        subst (λ (q : ℕ). backward_of m q (places_of b) (length (places_of b) - i) i ≡ backward_of m q (places_of after) (length (places_of b) - i) i) (sym whole)
        (backward_local m tells.lawful (places_of b) (places_of after) (length (places_of b) - i) i
        (λ j from lt. sym (other j (let ne : j ≢ k = omega arith in ne))))
        ∙ ap (λ (n : ℕ). backward_of m b.depth (places_of after) n i) (left_same i)

    -- the last one depends on no place
    last : (i : ℕ) → i ≡ b.count → backward m b.depth (places_of b) i ≡ backward m b.depth (places_of after) i
    last i e =
        backward_end m b.depth (places_of b) i (e ∙ sym (places_long b kept.sized))
        ∙ sym (backward_end m b.depth (places_of after) i (e ∙ sym after_long))

    still : (whole : Bool) → whole ≡ full_depth m b.depth → (i : ℕ) → back whole b.marks.backward k b.count ≤ i → i ≤ b.count
        → backward m b.depth (places_of b) i ≡ backward m b.depth (places_of after) i
    still true right i ge le =
        let past : k < i = omega (arith, le-max_right b.marks.backward (k + 1)) in
        later i (eqb-true b.depth m.memory (sym right)) past le
    still false right i ge le = last i (omega arith)

    stays_sound : Sound m after
    stays_sound = record {
      shaped = record { allowed = sound.shaped.allowed; shape = sound.shaped.shape };
      fits = fit;
      forward = λ i le.
          sound.forward i (le_trans le (min-le_left b.marks.forward k))
          ∙ forward_local m b.depth (places_of b) (places_of after) i
          (λ j lt. sym (other j (let ne : j ≢ k = omega (arith, min-le_right b.marks.forward k) in ne)));
      backward = λ i ge le.
          sound.backward i (le_trans (back_grows full b.marks.backward k b.count kept.sized.behind) ge) le
          ∙ still full tells.right i ge le;
    }

  -- the same of marks that are known by an equation
  module _ (marks : Marks) (are : marks ≡ marks_after full b.count k b.marks) where
    pub alter_done : Altered b (with_other b marks k p) (altered full (standing b) k p)
    alter_done = subst (λ (x : Marks). Altered b (with_other b x k p) (altered full (standing b) k p)) (sym are) done

    pub alter_sound : (m : Meaning) → TellsFull m b full → Fits m p → Sound m b → Sound m (with_other b marks k p)
    alter_sound m tells fits sound = subst (λ (x : Marks). Sound m (with_other b x k p)) (sym are) (stays_sound m tells fits sound)

-- the burst with places fewer
abbrev pub with_fewer : Burst → ℕ → Marks → Burst
with_fewer b n marks = record {
  places = b.places;
  count = b.count - n;
  depth = b.depth;
  shape = b.shape;
  forward = b.forward;
  backward = set b.backward (b.count - n) zeros;
  marks = marks;
}

-- and its marks
abbrev pub marks_of_fewer : Burst → ℕ → Marks
marks_of_fewer b n = record { forward = min b.marks.forward (b.count - n); backward = b.count - n }

module _ (b : Burst) (n : ℕ) (kept : Kept b) (held : n ≤ b.count) where
  abbrev fewer : Burst
  fewer = with_fewer b n (marks_of_fewer b n)

  new_count : length (places_of b) - n ≡ b.count - n
  new_count = ap (λ (l : ℕ). l - n) (places_long b kept.sized)

  fewer_are : places_of fewer ≡ take (length (places_of b) - n) (places_of b)
  fewer_are =
      sym (take-take (b.count - n) b.count b.places (omega arith)) ∙ ap (λ (l : ℕ). take l (places_of b)) (sym new_count)

  end_written : (i : ℕ) → i ≡ b.count - n → backward_at fewer i ≡ zeros
  end_written i e =
      ap (backward_at fewer) e ∙ get_or-set_same b.backward (b.count - n) zeros [] (omega (arith, kept.sized.backward, kept.sized.few))

  fewer_keeps : Kept fewer
  fewer_keeps = record {
    sized = record {
      places = kept.sized.places;
      forward = kept.sized.forward;
      backward = length-set b.backward (b.count - n) zeros ∙ kept.sized.backward;
      few = omega (arith, kept.sized.few);
      ahead = min-le_right b.marks.forward (b.count - n);
      behind = omega arith;
    };
    costs = λ i le. kept.costs i (le_trans le (min-le_left b.marks.forward (b.count - n)));
    survivors = λ i le. kept.survivors i (le_trans le (min-le_left b.marks.forward (b.count - n)));
    onward = λ i low high.
        subst (CostsWithin (131069 * (b.count - n - i))) (sym (end_written i (omega arith))) (zeros_within (131069 * (b.count - n - i)));
  }

  module _ (m : Meaning) (sound : Sound m b) where
    before : (i : ℕ) → i < b.count - n → place_at (places_of fewer) i ≡ place_at (places_of b) i
    before i lt =
        get_or-take (b.count - n) b.places i _ lt ∙ sym (get_or-take b.count b.places i _ (omega arith))

    fewer_sound : Sound m fewer
    fewer_sound = record {
      shaped = record { allowed = sound.shaped.allowed; shape = sound.shaped.shape };
      fits = λ i lt. subst (Fits m) (sym (before i lt)) (sound.fits i (omega arith));
      forward = λ i le.
          sound.forward i (le_trans le (min-le_left b.marks.forward (b.count - n)))
          ∙ forward_local m b.depth (places_of b) (places_of fewer) i
          (λ j lt. sym (before j (omega (arith, min-le_right b.marks.forward (b.count - n)))));
      backward = λ i low high.
          ap (costs_of (states m b.depth)) (end_written i (omega arith))
          ∙ zeros_last m b.depth (allowed_keeps m b.depth sound.shaped.allowed).few_states
          ∙ sym (backward_end m b.depth (places_of fewer) i (omega (arith, places_long fewer fewer_keeps.sized)));
    }

  -- the same of marks that are known by an equation
  module _ (marks : Marks) (are : marks ≡ marks_of_fewer b n) where
    pub cut_sound : (m : Meaning) → Sound m b → Sound m (with_fewer b n marks)
    cut_sound m sound = subst (λ (x : Marks). Sound m (with_fewer b n x)) (sym are) (fewer_sound m sound)
