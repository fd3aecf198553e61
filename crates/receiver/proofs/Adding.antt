-- A burst with a place more keeps what it kept, and is as sound as it was.
use Rattle.std.proofs.Common.{◌≡◌, ℕ, ◌+◌, ◌<◌, List, [], ◌∷◌, ◌++◌, length, set, sym, ap, ◌∙◌, subst, inl, inr, arith, get_or-set_same}
use Rattle.std.proofs.lemmas.List.{take_more_set, length_push}
use Rattle.std.proofs.lemmas.Bool.{cases_lt}
use Rattle.channel.specs.Meaning.{Meaning}
use Rattle.burst.specs.Sequences.{place_at}
use Rattle.burst.specs.declared.place.Place.{Place}
use Rattle.recursions.specs.Depths.{states}
use Rattle.recursions.proofs.Locality.{forward_local}
use Rattle.recursions.proofs.Depths.{allowed_keeps}
use Rattle.columns.specs.Cells.{costs_of}
use Rattle.receiver.specs.Bursts.{Kept, places_of, backward_at}
use Rattle.receiver.specs.Sound.{Fits, Sound}
use Rattle.receiver.specs.declared.inner.Burst.{Burst}
use Rattle.receiver.proofs.Places.{places_long, place_before, place_last, zeros, zeros_last, backward_end}

-- the burst with a place more
abbrev pub with_place : Burst → Place → Burst
with_place b p = record {
  places = set b.places b.count p;
  count = b.count + 1;
  depth = b.depth;
  shape = b.shape;
  forward = b.forward;
  backward = set b.backward (b.count + 1) zeros;
  marks = record { forward = b.marks.forward; backward = b.count + 1 };
}

module _ (b : Burst) (p : Place) (kept : Kept b) (room : b.count < 128) where
  places_are : places_of (with_place b p) ≡ places_of b ++ (p ∷ [])
  places_are = take_more_set b.places b.count p (omega (arith, kept.sized.places))

  last_written : (k : ℕ) → k ≡ b.count + 1 → backward_at (with_place b p) k ≡ zeros
  last_written k e =
      ap (backward_at (with_place b p)) e ∙ get_or-set_same b.backward (b.count + 1) zeros [] (omega (arith, kept.sized.backward))

  module _ (m : Meaning) (fits : Fits m p) (sound : Sound m b) where
    before : (k : ℕ) → k < b.count → place_at (places_of (with_place b p)) k ≡ place_at (places_of b) k
    before k lt =
        ap (λ (ps : List Place). place_at ps k) places_are ∙ place_before (places_of b) p k (omega (arith, places_long b kept.sized))

    fit : (k : ℕ) → k < b.count + 1 → Fits m (place_at (places_of (with_place b p)) k)
    fit k lt =
        elim (cases_lt k b.count) [
          | inl old ↦ subst (Fits m) (sym (before k old)) (sound.fits k old)
          | inr new ↦
              subst (Fits m)
              (sym (ap (λ (ps : List Place). place_at ps k) places_are ∙ place_last (places_of b) p k (omega (arith, places_long b kept.sized)))) fits
        ]

    pub add_sound : Sound m (with_place b p)
    add_sound = record {
      shaped = record { allowed = sound.shaped.allowed; shape = sound.shaped.shape };
      fits = fit;
      forward = λ k le.
          sound.forward k le
          ∙ forward_local m b.depth (places_of b) (places_of (with_place b p)) k (λ i lt. sym (before i (omega (arith, kept.sized.ahead))));
      backward = λ k low high.
          ap (costs_of (states m b.depth)) (last_written k (omega arith))
          ∙ zeros_last m b.depth (allowed_keeps m b.depth sound.shaped.allowed).few_states
          ∙ sym (backward_end m b.depth (places_of (with_place b p)) k
          (omega (arith, ap length places_are, length_push (places_of b) p, places_long b kept.sized)));
    }
