-- The places of a burst, and the columns of zeros that calls write.
use Rattle.std.proofs.Common.{◌≡◌, ℕ, ◌-◌, ◌<◌, ◌≤◌, List, [], ◌∷◌, ◌++◌, length, get_or, replicate, sym, refl, ap, ◌∙◌, subst, arith}
use lib.ListN.{get_or-replicate, get_or-append}
use Rattle.std.proofs.lemmas.List.{length-take-le, get_or-take}
use Rattle.cost.specs.declared.Cost.TheVariants.{Eighths}
use Rattle.channel.specs.Meaning.{Meaning}
use Rattle.burst.specs.Sequences.{place_at}
use Rattle.burst.specs.declared.place.Place.{Place}
use Rattle.recursions.specs.Backward.{backward, backward_of, last_column}
use Rattle.recursions.specs.Depths.{states}
use Rattle.recursions.proofs.Locality.{counted_same}
use Rattle.columns.specs.Numbers.{as_cost, Within}
use Rattle.columns.specs.Cells.{CostsWithin, costs_of}
use Rattle.columns.proofs.Every.{sixteen_within}
use Rattle.columns.proofs.Numbers.{within_low, as_eighths}
use Rattle.receiver.specs.Bursts.{Sized, places_of}
use Rattle.receiver.specs.declared.inner.Burst.{Burst}

pub places_long : (b : Burst) → Sized b → length (places_of b) ≡ b.count
places_long b sized = length-take-le b.count b.places (omega (arith, sized.few, sized.places))

-- places before the last that was added
pub place_before : (places : List Place) (p : Place) (k : ℕ) → k < length places → place_at (places ++ (p ∷ [])) k ≡ place_at places k
place_before places p k lt = get_or-append places (p ∷ []) _ k lt

pub place_last : (places : List Place) (p : Place) (k : ℕ) → k ≡ length places → place_at (places ++ (p ∷ [])) k ≡ p
place_last [] p k e = ap (λ (i : ℕ). place_at (p ∷ []) i) e
place_last (x ∷ xs) p k e = ap (λ (i : ℕ). place_at (x ∷ (xs ++ (p ∷ []))) i) e ∙ place_last xs p (length xs) refl

-- a column of zeros
abbrev pub zeros : List ℕ
zeros = replicate 16 0

pub zeros_within : (b : ℕ) → CostsWithin b zeros
zeros_within b = sixteen_within b zeros refl (λ s lt. subst (Within b) (sym (get_or-replicate 16 s 0 0 lt)) (within_low b 0 (omega arith)))

-- is the last backward column
pub zeros_last : (m : Meaning) (q : ℕ) → states m q ≤ 16 → costs_of (states m q) zeros ≡ last_column m q
unfolding costs_of last_column
zeros_last m q few =
    counted_same (λ s. as_cost (get_or zeros s 0)) (λ s. Eighths 0) (states m q)
    (λ s lt. ap as_cost (get_or-replicate 16 s 0 0 (omega arith)) ∙ as_eighths 0 (omega arith))

pub backward_end : (m : Meaning) (q : ℕ) (places : List Place) (k : ℕ) → k ≡ length places → backward m q places k ≡ last_column m q
unfolding backward_of
backward_end m q places k e =
    let none : length places - k ≡ 0 = omega arith in
    ap (λ (left : ℕ). backward_of m q places left k) none

-- a place that a burst has, in its whole list
pub place_of : (b : Burst) (k : ℕ) → k < b.count → place_at (places_of b) k ≡ place_at b.places k
place_of b k lt = get_or-take b.count b.places k _ lt
