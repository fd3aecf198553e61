-- The ones that mask and window have in common are the symbols that the mask picks.
use Rattle.std.proofs.Common.{◌≡◌, ℕ, ◌+◌, ◌*◌, ◌/◌, ◌%◌, ◌<◌, min, cond, eqb, List, [], ◌∷◌, sym, refl, ap, ◌∙◌, arith}
use lib.Bits.{bit_and, and_step, and_zero_r}
use lib.Count.{ones, ones_step}
use Rattle.std.specs.List.{AllByRecursion}
use Rattle.std.proofs.lemmas.Bool.Decides.{nat_tests}
use Rattle.channel.specs.Windows.{window_number, symbol_at}
use Rattle.channel.proofs.Windows.{one_back, half}
use Rattle.code.specs.Parity.{picked_from, CodedBitIsTheParity}

-- one place further back is as far back in the half of the mask
picked_back : (symbols : List ℕ) (place mask : ℕ) → picked_from (place + 1) mask symbols ≡ picked_from place (mask / 2) symbols
picked_back [] place mask = refl
picked_back (a ∷ before) place mask =
    ap (λ (b : ℕ). cond (eqb b 1) a 0 + picked_from (place + 1 + 1) mask before) (one_back 2 mask place)
    ∙ ap (λ (s : ℕ). cond (eqb (symbol_at 2 (mask / 2) place) 1) a 0 + s) (picked_back before (place + 1) mask)

none : (mask : ℕ) → ones (bit_and mask 0) ≡ 0
unfolding ones
none mask = ap ones (and_zero_r mask)

-- the ones in common are the lowest, if both have it, and those of the halves
lowest : (mask window : ℕ) → ones (bit_and mask window) ≡ min (mask % 2) (window % 2) + ones (bit_and (mask / 2) (window / 2))
lowest mask window =
    let shared = and_step mask window in
    let odd : bit_and mask window % 2 ≡ min (mask % 2) (window % 2) = omega arith in
    let rest : bit_and mask window / 2 ≡ bit_and (mask / 2) (window / 2) = omega arith in
    ones_step (bit_and mask window) ∙ ap (λ (n : ℕ). n + ones (bit_and mask window / 2)) odd
    ∙ ap (λ (n : ℕ). min (mask % 2) (window % 2) + ones n) rest

-- a symbol counts if the lowest bit of the mask is set
here : (mask a h : ℕ) → a < 2 → min (mask % 2) ((a + 2 * h) % 2) ≡ cond (eqb (symbol_at 2 mask 0) 1) a 0
here mask a h small = grind (arith, nat_tests)

common : (mask : ℕ) (symbols : List ℕ) → AllByRecursion (λ a. a < 2) symbols → ones (bit_and mask (window_number 2 symbols)) ≡ picked_from 0 mask symbols
common mask [] small = none mask
common mask (a ∷ before) small =
    lowest mask (a + 2 * window_number 2 before)
    ∙ ap (λ (n : ℕ). n + ones (bit_and (mask / 2) ((a + 2 * window_number 2 before) / 2))) (here mask a (window_number 2 before) small.0)
    ∙ ap (λ (n : ℕ). cond (eqb (symbol_at 2 mask 0) 1) a 0 + n)
    (ap (λ (h : ℕ). ones (bit_and (mask / 2) h)) (half a (window_number 2 before) small.0)
    ∙ common (mask / 2) before small.1 ∙ sym (picked_back before 0 mask))

pub coded_bit_is_the_parity : CodedBitIsTheParity
coded_bit_is_the_parity mask symbols small = ap (λ (n : ℕ). n % 2) (common mask symbols small)
