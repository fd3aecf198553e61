-- The priors that are handed on, and what their refusal is.
use Rattle.std.proofs.Common.{◌≡◌, ℕ, ◌≤◌, Bool, true, false, ◌&&◌, List, [], ◌∷◌, length, get_or, MatchBool, refl, ap, arith}
use mathlib.Core.Path.{fun_ext}
use mathlib.Core.HLevel.{is_prop→PathP}
use native.Mathlib.Bridge.{le_prop}
use native.Mathlib.Nat.{ℕ_set}
use Rattle.std.proofs.lemmas.Bool.Decides.{nat_tests}
use Rattle.burst.specs.Places.{priors_allowed}
use Rattle.burst.specs.declared.priors.Priors.{Priors}
use Rattle.forms.specs.declared.prior.Prior.{Prior}
use Rattle.reading.specs.Places.{all_fit, priors_of, Hands}

-- priors with the same numbers are the same
pub same_priors : (p q : Priors) → p.numbers ≡ q.numbers → p ≡ q
same_priors p q e j = record {
  numbers = e j;
  four = is_prop→PathP (λ k. length (e k) ≡ 4) (λ k. ℕ_set (length (e k)) 4) p.four q.four j;
  small = is_prop→PathP (λ k. (value : ℕ) → get_or (e k) value 0 ≤ 65535) (λ k x y. fun_ext (λ value. le_prop (x value) (y value))) p.small q.small j;
}

-- the refusal of what is handed on is that of what is written
broken : (symbols : ℕ) (p : Priors) → p.numbers ≡ 65535 ∷ (65535 ∷ (65535 ∷ (65535 ∷ []))) → priors_allowed symbols p ≡ false
broken symbols p e =
    let a : get_or p.numbers 0 0 ≡ 65535 = ap (λ l. get_or l 0 0) e in
    let b : get_or p.numbers 1 0 ≡ 65535 = ap (λ l. get_or l 1 0) e in
    let c : get_or p.numbers 2 0 ≡ 65535 = ap (λ l. get_or l 2 0) e in
    let d : get_or p.numbers 3 0 ≡ 65535 = ap (λ l. get_or l 3 0) e in
    grind (arith, nat_tests)

pub handed_allowed : (symbols : ℕ) (ps : List Prior) (p : Priors) → Hands ps p → priors_allowed symbols p ≡ (all_fit ps && priors_allowed symbols (priors_of ps))
handed_allowed symbols ps p h = by_fit (all_fit ps) refl h
  where
    by_fit : (b : Bool) → all_fit ps ≡ b → MatchBool b (p ≡ priors_of ps) (p.numbers ≡ 65535 ∷ (65535 ∷ (65535 ∷ (65535 ∷ [])))) → priors_allowed symbols p ≡ (b && priors_allowed symbols (priors_of ps))
    by_fit true e g = ap (priors_allowed symbols) g
    by_fit false e g = broken symbols p g
