-- Priors as they are written, and back.
use Rattle.std.proofs.Common.{◌≡◌, ℕ, ◌<◌, ◌≤◌, min, Bool, true, false, cond, ◌&&◌, eqb, ltb, ◌⊎◌, List, [], ◌∷◌, map, length, get_or, take, pos, negsuc, sym, refl, ap, ◌∙◌, subst, inl, inr, arith, eq-eqb}
use Rattle.std.specs.List.{AllByRecursion}
use Rattle.std.proofs.lemmas.Fmt.{length-decimal-le}
use Rattle.std.proofs.lemmas.Bool.{cases_eq}
use Rattle.std.proofs.lemmas.Bool.Decides.{nat_tests}
use Rattle.burst.specs.Places.{priors_allowed}
use Rattle.burst.specs.declared.priors.Priors.{Priors}
use Rattle.forms.specs.Forms.{prior_text, PriorLawful}
use Rattle.forms.specs.declared.prior.Prior.{Prior}
use Rattle.forms.specs.declared.prior.Prior.TheVariants.{Number, Barred}
use Rattle.reading.specs.Places.{prior_fits, all_fit, number_of_prior, priors_of}
use Rattle.reading.proofs.Numbering.{same_priors}
use Rattle.writing.specs.Written.{of_prior}

other : (n : ℕ) → (n ≡ 65535 → ⊥) → eqb n 65535 ≡ false
other n h = grind (arith, nat_tests)

-- a prior of 16 bits as it is written
as_written : (n : ℕ) → n ≤ 65535 → (P : Prior → Type 0) → (n ≡ 65535 → P Barred) → (n < 65535 → P (Number (pos n))) → P (of_prior n)
as_written n small P barred number =
    elim (cases_eq n 65535) [
      | inl e ↦ subst P (sym (ap (λ b. cond b Barred (Number (pos n))) (eq-eqb n 65535 e))) (barred e)
      | inr ne ↦ subst P (sym (ap (λ b. cond b Barred (Number (pos n))) (other n ne))) (number (omega arith))
    ]

below : (n : ℕ) → n < 65535 → ltb n 65535 ≡ true
below n h = grind (arith, nat_tests)

least : (n : ℕ) → n < 65535 → min n 65535 ≡ n
least n h = omega arith

pub back : (n : ℕ) → n ≤ 65535 → number_of_prior (of_prior n) ≡ n
back n small = as_written n small (λ p. number_of_prior p ≡ n) (λ e. sym e) (λ h. least n h)

pub fits : (n : ℕ) → n ≤ 65535 → prior_fits (of_prior n) ≡ true
fits n small = as_written n small (λ p. prior_fits p ≡ true) (λ e. refl) (λ h. below n h)

pub lawful : (n : ℕ) → n ≤ 65535 → PriorLawful (of_prior n)
lawful n small = as_written n small PriorLawful (λ e. tt) (λ h. omega arith)

pub short : (n : ℕ) → n ≤ 65535 → length (prior_text (of_prior n)) ≤ 6
short n small = as_written n small (λ p. length (prior_text p) ≤ 6) (λ e. omega arith) (λ h. omega (arith, length-decimal-le 5 n (omega arith) (omega arith) (omega arith)))

-- a written prior that fits, and back
pub again : (p : Prior) → prior_fits p ≡ true → of_prior (number_of_prior p) ≡ p
again Barred h = refl
again (Number (pos n)) h =
    let small : n < 65535 = told n h in
    let apart : n ≡ 65535 → ⊥ = λ e. omega arith in
    ap of_prior (least n small) ∙ ap (λ b. cond b Barred (Number (pos n))) (other n apart)
  where
    told : (n : ℕ) → ltb n 65535 ≡ true → n < 65535
    told n h = grind (arith, nat_tests)
again (Number (negsuc n)) h = let z : ◌≡◌ {A = ℕ} 0 1 = cc in absurd (omega arith)

first : (a b : Bool) → (a && b) ≡ true → a ≡ true
first a b h = grind (arith, nat_tests)

second : (a b : Bool) → (a && b) ≡ true → b ≡ true
second a b h = grind (arith, nat_tests)

-- two or four priors that fit, and back
pub two_again : (ps : List Prior) → length ps ≡ 2 → all_fit ps ≡ true → map of_prior (take 2 (priors_of ps).numbers) ≡ ps
two_again (p ∷ (q ∷ [])) l h =
    let a : of_prior (number_of_prior p) ≡ p = again p (first (prior_fits p) (all_fit (q ∷ [])) h) in
    let b : of_prior (number_of_prior q) ≡ q = again q (first (prior_fits q) true (second (prior_fits p) (all_fit (q ∷ [])) h)) in
    cc
two_again [] l h = absurd (omega arith)
two_again (p ∷ []) l h = absurd (omega arith)
two_again (p ∷ (q ∷ (r ∷ ps))) l h = absurd (omega arith)

pub four_again : (ps : List Prior) → length ps ≡ 4 → all_fit ps ≡ true → map of_prior (take 4 (priors_of ps).numbers) ≡ ps
four_again (p ∷ (q ∷ (r ∷ (s ∷ [])))) l h =
    let h₁ : all_fit (q ∷ (r ∷ (s ∷ []))) ≡ true = second (prior_fits p) (all_fit (q ∷ (r ∷ (s ∷ [])))) h in
    let h₂ : all_fit (r ∷ (s ∷ [])) ≡ true = second (prior_fits q) (all_fit (r ∷ (s ∷ []))) h₁ in
    let h₃ : all_fit (s ∷ []) ≡ true = second (prior_fits r) (all_fit (s ∷ [])) h₂ in
    let a : of_prior (number_of_prior p) ≡ p = again p (first (prior_fits p) (all_fit (q ∷ (r ∷ (s ∷ [])))) h) in
    let b : of_prior (number_of_prior q) ≡ q = again q (first (prior_fits q) (all_fit (r ∷ (s ∷ []))) h₁) in
    let c : of_prior (number_of_prior r) ≡ r = again r (first (prior_fits r) (all_fit (s ∷ [])) h₂) in
    let d : of_prior (number_of_prior s) ≡ s = again s (first (prior_fits s) true h₃) in
    cc
four_again [] l h = absurd (omega arith)
four_again (p ∷ []) l h = absurd (omega arith)
four_again (p ∷ (q ∷ [])) l h = absurd (omega arith)
four_again (p ∷ (q ∷ (r ∷ []))) l h = absurd (omega arith)
four_again (p ∷ (q ∷ (r ∷ (s ∷ (t ∷ ps))))) l h = absurd (omega arith)

pub priors_again : (m : ℕ) (ps : List Prior) → (m ≡ 2) ⊎ (m ≡ 4) → length ps ≡ m → all_fit ps ≡ true → map of_prior (take m (priors_of ps).numbers) ≡ ps
priors_again m ps (inl e) l h = ap (λ k. map of_prior (take k (priors_of ps).numbers)) e ∙ two_again ps (l ∙ e) h
priors_again m ps (inr e) l h = ap (λ k. map of_prior (take k (priors_of ps).numbers)) e ∙ four_again ps (l ∙ e) h

-- what holds of four numbers of 16 bits that keep the rule of priors
pub record Kept (m : ℕ) (p : Priors) (ps : List Prior) : Type 0 where
  pub long : length ps ≡ m
  pub fit : all_fit ps ≡ true
  pub lawfully : AllByRecursion PriorLawful ps
  pub same : priors_of ps ≡ p
  pub brief : AllByRecursion (λ q. length (prior_text q) ≤ 6) ps

both : (a b : Bool) → a ≡ true → b ≡ true → (a && b) ≡ true
both a b p q = grind (arith, nat_tests)

four_kept : (p : Priors) (a b c d : ℕ) → p.numbers ≡ a ∷ (b ∷ (c ∷ (d ∷ []))) → a ≤ 65535 → b ≤ 65535 → c ≤ 65535 → d ≤ 65535
    → Kept 4 p (of_prior a ∷ (of_prior b ∷ (of_prior c ∷ (of_prior d ∷ []))))
four_kept p a b c d e sa sb sc sd =
    let ea : number_of_prior (of_prior a) ≡ a = back a sa in
    let eb : number_of_prior (of_prior b) ≡ b = back b sb in
    let ec : number_of_prior (of_prior c) ≡ c = back c sc in
    let ed : number_of_prior (of_prior d) ≡ d = back d sd in
    record {
      long = refl;
      fit = both (prior_fits (of_prior a)) _ (fits a sa) (both (prior_fits (of_prior b)) _ (fits b sb) (both (prior_fits (of_prior c)) _ (fits c sc) (both (prior_fits (of_prior d)) true (fits d sd) refl)));
      lawfully = (lawful a sa, (lawful b sb, (lawful c sc, (lawful d sd, tt))));
      same = same_priors (priors_of (of_prior a ∷ (of_prior b ∷ (of_prior c ∷ (of_prior d ∷ []))))) p (cc);
      brief = (short a sa, (short b sb, (short c sc, (short d sd, tt))));
    }

two_kept : (p : Priors) (a b : ℕ) → p.numbers ≡ a ∷ (b ∷ (0 ∷ (0 ∷ []))) → a ≤ 65535 → b ≤ 65535 → Kept 2 p (of_prior a ∷ (of_prior b ∷ []))
two_kept p a b e sa sb =
    let ea : number_of_prior (of_prior a) ≡ a = back a sa in
    let eb : number_of_prior (of_prior b) ≡ b = back b sb in
    record {
      long = refl;
      fit = both (prior_fits (of_prior a)) _ (fits a sa) (both (prior_fits (of_prior b)) true (fits b sb) refl);
      lawfully = (lawful a sa, (lawful b sb, tt));
      same = same_priors (priors_of (of_prior a ∷ (of_prior b ∷ []))) p (cc);
      brief = (short a sa, (short b sb, tt));
    }

unused : (p : Priors) → priors_allowed 2 p ≡ true → (get_or p.numbers 2 0 ≡ 0) × (get_or p.numbers 3 0 ≡ 0)
unused p h = grind (arith, nat_tests)

by_four : (m : ℕ) (p : Priors) (xs : List ℕ) → p.numbers ≡ xs → length xs ≡ 4 → (m ≡ 2) ⊎ (m ≡ 4) → priors_allowed m p ≡ true → Kept m p (map of_prior (take m xs))
by_four m p (a ∷ (b ∷ (c ∷ (d ∷ [])))) e l (inr four) h =
    let small : (v : ℕ) → get_or (a ∷ (b ∷ (c ∷ (d ∷ [])))) v 0 ≤ 65535 = λ v. subst (λ ys. get_or ys v 0 ≤ 65535) e (p.small v) in
    subst (λ k. Kept k p (map of_prior (take k (a ∷ (b ∷ (c ∷ (d ∷ []))))))) (sym four) (four_kept p a b c d e (small 0) (small 1) (small 2) (small 3))
by_four m p (a ∷ (b ∷ (c ∷ (d ∷ [])))) e l (inl two) h =
    let small : (v : ℕ) → get_or (a ∷ (b ∷ (c ∷ (d ∷ [])))) v 0 ≤ 65535 = λ v. subst (λ ys. get_or ys v 0 ≤ 65535) e (p.small v) in
    let none = unused p (subst (λ k. priors_allowed k p ≡ true) two h) in
    let c0 : c ≡ 0 = sym (ap (λ ys. get_or ys 2 0) e) ∙ none.0 in
    let d0 : d ≡ 0 = sym (ap (λ ys. get_or ys 3 0) e) ∙ none.1 in
    let is : p.numbers ≡ a ∷ (b ∷ (0 ∷ (0 ∷ []))) = cc in
    subst (λ k. Kept k p (map of_prior (take k (a ∷ (b ∷ (c ∷ (d ∷ []))))))) (sym two) (two_kept p a b is (small 0) (small 1))
by_four m p [] e l t h = absurd (omega arith)
by_four m p (a ∷ []) e l t h = absurd (omega arith)
by_four m p (a ∷ (b ∷ [])) e l t h = absurd (omega arith)
by_four m p (a ∷ (b ∷ (c ∷ []))) e l t h = absurd (omega arith)
by_four m p (a ∷ (b ∷ (c ∷ (d ∷ (f ∷ xs))))) e l t h = absurd (omega arith)

pub kept : (m : ℕ) (p : Priors) → (m ≡ 2) ⊎ (m ≡ 4) → priors_allowed m p ≡ true → Kept m p (map of_prior (take m p.numbers))
kept m p t h = by_four m p p.numbers refl p.four t h
