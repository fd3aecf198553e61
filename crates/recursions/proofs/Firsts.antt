-- The first number that passes a test is what it says, and so is the test that two costs are equal.
use Rattle.std.proofs.Common.{◌≡◌, ℕ, zero, suc, ◌<◌, Bool, true, false, cond, ◌⊎◌, Some, None, Option, sym, refl, ap, ◌∙◌, subst, ap₂, inl, inr, arith}
use Rattle.std.proofs.lemmas.Bool.{cases_eq, cases_Bool, eq-eqb, eqb-true, ne_eqb, cond-true, cond-false}
use Rattle.cost.specs.declared.Cost.{Cost}
use Rattle.cost.specs.declared.Cost.TheVariants.{Eighths, Barred}
use Rattle.recursions.specs.Firsts.{or_else, first_under, same_cost}

-- i is the first number below n that passes
pub record IsFirst (n i : ℕ) (passes : ℕ → Bool) : Type 0 where
  pub below : i < n
  pub passing : passes i ≡ true
  pub earlier : (j : ℕ) → j < i → passes j ≡ false

pub first_none : (n : ℕ) (passes : ℕ → Bool) → ((j : ℕ) → j < n → passes j ≡ false) → first_under n passes ≡ None
unfolding first_under
first_none zero passes fails = refl
first_none (suc n) passes fails =
    ap₂ (λ (x y : Option ℕ). or_else x y) (first_none n passes (λ j lt. fails j (omega arith))) (cond-false (passes n) (Some n) None (fails n (omega arith)))

pub first_is : (n i : ℕ) (passes : ℕ → Bool) → i < n → passes i ≡ true → ((j : ℕ) → j < i → passes j ≡ false) → first_under n passes ≡ Some i
unfolding first_under
first_is zero i passes lt holds earlier = absurd (omega arith)
first_is (suc n) i passes lt holds earlier =
    elim (cases_eq i n) [
      | inl last ↦
          ap₂ (λ (x y : Option ℕ). or_else x y)
          (first_none n passes (λ j lj. earlier j (omega arith)))
          (cond-true (passes n) (Some n) None (subst (λ j. passes j ≡ true) last holds) ∙ ap Some (sym last))
      | inr before ↦ ap (λ (x : Option ℕ). or_else x (cond (passes n) (Some n) None)) (first_is n i passes (omega arith) holds earlier)
    ]

-- none passes, or there is a first
pub first_or_none : (n : ℕ) (passes : ℕ → Bool) → ((j : ℕ) → j < n → passes j ≡ false) ⊎ ((i : ℕ) × IsFirst n i passes)
first_or_none zero passes = inl (λ j lt. absurd (omega arith))
first_or_none (suc n) passes =
    elim (first_or_none n passes) [
      | inl none ↦
          elim (cases_Bool (passes n)) [
            | inl holds ↦ inr (n, record { below = omega arith; passing = holds; earlier = none })
            | inr fails ↦
                inl (λ j lt. elim (cases_eq j n) [ inl last ↦ subst (λ i. passes i ≡ false) (sym last) fails | inr before ↦ none j (omega arith) ])
          ]
      | inr found ↦ inr (found.0, record { below = omega (arith, found.1.below); passing = found.1.passing; earlier = found.1.earlier })
    ]

pub first_found : (n i : ℕ) (passes : ℕ → Bool) → first_under n passes ≡ Some i → IsFirst n i passes
first_found n i passes is =
    elim (first_or_none n passes) [
      | inl none ↦ let e = first_none n passes none in let never : ◌≡◌ {A = ℕ} 0 1 = cc in absurd (omega arith)
      | inr found ↦
          let e = first_is n found.0 passes found.1.below found.1.passing found.1.earlier in
          let same : found.0 ≡ i = cc in
          subst (λ j. IsFirst n j passes) same found.1
    ]

-- where one passes, there is a first
pub first_exists : (n j : ℕ) (passes : ℕ → Bool) → j < n → passes j ≡ true → (i : ℕ) × (first_under n passes ≡ Some i) × IsFirst n i passes
first_exists n j passes lt holds =
    elim (first_or_none n passes) [
      | inl none ↦ let fails = none j lt in let never : ◌≡◌ {A = ℕ} 0 1 = cc in absurd (omega arith)
      | inr found ↦ (found.0, first_is n found.0 passes found.1.below found.1.passing found.1.earlier, found.1)
    ]

pub first_cong : (n : ℕ) (f g : ℕ → Bool) → ((j : ℕ) → j < n → f j ≡ g j) → first_under n f ≡ first_under n g
unfolding first_under
first_cong zero f g same = refl
first_cong (suc n) f g same =
    ap₂ (λ (x : Option ℕ) (b : Bool). or_else x (cond b (Some n) None)) (first_cong n f g (λ j lt. same j (omega arith))) (same n (omega arith))

pub same_itself : (c : Cost) → same_cost c c ≡ true
same_itself (Eighths n) = eq-eqb n n refl
same_itself Barred = refl

pub same_true : (c d : Cost) → same_cost c d ≡ true → c ≡ d
same_true (Eighths m) (Eighths n) e = ap Eighths (eqb-true m n e)
same_true (Eighths m) Barred e = let never : ◌≡◌ {A = ℕ} 0 1 = cc in absurd (omega arith)
same_true Barred (Eighths n) e = let never : ◌≡◌ {A = ℕ} 0 1 = cc in absurd (omega arith)
same_true Barred Barred e = refl

pub same_false : (c d : Cost) → (c ≡ d → ⊥) → same_cost c d ≡ false
same_false (Eighths m) (Eighths n) apart = ne_eqb m n (λ e. apart (ap Eighths e))
same_false (Eighths m) Barred apart = refl
same_false Barred (Eighths n) apart = refl
same_false Barred Barred apart = absurd (apart refl)
