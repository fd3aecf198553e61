-- Stored numbers under sums that stop at the greatest number, and under minima: they stand for the sum and the least of costs.
use Rattle.std.proofs.Common.{◌≡◌, ℕ, ◌+◌, ◌<◌, ◌≤◌, min, leb, ◌⊎◌, sym, refl, ap, ◌∙◌, ap₂, inl, inr, arith}
use Rattle.std.proofs.lemmas.Bool.{cases_eq, eq-eqb, ne_eqb, eqb-true, leb-true, le-leb, or_cases, or_left, or_right, cond-true, cond-false}
use Rattle.cost.specs.declared.Cost.{Cost}
use Rattle.cost.specs.declared.Cost.TheVariants.{Eighths, Barred}
use Rattle.cost.specs.Arithmetic.{plus, least}
use Rattle.columns.specs.Numbers.{as_cost, Within}

-- within a bound: at most the bound, or barred
pub within_cases : (b n : ℕ) → Within b n → (n ≤ b) ⊎ (n ≡ 4294967295)
within_cases b n within = elim (or_cases _ _ within) [ inl low ↦ inl (leb-true n b low) | inr top ↦ inr (eqb-true n 4294967295 top) ]

pub within_low : (b n : ℕ) → n ≤ b → Within b n
within_low b n low = or_left _ _ (le-leb n b low)

pub within_top : (b n : ℕ) → n ≡ 4294967295 → Within b n
within_top b n top = or_right (leb n b) _ (eq-eqb n 4294967295 top)

pub within_more : (b d n : ℕ) → b ≤ d → Within b n → Within d n
within_more b d n more within = elim (within_cases b n within) [ inl low ↦ within_low d n (omega arith) | inr top ↦ within_top d n top ]

pub as_eighths : (n : ℕ) → n < 4294967295 → as_cost n ≡ Eighths n
as_eighths n small = cond-false _ _ _ (ne_eqb n 4294967295 (λ e. omega arith))

pub as_barred : (n : ℕ) → n ≡ 4294967295 → as_cost n ≡ Barred
as_barred n top = cond-true _ _ _ (eq-eqb n 4294967295 top)

pub barred_sum : (c : Cost) → plus c Barred ≡ Barred
barred_sum (Eighths n) = refl
barred_sum Barred = refl

pub barred_least : (c : Cost) → least c Barred ≡ c
barred_least (Eighths n) = refl
barred_least Barred = refl

-- a sum that stops at the greatest number stands for the sum
sum_by : (b d x y : ℕ) → (x ≤ b) ⊎ (x ≡ 4294967295) → (y ≤ d) ⊎ (y ≡ 4294967295) → b + d < 4294967295
    → (as_cost (min (x + y) 4294967295) ≡ plus (as_cost x) (as_cost y)) × Within (b + d) (min (x + y) 4294967295)
sum_by b d x y (inl low) (inl few) room = (
  as_eighths _ (omega arith)
      ∙ ap Eighths (let e : min (x + y) 4294967295 ≡ x + y = omega arith in e)
      ∙ sym (ap₂ plus (as_eighths x (omega arith)) (as_eighths y (omega arith))),
  within_low (b + d) (min (x + y) 4294967295) (omega arith),
)
sum_by b d x y (inl low) (inr top) room = (
  as_barred _ (omega arith) ∙ sym (ap (plus (as_cost x)) (as_barred y top) ∙ barred_sum (as_cost x)),
  within_top (b + d) (min (x + y) 4294967295) (omega arith),
)
sum_by b d x y (inr top) within room = (
  as_barred _ (omega arith) ∙ sym (ap (λ (c : Cost). plus c (as_cost y)) (as_barred x top)),
  within_top (b + d) (min (x + y) 4294967295) (omega arith),
)

pub sum_as_cost : (b d x y : ℕ) → Within b x → Within d y → b + d < 4294967295 → as_cost (min (x + y) 4294967295) ≡ plus (as_cost x) (as_cost y)
sum_as_cost b d x y low few room = (sum_by b d x y (within_cases b x low) (within_cases d y few) room).0

pub sum_within : (b d x y : ℕ) → Within b x → Within d y → b + d < 4294967295 → Within (b + d) (min (x + y) 4294967295)
sum_within b d x y low few room = (sum_by b d x y (within_cases b x low) (within_cases d y few) room).1

-- the lesser number stands for the lesser cost
pub min_as_cost : (x y : ℕ) → x ≤ 4294967295 → y ≤ 4294967295 → as_cost (min x y) ≡ least (as_cost x) (as_cost y)
min_as_cost x y fits fits' =
    elim (cases_eq x 4294967295) [
      | inl top ↦
          let same : min x y ≡ y = omega arith in
          ap as_cost same ∙ sym (ap (λ (c : Cost). least c (as_cost y)) (as_barred x top))
      | inr low ↦
          elim (cases_eq y 4294967295) [
            | inl top ↦
                let same : min x y ≡ x = omega arith in
                ap as_cost same ∙ sym (ap (least (as_cost x)) (as_barred y top) ∙ barred_least (as_cost x))
            | inr few ↦
                let below : x < 4294967295 = omega (arith, low) in
                let below' : y < 4294967295 = omega (arith, few) in
                as_eighths _ (omega arith) ∙ sym (ap₂ least (as_eighths x below) (as_eighths y below'))
          ]
    ]
