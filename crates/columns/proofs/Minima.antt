-- The least of so many numbers stands for the least of their costs.
use Rattle.std.proofs.Common.{◌≡◌, ℕ, zero, suc, ◌+◌, ◌<◌, ◌≤◌, min, ◌⊎◌, sym, refl, ap, ◌∙◌, inl, inr, add-one, arith}
use Rattle.cost.specs.Arithmetic.{least}
use Rattle.joining.specs.Costs.{cost_operations}
use Rattle.trellis.specs.Sequences.{join_below}
use Rattle.columns.specs.Numbers.{as_cost, Within}
use Rattle.columns.specs.Pairs.{min_below}
use Rattle.columns.proofs.Numbers.{min_as_cost, within_cases, within_low, within_top}

pub min_none : (f : ℕ → ℕ) → 4294967295 ≡ min_below 0 f
unfolding min_below
min_none f = refl

pub min_more : (n : ℕ) (f : ℕ → ℕ) → min (min_below n f) (f n) ≡ min_below (n + 1) f
unfolding min_below
min_more n f = ap (λ (k : ℕ). min_below k f) (sym (add-one n))

pub min_fits : (n : ℕ) (f : ℕ → ℕ) → min_below n f ≤ 4294967295
unfolding min_below
min_fits zero f = omega arith
min_fits (suc n) f = omega (arith, min_fits n f)

pub min_as : (n : ℕ) (f : ℕ → ℕ) → ((i : ℕ) → i < n → f i ≤ 4294967295) → as_cost (min_below n f) ≡ join_below cost_operations n (λ i. as_cost (f i))
unfolding min_below join_below
min_as zero f fit = refl
min_as (suc n) f fit =
    min_as_cost (min_below n f) (f n) (min_fits n f) (fit n (omega arith))
    ∙ ap (λ c. least c (as_cost (f n))) (min_as n f (λ i lt. fit i (omega arith)))

-- the lesser of two within a bound
min_of_two : (b x y : ℕ) → (x ≤ b) ⊎ (x ≡ 4294967295) → (y ≤ b) ⊎ (y ≡ 4294967295) → Within b (min x y)
min_of_two b x y (inl low) other = within_low b (min x y) (omega arith)
min_of_two b x y (inr top) (inl low) = within_low b (min x y) (omega arith)
min_of_two b x y (inr top) (inr also) = within_top b (min x y) (omega arith)

pub min_within : (b n : ℕ) (f : ℕ → ℕ) → ((i : ℕ) → i < n → Within b (f i)) → Within b (min_below n f)
unfolding min_below
min_within b zero f within = within_top b 4294967295 refl
min_within b (suc n) f within =
    min_of_two b _ _ (within_cases b _ (min_within b n f (λ i lt. within i (omega arith)))) (within_cases b _ (within n (omega arith)))
