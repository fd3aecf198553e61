-- The steps by which a program finds the elements: each from its neighbours.
use Rattle.std.proofs.Common.{◌≡◌, ℕ, suc, ◌+◌, ◌-◌, ◌*◌, ◌/◌, ◌%◌, ◌<◌, ◌≤◌, cond, eqb, sym, refl, ap, ◌∙◌, ap₂, le_refl, mul-le-mul, mul-suc, arith}
use Rattle.std.proofs.lemmas.Nat.{div_below}
use Rattle.trellis.specs.Trellis.{Trellis, Sound}
use Rattle.trellis.specs.Sequences.{join_below, over_all, reach, along}
use Rattle.trellis.specs.Columns.{answer}
use Rattle.trellis.specs.Shifts.{Shifts}
use Rattle.trellis.specs.Elements.{forward_element_of, backward_element_of, answer_element}
use Rattle.trellis.proofs.Below.{below_cong, below_same}
use Rattle.trellis.proofs.All.{follow_all}
use Rattle.trellis.proofs.Theorems.{forward_joins, backward_joins, answers_join}
use Rattle.trellis.proofs.Shifts.{forward_gathers}

-- a pair into a state is one of all pairs, and so its state is a state
pub pair_lt : (n m u j : ℕ) → u < n → j < m → u + n * j < n * m
pair_lt n m u j p r =
    let most : n * suc j ≤ n * m = mul-le-mul (le_refl n) r in
    omega (arith, mul-suc n j, most)

pub state_lt : (n m u j : ℕ) → u < n → j < m → (u + n * j) / m < n
state_lt n m u j p r = div_below (u + n * j) m n (omega arith) (pair_lt n m u j p r)

-- the ways by which a program with n states and m symbols makes an element
module _ {J : Type 0} (t : Trellis J) where
  -- into the state u of the column after k
  unfoldable pub forward_way : ℕ → ℕ → ℕ → ℕ → ℕ → J
  forward_way n m k u j =
      t.operations.follow (forward_element_of t k ((u + n * j) / m)) (t.weight k ((u + n * j) / m) ((u + n * j) % m))

  -- from the state s of column k
  unfoldable pub backward_way : ℕ → ℕ → ℕ → ℕ → J
  backward_way K k s a = t.operations.follow (t.weight k s a) (backward_element_of t K (suc k) (t.next s a))

  -- by the symbol a at the place k
  unfoldable pub answer_way : ℕ → ℕ → ℕ → ℕ → J
  answer_way K k a s =
      t.operations.follow (t.operations.follow (forward_element_of t k s) (t.weight k s a)) (backward_element_of t K (suc k) (t.next s a))

module _ {J : Type 0} (t : Trellis J) (sound : Sound t) where
  pub forward_start : (u : ℕ) → forward_element_of t 0 u ≡ cond (eqb u t.start) t.operations.unit t.operations.none
  unfolding forward_element_of over_all reach along
  forward_start u = refl

  pub forward_step : Shifts t → (k u : ℕ) → u < t.states
      → forward_element_of t (suc k) u ≡ join_below t.operations t.symbols (forward_way t t.states t.symbols k u)
  unfolding forward_element_of forward_way
  forward_step shifts k u lu =
      sym (forward_joins J t sound (suc k) u lu)
      ∙ forward_gathers J t sound shifts k u lu
      ∙ below_cong t.operations t.symbols _ _ (λ j lj.
      ap (λ x. t.operations.follow x (t.weight k ((u + t.states * j) / t.symbols) ((u + t.states * j) % t.symbols)))
      (forward_joins J t sound k ((u + t.states * j) / t.symbols) (state_lt t.states t.symbols u j lu lj)))

  pub backward_end : (K s : ℕ) → backward_element_of t K K s ≡ t.operations.unit
  unfolding backward_element_of over_all along
  backward_end K s = let none : K - K ≡ 0 = omega arith in ap (λ (n : ℕ). over_all t n (along t K s)) none

  pub backward_step : (K k s : ℕ) → k < K
      → backward_element_of t K k s ≡ join_below t.operations t.symbols (backward_way t K k s)
  unfolding backward_element_of backward_way over_all along
  backward_step K k s lk =
      let more : K - k ≡ suc (K - suc k) = omega arith in
      ap (λ (n : ℕ). over_all t n (along t k s)) more
      ∙ below_same t.operations t.symbols _ _ (λ a. sym (follow_all t sound.laws (K - suc k) (t.weight k s a) (along t (suc k) (t.next s a))))

  pub answer_meets : (K k a : ℕ) → k < K → a < t.symbols
      → answer_element t K k a ≡ join_below t.operations t.states (answer_way t K k a)
  unfolding answer_element forward_element_of backward_element_of answer_way answer
  answer_meets K k a lk la =
      sym (answers_join J t sound K k a lk la)
      ∙ below_cong t.operations t.states _ _ (λ s ls.
      ap₂ (λ x y. t.operations.follow (t.operations.follow x (t.weight k s a)) y)
      (forward_joins J t sound k s ls)
      (backward_joins J t sound (K - suc k) (suc k) (t.next s a)))
