-- How many states an allowed depth has, and which depth is the largest allowed.
use Rattle.std.proofs.Common.{◌≡◌, ℕ, zero, suc, ◌-◌, ◌*◌, ◌^◌, ◌<◌, ◌≤◌, min, true, false, ◌&&◌, leb, sym, ap, subst, inl, inr, arith}
use native.Mathlib.Nat.{pow-zero, pow-le-pow_right}
use Rattle.std.proofs.lemmas.Nat.{mul-le}
use Rattle.std.proofs.lemmas.Bool.{and_parts, and_from, cases_Bool, cases_eq, cases_lt, cond-true, cond-false, leb-true, le-leb, both_ways}
use Rattle.channel.specs.Meaning.{Meaning, Lawful}
use Rattle.burst.specs.Histories.{histories}
use Rattle.channel.proofs.Sizes.{two_symbols, four_symbols}
use Rattle.recursions.specs.Depths.{states, depth_allowed, allowed_up_to, largest_depth}

-- what an allowed depth keeps
pub record IsAllowed (m : Meaning) (q : ℕ) : Type 0 where
  pub some : 1 ≤ q
  pub within : q ≤ m.memory
  pub few_states : states m q ≤ 16

module _ (m : Meaning) (q : ℕ) where
  pub allowed_keeps : depth_allowed m q ≡ true → IsAllowed m q
  allowed_keeps allowed =
      let parts = and_parts (leb 1 q && leb q m.memory) (leb (states m q) 16) allowed in
      let ends = and_parts (leb 1 q) (leb q m.memory) parts.0 in
      record { some = leb-true 1 q ends.0; within = leb-true q m.memory ends.1; few_states = leb-true (states m q) 16 parts.1 }

  pub keeps_allowed : IsAllowed m q → depth_allowed m q ≡ true
  keeps_allowed keeps =
      and_from _ _ (and_from _ _ (le-leb 1 q keeps.some) (le-leb q m.memory keeps.within)) (le-leb (states m q) 16 keeps.few_states)

module _ (m : Meaning) (lawful : Lawful m) where
  pub states_grow : (p q : ℕ) → p ≤ q → states m p ≤ states m q
  states_grow p q le =
      let some-symbols : 0 < m.symbols = omega (arith, two_symbols m lawful) in
      let back : p - 1 ≤ q - 1 = omega arith in
      pow-le-pow_right some-symbols back

  pub states_within_histories : (q : ℕ) → depth_allowed m q ≡ true → states m q ≤ histories m
  states_within_histories q allowed = states_grow q m.memory (allowed_keeps m q allowed).within

  -- there are at most 64 pairs of a state and a symbol
  pub few_pairs : (q : ℕ) → depth_allowed m q ≡ true → states m q * m.symbols ≤ 64
  few_pairs q allowed = mul-le (states m q) m.symbols 16 4 (allowed_keeps m q allowed).few_states (four_symbols m lawful)

  pub one_allowed : depth_allowed m 1 ≡ true
  one_allowed = keeps_allowed m 1 (record { some = omega arith; within = lawful.remembers; few_states = omega (arith, pow-zero m.symbols) })

-- where one up to n is allowed, so is the greatest that is found, which is no less
up_to : (m : Meaning) (n q : ℕ) → q ≤ n → depth_allowed m q ≡ true → (depth_allowed m (allowed_up_to m n) ≡ true) × (q ≤ allowed_up_to m n)
up_to m zero q le allowed = absurd (omega (arith, (allowed_keeps m q allowed).some))
up_to m (suc n) q le allowed =
    elim (cases_Bool (depth_allowed m (suc n))) [
      | inl here ↦
          let e : allowed_up_to m (suc n) ≡ suc n = cond-true _ _ _ here in
          (subst (λ p. depth_allowed m p ≡ true) (sym e) here, omega arith)
      | inr other ↦
          let e : allowed_up_to m (suc n) ≡ allowed_up_to m n = cond-false _ _ _ other in
          let apart : q ≡ suc n → ⊥ = λ same. both_ways (depth_allowed m q) (subst (λ p. depth_allowed m p ≡ false) (sym same) other) allowed in
          let before = up_to m n q (elim (cases_eq q (suc n)) [ inl same ↦ absurd (apart same) | inr less ↦ omega arith ]) allowed in
          (subst (λ p. depth_allowed m p ≡ true) (sym e) before.0, omega (arith, before.1))
    ]

pub allowed_within_largest : (m : Meaning) (q : ℕ) → depth_allowed m q ≡ true → q ≤ largest_depth m
allowed_within_largest m q allowed = (up_to m m.memory q (allowed_keeps m q allowed).within allowed).1

pub largest_allowed : (m : Meaning) → Lawful m → depth_allowed m (largest_depth m) ≡ true
largest_allowed m lawful = (up_to m m.memory 1 lawful.remembers (one_allowed m lawful)).0

-- the largest allowed is the memory, cut at the last depth with at most 16 states
pub largest_is : (m : Meaning) → Lawful m → (limit : ℕ) → 1 ≤ limit → states m limit ≤ 16 → 16 < states m (suc limit) → largest_depth m ≡ min m.memory limit
largest_is m lawful limit some few many =
    let cut : ℕ = min m.memory limit in
    let allowed : depth_allowed m cut ≡ true =
    keeps_allowed m cut (record {
      some = omega (arith, lawful.remembers);
      within = omega arith;
      few_states = omega (arith, states_grow m lawful cut limit (omega arith));
    }) in
    let over = allowed_within_largest m cut allowed in
    let keeps = allowed_keeps m (largest_depth m) (largest_allowed m lawful) in
    elim (cases_lt limit (largest_depth m)) [
      | inl past ↦ absurd (omega (arith, states_grow m lawful (suc limit) (largest_depth m) past, keeps.few_states))
      | inr within ↦ omega (arith, keeps.within)
    ]

pub largest_of_two : (m : Meaning) → Lawful m → m.symbols ≡ 2 → largest_depth m ≡ min m.memory 5
largest_of_two m lawful two =
    largest_is m lawful 5 (omega arith) (omega (arith, ap (λ n. n ^ 4) two)) (omega (arith, ap (λ n. n ^ 5) two))

pub largest_of_four : (m : Meaning) → Lawful m → m.symbols ≡ 4 → largest_depth m ≡ min m.memory 3
largest_of_four m lawful four =
    largest_is m lawful 3 (omega arith) (omega (arith, ap (λ n. n ^ 2) four)) (omega (arith, ap (λ n. n ^ 3) four))
