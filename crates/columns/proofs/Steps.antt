-- A state entered by the pair that was picked is the rule's cell.
use Rattle.std.proofs.Common.{◌≡◌, ℕ, ◌+◌, ◌*◌, ◌/◌, ◌%◌, ◌<◌, ◌≤◌, Bool, true, false, cond, eqb, List, get_or, Some, None, Option, sym, refl, ap, ◌∙◌, subst, inl, inr, mod-eq_of_lt, div-lt_iff_lt-mul, mul-le-mul_left, arith}
use native.Mathlib.Nat.{mod-add-div, lt_of_mul-lt-mul_left, add-mul-mod_self_left}
use Rattle.std.proofs.lemmas.Bool.{cases_eq, eq-eqb, ne_eqb, and_left, and_right, and_from}
use Rattle.cost.specs.declared.Cost.{Cost}
use Rattle.cost.specs.declared.Cost.TheVariants.{Eighths, Barred}
use Rattle.cost.specs.Arithmetic.{AtMost, barred}
use Rattle.channel.specs.Meaning.{Meaning}
use Rattle.joining.specs.Costs.{cost_operations}
use Rattle.joining.proofs.Costs.{cost_laws}
use Rattle.trellis.specs.Trellis.{Trellis}
use Rattle.trellis.proofs.Shifts.{gathers}
use Rattle.trellis.proofs.Least.{below_is}
use Rattle.burst.specs.Histories.{histories}
use Rattle.burst.specs.declared.place.Place.{Place}
use Rattle.recursions.specs.Depths.{states}
use Rattle.recursions.specs.Firsts.{first_under, same_cost}
use Rattle.recursions.specs.Forward as forward
use Rattle.recursions.specs.Forward.{cell_at, via, next, least_into, leads_to, pair_if, survivor_into, history_into, cell_of}
use Rattle.recursions.proofs.Firsts.{first_is, same_itself, same_false}
use Rattle.columns.specs.Numbers.{as_cost}
use Rattle.columns.specs.Arrivals.{Picked, Arrived, history_by, survivor_by}
use Rattle.columns.specs.Cells.{entry_at, survivor_pair}
use Rattle.columns.specs.declared.column.Cell.{Cell}
use Rattle.columns.specs.declared.column.Column.{Column}
use Rattle.columns.proofs.Numbers.{as_eighths, as_barred}

-- a lesser number stands for a lesser cost
pub as_at_most : (x y : ℕ) → x ≤ y → y ≤ 4294967295 → AtMost (as_cost x) (as_cost y)
as_at_most x y le fits =
    elim (cases_eq y 4294967295) [
      | inl top ↦
          elim (cases_eq x 4294967295) [
            | inl also ↦ subst (λ (c : Cost). AtMost (as_cost x) c) (sym (as_barred y top)) (subst (λ (c : Cost). AtMost c Barred) (sym (as_barred x also)) tt)
            | inr low ↦ subst (λ (c : Cost). AtMost (as_cost x) c) (sym (as_barred y top)) (subst (λ (c : Cost). AtMost c Barred) (sym (as_eighths x (omega (arith, low)))) tt)
          ]
      | inr low ↦
          let below : y < 4294967295 = omega (arith, low) in
          let below' : x < 4294967295 = omega arith in
          subst (λ (c : Cost). AtMost (as_cost x) c) (sym (as_eighths y below)) (subst (λ (c : Cost). AtMost c (Eighths y)) (sym (as_eighths x below')) le)
    ]

-- two numbers that stand for the same cost are the same
pub as_same : (x y : ℕ) → x ≤ 4294967295 → y ≤ 4294967295 → as_cost x ≡ as_cost y → x ≡ y
as_same x y fits fits' same =
    elim (cases_eq x 4294967295) [
      | inl top ↦
          elim (cases_eq y 4294967295) [
            | inl also ↦ top ∙ sym also
            | inr low ↦
                let one = as_barred x top in
                let other = as_eighths y (omega (arith, low)) in
                let never : ◌≡◌ {A = ℕ} 0 1 = cc in
                absurd (omega arith)
          ]
      | inr low ↦
          elim (cases_eq y 4294967295) [
            | inl also ↦
                let one = as_eighths x (omega (arith, low)) in
                let other = as_barred y also in
                let never : ◌≡◌ {A = ℕ} 0 1 = cc in
                absurd (omega arith)
            | inr low' ↦
                let one = as_eighths x (omega (arith, low)) in
                let other = as_eighths y (omega (arith, low')) in
                cc
          ]
    ]

-- cells with equal parts
pub cell_same : (c d : Cost) (h i : ℕ) (v w : Option (ℕ × ℕ)) → c ≡ d → h ≡ i → v ≡ w
    → ◌≡◌ {A = forward.Cell} (record { cost = c; history = h; survivor = v }) (record { cost = d; history = i; survivor = w })
cell_same c d h i v w costs histories survivors j = record { cost = costs j; history = histories j; survivor = survivors j }

-- by whether the sum is barred
survivor_by_lem : (m : Meaning) (b : Bool) (n p : ℕ) (found : Option ℕ) → found ≡ Some p
    → cond (barred (cond b Barred (Eighths n))) None (pair_if m found)
    ≡ survivor_pair (cond b None (Some (record { state = p / m.symbols; symbol = p % m.symbols })))
survivor_by_lem m true n p found is = refl
survivor_by_lem m false n p found is = ap (pair_if m) is

history_by_lem : (m : Meaning) (cells : List forward.Cell) (t p : ℕ) (stored : Column) (b : Bool) → (cell_at cells (p / m.symbols)).history ≡ (entry_at stored (p / m.symbols)).history
    → history_into m cells t (survivor_pair (cond b None (Some (record { state = p / m.symbols; symbol = p % m.symbols }))))
    ≡ cond b t ((p % m.symbols + m.symbols * (entry_at stored (p / m.symbols)).history) % histories m)
history_by_lem m cells t p stored true is = refl
history_by_lem m cells t p stored false is = ap (λ (h : ℕ). (p % m.symbols + m.symbols * h) % histories m) is

module _ (m : Meaning) (q : ℕ) (place : Place) (cells : List forward.Cell) (sums : List ℕ)
    (some : 1 ≤ m.symbols) (inhabited : 1 ≤ states m q)
    (are : (p : ℕ) → p < states m q * m.symbols → as_cost (get_or sums p 0) ≡ via m place cells (p / m.symbols) (p % m.symbols))
    (fit : (p : ℕ) → p < states m q * m.symbols → get_or sums p 0 ≤ 4294967295) where
  -- the trellis of this one step
  abbrev one_step : Trellis Cost
  one_step = record { operations = cost_operations; symbols = m.symbols; states = states m q; start = 0; next = next m q; weight = λ k s a. Barred }

  way_of : (t j : ℕ) → t < states m q → j < m.symbols → t + states m q * j < states m q * m.symbols
  way_of t j lt lj =
      let more : j + 1 ≤ m.symbols = omega arith in
      let room : states m q * (j + 1) ≤ states m q * m.symbols = mul-le-mul_left (states m q) more in
      omega arith

  pair_below : (t p : ℕ) → t < states m q → Picked (states m q) sums t m.symbols p → p < states m q * m.symbols
  pair_below t p lt picked = omega (arith, way_of t picked.way lt picked.few, picked.place)

  -- the least of all ways into t is that of the pair picked
  pub least_picked : (t p : ℕ) → t < states m q → Picked (states m q) sums t m.symbols p → least_into m q place cells t ≡ as_cost (get_or sums p 0)
  least_picked t p lt picked =
      let f : ℕ → Cost = λ j. via m place cells ((t + states m q * j) / m.symbols) ((t + states m q * j) % m.symbols) in
      let is : (j : ℕ) → j < m.symbols → as_cost (get_or sums (t + states m q * j) 0) ≡ f j = λ j lj. are (t + states m q * j) (way_of t j lt lj) in
      gathers one_step cost_laws (λ s a ls la. refl) t (via m place cells) lt
      ∙ below_is m.symbols f (as_cost (get_or sums p 0)) picked.way
      (λ j lj. subst (AtMost (as_cost (get_or sums p 0))) (is j lj) (as_at_most _ _ (picked.least j lj) (fit _ (way_of t j lt lj))))
      picked.few
      (ap (λ (i : ℕ). as_cost (get_or sums i 0)) picked.place ∙ is picked.way picked.few)

  -- an earlier pair leads elsewhere or costs more
  earlier_fails : (t p : ℕ) → t < states m q → Picked (states m q) sums t m.symbols p → (i : ℕ) → i < p
      → leads_to m q place cells t (as_cost (get_or sums p 0)) i ≡ false
  earlier_fails t p lt picked i before =
      elim (cases_eq (i % states m q) t) [
        | inl there ↦
            let n : ℕ = states m q in
            let split : i % n + n * (i / n) ≡ i = mod-add-div i n in
            let way : i ≡ t + n * (i / n) = sym split ∙ ap (λ (r : ℕ). r + n * (i / n)) there in
            let sooner : i / n < picked.way = lt_of_mul-lt-mul_left n (omega (arith, way, picked.place, before)) in
            let within : i < n * m.symbols = omega (arith, pair_below t p lt picked) in
            let more : get_or sums p 0 < get_or sums i 0 = subst (λ (j : ℕ). get_or sums p 0 < get_or sums j 0) (sym way) (picked.first (i / n) sooner) in
            and_right (eqb (i % n) t) _ (same_false _ _ (λ same.
            let equal : get_or sums i 0 ≡ get_or sums p 0 = as_same _ _ (fit i within) (fit p (pair_below t p lt picked)) (are i within ∙ same) in
            omega arith))
        | inr elsewhere ↦ and_left _ _ (ne_eqb _ _ elsewhere)
      ]

  leads : (t p : ℕ) → t < states m q → Picked (states m q) sums t m.symbols p → leads_to m q place cells t (as_cost (get_or sums p 0)) p ≡ true
  leads t p lt picked =
      let there : p % states m q ≡ t = ap (λ (i : ℕ). i % states m q) picked.place ∙ add-mul-mod_self_left t (states m q) picked.way ∙ mod-eq_of_lt lt in
      and_from _ _ (eq-eqb _ _ there)
      (ap (λ (c : Cost). same_cost c (as_cost (get_or sums p 0))) (sym (are p (pair_below t p lt picked))) ∙ same_itself (as_cost (get_or sums p 0)))

  pub survivor_picked : (t p : ℕ) → t < states m q → Picked (states m q) sums t m.symbols p
      → first_under (states m q * m.symbols) (leads_to m q place cells t (as_cost (get_or sums p 0))) ≡ Some p
  survivor_picked t p lt picked =
      first_is (states m q * m.symbols) p (leads_to m q place cells t (as_cost (get_or sums p 0))) (pair_below t p lt picked) (leads t p lt picked)
      (earlier_fails t p lt picked)

  -- the survivor of the rule is the pair picked, none where its sum is barred
  survivor_is : (t p : ℕ) → t < states m q → Picked (states m q) sums t m.symbols p
      → survivor_into m q place cells t (as_cost (get_or sums p 0)) ≡ survivor_pair (survivor_by m.symbols p (get_or sums p 0))
  survivor_is t p lt picked = survivor_by_lem m (eqb (get_or sums p 0) 4294967295) (get_or sums p 0) p _ (survivor_picked t p lt picked)

  -- the cell of a state so entered
  pub cell_is : (stored : Column) → ((s : ℕ) → s < states m q → (cell_at cells s).history ≡ (entry_at stored s).history)
      → (t : ℕ) (r : Cell) → t < states m q → Arrived m.symbols (states m q) (histories m) stored sums t r
      → ◌≡◌ {A = forward.Cell} (record { cost = as_cost r.cost; history = r.history; survivor = survivor_pair r.survivor })
      (cell_of m q place cells t (least_into m q place cells t))
  cell_is stored kept t r lt arrived =
      let p : ℕ = arrived.pair in
      let n : ℕ = get_or sums p 0 in
      let survivor : survivor_pair r.survivor ≡ survivor_into m q place cells t (as_cost n) =
      ap survivor_pair (arrived.survivor ∙ ap (survivor_by m.symbols p) arrived.cost) ∙ sym (survivor_is t p lt arrived.picked) in
      let state : p / m.symbols < states m q = (div-lt_iff_lt-mul some).1 (pair_below t p lt arrived.picked) in
      let history : r.history ≡ history_into m cells t (survivor_into m q place cells t (as_cost n)) =
      arrived.history ∙ ap (history_by m.symbols (histories m) stored t p) arrived.cost
      ∙ sym (ap (history_into m cells t) (survivor_is t p lt arrived.picked) ∙ history_by_lem m cells t p stored (eqb n 4294967295) (kept (p / m.symbols) state)) in
      cell_same _ _ _ _ _ _ (ap as_cost arrived.cost) history survivor
      ∙ ap (cell_of m q place cells t) (sym (least_picked t p lt arrived.picked))
