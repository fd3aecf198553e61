-- Survivors: where a cost is not barred there is one, and what leads back along survivors has the stored history, cost and state.
use Rattle.std.proofs.Common.{◌≡◌, ℕ, zero, suc, ◌+◌, ◌*◌, ◌/◌, ◌%◌, ◌<◌, true, false, cond, eqb, List, [], ◌∷◌, ◌++◌, length, Some, None, sym, refl, ap, ◌∙◌, subst, ap₂, inl, inr, mul_comm, arith}
use native.Mathlib.Nat.{mod-add-div}
use lib.Arith.{digits_lt, digits_div, digits_mod}
use Rattle.std.proofs.lemmas.Nat.{div_below, mod_below}
use Rattle.std.proofs.lemmas.Bool.{and_parts, and_from, cases_Bool, eq-eqb, eqb-true, cond-true, cond-false}
use Rattle.cost.specs.Arithmetic.{plus, barred}
use Rattle.cost.specs.declared.Cost.{Cost}
use Rattle.cost.specs.declared.Cost.TheVariants.{Eighths, Barred}
use Rattle.channel.specs.Meaning.{Meaning, Lawful}
use Rattle.joining.specs.Costs.{cost_operations}
use Rattle.joining.proofs.Costs.{cost_laws}
use Rattle.trellis.specs.Sequences.{Sequence, join_below, reach, along}
use Rattle.trellis.proofs.All.{no_symbols}
use Rattle.trellis.proofs.Ends.{sequence_end, reach_end, along_end}
use Rattle.trellis.proofs.Least.{below_reached}
use Rattle.burst.specs.Histories.{histories}
use Rattle.burst.specs.Sequences.{place_at, cost_trellis}
use Rattle.burst.specs.declared.place.Place.{Place}
use Rattle.channel.proofs.Sizes.{two_symbols}
use Rattle.recursions.specs.Depths.{states}
use Rattle.recursions.specs.Firsts.{same_cost}
use Rattle.recursions.specs.Forward.{Cell, cell_at, next, via, least_into, leads_to, pair_if, survivor_into, history_into, forward}
use Rattle.recursions.specs.Answers.{trace, trace_by}
use Rattle.recursions.proofs.Firsts.{first_exists, same_itself, same_true}
use Rattle.recursions.proofs.Locality.{start_at, forward_at_lem}
use Rattle.recursions.proofs.Trellises.{depth_trellis}

not_barred : (c : Cost) → (c ≡ Barred → ⊥) → barred c ≡ false
not_barred (Eighths n) some = refl
not_barred Barred some = absurd (some refl)

pub plus_barred_left : (c d : Cost) → c ≡ Barred → plus c d ≡ Barred
plus_barred_left c d e = ap (λ x. plus x d) e

-- the pair s, a is the survivor of t: it is stored, leads to t and costs the least
pub record IsSurvivor (m : Meaning) (q : ℕ) (place : Place) (column : List Cell) (t s a : ℕ) : Type 0 where
  pub state : s < states m q
  pub symbol : a < m.symbols
  pub stored : survivor_into m q place column t (least_into m q place column t) ≡ Some (s, a)
  pub leads : next m q s a ≡ t
  pub costs : via m place column s a ≡ least_into m q place column t

module _ (m : Meaning) (lawful : Lawful m) (q : ℕ) (place : Place) (column : List Cell) (t : ℕ) where
  abbrev least : Cost
  least = least_into m q place column t

  -- some pair leads to t and costs the least
  some_leads : (least ≡ Barred → ⊥) → (p : ℕ) × (p < states m q * m.symbols) × (leads_to m q place column t least p ≡ true)
  some_leads some =
      let row : ℕ → ℕ → Cost = λ s a. cond (eqb (next m q s a) t) (via m place column s a) Barred in
      let one = below_reached (states m q) (λ s. join_below cost_operations m.symbols (row s)) some in
      let two = below_reached m.symbols (row one.0) (λ b. some (sym one.2 ∙ b)) in
      let whole : row one.0 two.0 ≡ least = two.2 ∙ one.2 in
      let p : ℕ = one.0 * m.symbols + two.0 in
      let state : p / m.symbols ≡ one.0 = digits_div one.0 two.1 in
      let symbol : p % m.symbols ≡ two.0 = digits_mod one.0 two.1 in
      elim (cases_Bool (eqb (next m q one.0 two.0) t)) [
        | inl leads ↦
            let pair : two.0 + m.symbols * one.0 ≡ p = omega (arith, mul_comm m.symbols one.0) in
            let into : eqb (p % states m q) t ≡ true = subst (λ w. eqb (w % states m q) t ≡ true) pair leads in
            let cost : via m place column (p / m.symbols) (p % m.symbols) ≡ least =
            ap₂ (via m place column) state symbol ∙ sym (cond-true _ _ Barred leads) ∙ whole in
            (p, digits_lt one.1 two.1, and_from _ _ into (subst (λ c. same_cost c least ≡ true) (sym cost) (same_itself least)))
        | inr leads ↦ absurd (some (sym whole ∙ cond-false _ _ Barred leads))
      ]

  pub survivor_found : (least ≡ Barred → ⊥) → (s : ℕ) × (a : ℕ) × IsSurvivor m q place column t s a
  survivor_found some =
      let one = some_leads some in
      let first = first_exists (states m q * m.symbols) one.0 (leads_to m q place column t least) one.1 one.2 in
      let p : ℕ = first.0 in
      let tests = and_parts (eqb (p % states m q) t) (same_cost (via m place column (p / m.symbols) (p % m.symbols)) least) first.2.passing in (
        p / m.symbols,
        p % m.symbols,
        record {
          state = div_below p m.symbols (states m q) (omega (arith, two_symbols m lawful)) first.2.below;
          symbol = mod_below p m.symbols (omega (arith, two_symbols m lawful));
          stored = cond-false (barred least) None _ (not_barred least some) ∙ ap (pair_if m) first.1;
          leads = ap (λ w. w % states m q) (mod-add-div p m.symbols) ∙ eqb-true _ t tests.0;
          costs = same_true _ least tests.1;
        },
      )

-- what leads back from a state of column k
pub record IsTraced (m : Meaning) (q : ℕ) (places : List Place) (k s : ℕ) : Type 0 where
  pub sequence : Sequence m.symbols k (trace m q places k s)
  -- its own history
  pub history : reach (cost_trellis m places) 0 (trace m q places k s) ≡ (cell_at (forward m q places k) s).history
  -- its true total
  pub total : along (cost_trellis m places) 0 0 (trace m q places k s) ≡ (cell_at (forward m q places k) s).cost
  -- where it leads in the trellis of the depth, and what it is worth there
  pub state : reach (depth_trellis m q places) 0 (trace m q places k s) ≡ s
  pub worth : along (depth_trellis m q places) 0 0 (trace m q places k s) ≡ (cell_at (forward m q places k) s).cost

module _ (m : Meaning) (q : ℕ) (places : List Place) where
  pub traced_none : (s : ℕ) → s < states m q → ((cell_at (forward m q places 0) s).cost ≡ Barred → ⊥) → IsTraced m q places 0 s
  unfolding trace reach along
  traced_none s lt some =
      let cell = start_at m q places s lt in
      let zero-state : s ≡ 0 =
      elim (cases_Bool (eqb s 0)) [
        | inl same ↦ eqb-true s 0 same
        | inr other ↦ absurd (some (ap (λ (c : Cell). c.cost) cell ∙ cond-false (eqb s 0) (Eighths 0) Barred other))
      ] in
      let nothing : Eighths 0 ≡ (cell_at (forward m q places 0) s).cost =
      sym (ap (λ (c : Cell). c.cost) cell ∙ cond-true (eqb s 0) (Eighths 0) Barred (eq-eqb s 0 zero-state)) in
      record {
        sequence = no_symbols m.symbols;
        history = sym (ap (λ (c : Cell). c.history) cell ∙ zero-state);
        total = nothing;
        state = sym zero-state;
        worth = nothing;
      }

  pub traced_more : (k t s a : ℕ) → t < states m q → IsSurvivor m q (place_at places k) (forward m q places k) t s a → IsTraced m q places k s
      → IsTraced m q places (suc k) t
  unfolding trace
  traced_more k t s a lt pair before =
      let seq : List ℕ = trace m q places k s in
      let cell = forward_at_lem m q places k t lt in
      let steps : trace m q places (suc k) t ≡ seq ++ (a ∷ []) =
      ap (λ (c : Cell). trace_by (trace m q places k) c.survivor) cell ∙ ap (trace_by (trace m q places k)) pair.stored in
      let cost : via m (place_at places k) (forward m q places k) s a ≡ (cell_at (forward m q places (suc k)) t).cost =
      pair.costs ∙ sym (ap (λ (c : Cell). c.cost) cell) in
      let long : 0 + length seq ≡ k = omega (arith, before.sequence.long) in
      record {
        sequence = subst (Sequence m.symbols (suc k)) (sym steps) (sequence_end m.symbols k a seq before.sequence pair.symbol);
        history =
            ap (reach (cost_trellis m places) 0) steps
            ∙ reach_end (cost_trellis m places) 0 seq a
            ∙ ap (λ h. (a + m.symbols * h) % histories m) before.history
            ∙ sym (ap (λ (c : Cell). c.history) cell ∙ ap (history_into m (forward m q places k) t) pair.stored);
        total =
            ap (along (cost_trellis m places) 0 0) steps
            ∙ along_end (cost_trellis m places) cost_laws 0 0 k seq a long
            ∙ ap₂ (λ c h. plus c ((cost_trellis m places).weight k h a)) before.total before.history
            ∙ cost;
        state =
            ap (reach (depth_trellis m q places) 0) steps
            ∙ reach_end (depth_trellis m q places) 0 seq a
            ∙ ap (λ i. next m q i a) before.state
            ∙ pair.leads;
        worth =
            ap (along (depth_trellis m q places) 0 0) steps
            ∙ along_end (depth_trellis m q places) cost_laws 0 0 k seq a long
            ∙ ap₂ (λ c i. plus c ((depth_trellis m q places).weight k i a)) before.worth before.state
            ∙ cost;
      }

-- the survivor of a state of column k + 1, if its cost is not barred, and the state that it comes from is not barred either
pub survivor_of : (m : Meaning) → Lawful m → (q : ℕ) (places : List Place) (k t : ℕ) → t < states m q
    → ((cell_at (forward m q places (suc k)) t).cost ≡ Barred → ⊥)
    → (s : ℕ) × (a : ℕ) × IsSurvivor m q (place_at places k) (forward m q places k) t s a × ((cell_at (forward m q places k) s).cost ≡ Barred → ⊥)
survivor_of m lawful q places k t lt some =
    let cost = ap (λ (c : Cell). c.cost) (forward_at_lem m q places k t lt) in
    let found = survivor_found m lawful q (place_at places k) (forward m q places k) t (λ b. some (cost ∙ b)) in
    (found.0, found.1, found.2, λ b. some (cost ∙ sym found.2.costs ∙ plus_barred_left _ _ b))

pub traced : (m : Meaning) → Lawful m → (q : ℕ) (places : List Place) (k s : ℕ) → s < states m q
    → ((cell_at (forward m q places k) s).cost ≡ Barred → ⊥) → IsTraced m q places k s
traced m lawful q places zero s lt some = traced_none m q places s lt some
traced m lawful q places (suc k) t lt some =
    let found = survivor_of m lawful q places k t lt some in
    traced_more m q places k t found.0 found.1 lt found.2 (traced m lawful q places k found.0 found.2.state found.3)
