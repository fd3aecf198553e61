-- The answers of a least-cost sweep, read as costs, are least totals, and the costs of values at full depth.
use Rattle.std.proofs.Common.{◌≡◌, ℕ, zero, suc, ◌*◌, ◌<◌, ◌≤◌, eqb, List, ◌∷◌, length, get_or, IfOk, Ok, Err, Result, sym, refl, ap, ◌∙◌, subst, inl, inr, arith}
use Rattle.cost.specs.declared.Cost.{Cost}
use Rattle.channel.specs.Meaning.{Meaning, Lawful}
use Rattle.joining.specs.Costs.{cost_operations}
use Rattle.joining.specs.LeastCosts.{least_cost, least_cost_operations, least_cost_worth}
use Rattle.joining.specs.declared.LeastCost.{LeastCost}
use Rattle.trellis.specs.Sequences.{over_all}
use Rattle.trellis.specs.Elements.{answer_element}
use Rattle.trellis.specs.Least.{IsLeast}
use Rattle.trellis.specs.Lists.{Columns}
use Rattle.trellis.proofs.Below.{below_same}
use Rattle.trellis.proofs.Least.{barred_or_not, over_some_is_least}
use Rattle.burst.specs.Refusals.{refused_by}
use Rattle.burst.specs.Sequences.{full_trellis, cost_trellis, total}
use Rattle.burst.specs.declared.place.Place.{Place}
use Rattle.burst.specs.declared.refusal.Refusal.{Refusal}
use Rattle.sweep.specs.Checks.{sweep_refusal}
use Rattle.sweep.specs.Lists.{AnswersStand}
use Rattle.recursions.specs.Answers.{value_cost}
use Rattle.recursions.proofs.FullDepth.{value_joins}
use Rattle.recursions.proofs.Trellises.{depth_trellis}
use Rattle.columns.specs.Numbers.{as_cost}
use Rattle.agreement.specs.Totals.{total_at, LeastTotals, ValueCosts}
use Rattle.agreement.proofs.Bounds.{Small, small_more, small_along, read_back}
use Rattle.agreement.proofs.Fitting.{few_places}
use Rattle.agreement.proofs.Worths.{answer_worth}

module _ (m : Meaning) (lawful : Lawful m) (places : List Place) where
  -- the answer over costs
  abbrev answer : ℕ → ℕ → Cost
  answer k a = answer_element (cost_trellis m places) (length places) k a

  answer_least : (k a : ℕ) → IsLeast m.symbols (length places) (λ seq. eqb a (get_or seq k 0)) (total m places) (answer k a)
  unfolding answer_element
  answer_least k a = over_some_is_least (cost_trellis m places) refl (length places) (λ seq. eqb a (get_or seq k 0)) (total m places)

  answer_small : length places ≤ 128 → (k a : ℕ) → Small 16776832 (answer k a)
  answer_small few k a =
      elim (barred_or_not (answer k a)) [
        | inl none ↦ subst (Small 16776832) (sym none) tt
        | inr some ↦
            let found = (answer_least k a).reached some in
            let short : 131069 * length found.0 ≤ 16776832 = omega (arith, found.1.long) in
            subst (Small 16776832) found.3 (small_more _ 16776832 _ short (small_along m lawful places 0 0 found.0))
      ]

  -- a join over sequences looks at no weight
  all_alike : (k : ℕ) (f : List ℕ → Cost) → over_all (depth_trellis m m.memory places) k f ≡ over_all (cost_trellis m places) k f
  unfolding over_all
  all_alike zero f = refl
  all_alike (suc k) f = below_same cost_operations m.symbols _ _ (λ a. all_alike k (λ seq. f (a ∷ seq)))

  answer_value : (k a : ℕ) → k < length places → a < m.symbols → answer k a ≡ value_cost m m.memory places k a
  unfolding answer_element
  answer_value k a lk la = sym (all_alike (length places) _) ∙ sym (value_joins m lawful places k a lk la)

  -- what a sweep has written
  abbrev pub Written : List LeastCost → Type 0
  Written answers =
      Columns (least_cost 4294967295) answers m.symbols (length places) (answer_element (full_trellis least_cost_operations least_cost_worth m places) (length places))

  module _ (few : length places ≤ 128) (answers : List LeastCost) (written : Written answers) where
    answer_read : (k a : ℕ) → k < length places → a < m.symbols → total_at m answers k a ≡ answer k a
    answer_read k a lk la =
        ap (λ (x : LeastCost). as_cost x.number) (written k lk a la ∙ answer_worth m places k a)
        ∙ read_back 16776832 (answer k a) (omega arith) (answer_small few k a)

    pub least_totals_lem : LeastTotals m places answers
    unfolding LeastTotals
    least_totals_lem k a lk la =
        subst (IsLeast m.symbols (length places) (λ seq. eqb a (get_or seq k 0)) (total m places)) (sym (answer_read k a lk la)) (answer_least k a)

    pub value_costs : (q : ℕ) → q ≡ m.memory → ValueCosts m q places answers
    unfolding ValueCosts
    value_costs q full k a lk la =
        answer_read k a lk la ∙ answer_value k a lk la ∙ ap (λ (d : ℕ). value_cost m d places k a) (sym full)

-- so they are wherever a sweep is not refused
module _ (m : Meaning) (lawful : Lawful m) (places : List Place) (forward backward : ℕ) (answers answers' : List LeastCost) where
  pub made_least : (r : Result (Unit {0}) Refusal) → refused_by r ≡ sweep_refusal m places forward backward (length answers)
      → AnswersStand least_cost_operations least_cost_worth m places r answers answers' → IfOk r (λ _. LeastTotals m places answers')
  made_least (Ok done) accepted stand = least_totals_lem m lawful places (few_places m places forward backward (length answers) accepted) answers' stand.written
  made_least (Err e) refused stand = tt

  pub made_costs : (r : Result (Unit {0}) Refusal) → refused_by r ≡ sweep_refusal m places forward backward (length answers)
      → AnswersStand least_cost_operations least_cost_worth m places r answers answers'
      → (q : ℕ) → q ≡ m.memory → IfOk r (λ _. ValueCosts m q places answers')
  made_costs (Ok done) accepted stand q full =
      value_costs m lawful places (few_places m places forward backward (length answers) accepted) answers' stand.written q full
  made_costs (Err e) refused stand q full = tt
