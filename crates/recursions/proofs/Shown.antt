-- The best is the true total of the shown sequence, and its symbols cost the best.
use Rattle.std.proofs.Common.{◌≡◌, ℕ, ◌<◌, true, eqb, List, length, get_or, Some, sym, refl, ap, ◌∙◌, subst}
use Rattle.std.proofs.lemmas.Bool.{eq-eqb}
use Rattle.cost.specs.Arithmetic.{AtMost}
use Rattle.cost.specs.declared.Cost.{Cost}
use Rattle.cost.specs.declared.Cost.TheVariants.{Barred}
use Rattle.channel.specs.Meaning.{Meaning, Lawful}
use Rattle.trellis.specs.Sequences.{Sequence, along}
use Rattle.trellis.proofs.Least.{at_most_both, below_at_most, below_reached, over_some_is_least}
use Rattle.trellis.proofs.Theorems.{answers_join}
use Rattle.burst.specs.Sequences.{total}
use Rattle.burst.specs.declared.place.Place.{Place}
use Rattle.recursions.specs.Depths.{states}
use Rattle.recursions.specs.Firsts.{same_cost}
use Rattle.recursions.specs.Forward.{cell_at, forward}
use Rattle.recursions.specs.Answers.{value_cost, best, first_least, trace, trace_from, shown}
use Rattle.recursions.specs.Laws.{BestShown, BestIsShown}
use Rattle.recursions.proofs.Firsts.{first_exists, same_itself, same_true}
use Rattle.recursions.proofs.Trellises.{depth_trellis, depth_sound, value_is, values_meet}
use Rattle.recursions.proofs.Survivors.{IsTraced, traced}

-- the state that the shown sequence leads to: it has the best, and it is the first
pub record IsShown (m : Meaning) (q : ℕ) (places : List Place) (s : ℕ) : Type 0 where
  pub state : s < states m q
  pub first : first_least m q (forward m q places (length places)) ≡ Some s
  pub is : shown m q places ≡ trace m q places (length places) s
  pub costs : (cell_at (forward m q places (length places)) s).cost ≡ best m q places
  pub back : IsTraced m q places (length places) s

module _ (m : Meaning) (lawful : Lawful m) (q : ℕ) (places : List Place) (some : best m q places ≡ Barred → ⊥) where
  pub shown_found : (s : ℕ) × IsShown m q places s
  shown_found =
      let K : ℕ = length places in
      let costs : ℕ → Cost = λ s. (cell_at (forward m q places K) s).cost in
      let one = below_reached (states m q) costs some in
      let found =
      first_exists (states m q) one.0 (λ s. same_cost (costs s) (best m q places)) one.1
      (subst (λ c. same_cost c (best m q places) ≡ true) (sym one.2) (same_itself (best m q places))) in
      let cost : costs found.0 ≡ best m q places = same_true _ _ found.2.passing in (
        found.0,
        record {
          state = found.2.below;
          first = found.1;
          is = ap (trace_from m q places) found.1;
          costs = cost;
          back = traced m lawful q places K found.0 found.2.below (λ b. some (sym cost ∙ b));
        },
      )

  shown_costs : (k : ℕ) → k < length places → value_cost m q places k (get_or (shown m q places) k 0) ≡ best m q places
  shown_costs k lt =
      let t = depth_trellis m q places in
      let K : ℕ = length places in
      let found = shown_found.1 in
      let seq : List ℕ = shown m q places in
      let a : ℕ = get_or seq k 0 in
      let sequence : Sequence m.symbols K seq = subst (Sequence m.symbols K) (sym found.is) found.back.sequence in
      let worth : along t 0 0 seq ≡ best m q places = ap (along t 0 0) found.is ∙ found.back.worth ∙ found.costs in
      let cost : value_cost m q places k a ≡ _ =
      value_is m lawful q places k a ∙ answers_join Cost t (depth_sound m lawful q places) K k a lt (sequence.below k lt) in
      let over : AtMost (value_cost m q places k a) (best m q places) =
      subst (λ c. AtMost c (best m q places)) (sym cost)
      (subst (AtMost _) worth
      ((over_some_is_least t refl K (λ other. eqb a (get_or other k 0)) (along t 0 0)).below seq sequence (eq-eqb a a refl))) in
      let under : AtMost (best m q places) (value_cost m q places k a) =
      subst (λ c. AtMost c (value_cost m q places k a)) (values_meet m lawful q places k lt)
      (below_at_most m.symbols (value_cost m q places k) a (sequence.below k lt)) in
      at_most_both (value_cost m q places k a) (best m q places) over under

  pub shown_is_best : BestShown m q places
  shown_is_best =
      let found = shown_found.1 in
      record {
        everywhere = values_meet m lawful q places;
        sequence = subst (Sequence m.symbols (length places)) (sym found.is) found.back.sequence;
        totals = ap (total m places) found.is ∙ found.back.total ∙ found.costs;
        costs = shown_costs;
      }

pub best_is_shown : BestIsShown
best_is_shown m lawful q allowed places some = shown_is_best m lawful q places some
