-- The worth of a cost carries costs into the least-cost joining: so an answer of the sweep is the worth of the answer over costs.
use Rattle.std.proofs.Common.{◌≡◌, ℕ, ◌+◌, ◌*◌, ◌%◌, List, length, sym, refl, ap, ◌∙◌, arith}
use mathlib.Core.Path.{fun_ext}
use Rattle.cost.specs.Arithmetic.{plus, least}
use Rattle.cost.specs.declared.Cost.{Cost}
use Rattle.cost.specs.declared.Cost.TheVariants.{Eighths, Barred}
use Rattle.channel.specs.Meaning.{Meaning}
use Rattle.joining.specs.Costs.{cost_operations}
use Rattle.joining.specs.LeastCosts.{least_cost_operations, least_cost_worth}
use Rattle.joining.specs.declared.LeastCost.{LeastCost}
use Rattle.joining.specs.LeastCostsLemmas.{same_cost_lem}
use Rattle.trellis.specs.Trellis.{Trellis}
use Rattle.trellis.specs.Elements.{answer_element}
use Rattle.trellis.proofs.Carried.{Carries, carried, answer_carried}
use Rattle.burst.specs.Histories.{histories}
use Rattle.burst.specs.Sequences.{full_trellis, cost_trellis}
use Rattle.burst.specs.declared.place.Place.{Place}

least_worth : (c d : Cost) → least_cost_worth (least c d) ≡ least_cost_operations.join (least_cost_worth c) (least_cost_worth d)
least_worth (Eighths m) (Eighths n) = same_cost_lem _ _ (omega arith)
least_worth (Eighths m) Barred = same_cost_lem _ _ (omega arith)
least_worth Barred (Eighths n) = same_cost_lem _ _ (omega arith)
least_worth Barred Barred = same_cost_lem _ _ refl

sum_worth : (c d : Cost) → least_cost_worth (plus c d) ≡ least_cost_operations.follow (least_cost_worth c) (least_cost_worth d)
sum_worth (Eighths m) (Eighths n) = same_cost_lem _ _ (omega arith)
sum_worth (Eighths m) Barred = same_cost_lem _ _ (omega arith)
sum_worth Barred (Eighths n) = same_cost_lem _ _ (omega arith)
sum_worth Barred Barred = same_cost_lem _ _ refl

worth_carries : Carries least_cost_worth cost_operations least_cost_operations
worth_carries = record { none = refl; unit = refl; join = least_worth; follow = sum_worth }

module _ (m : Meaning) (places : List Place) where
  abbrev weighing : (ℕ → ℕ → ℕ → LeastCost) → Trellis LeastCost
  weighing w = record {
    operations = least_cost_operations;
    symbols = m.symbols;
    states = histories m;
    start = 0;
    next = λ h a. (a + m.symbols * h) % histories m;
    weight = w;
  }

  same_trellis : carried least_cost_worth least_cost_operations (cost_trellis m places) ≡ full_trellis least_cost_operations least_cost_worth m places
  same_trellis = ap weighing (fun_ext (λ k. fun_ext (λ h. fun_ext (λ a. sum_worth _ _))))

  pub answer_worth : (k a : ℕ)
      → answer_element (full_trellis least_cost_operations least_cost_worth m places) (length places) k a
      ≡ least_cost_worth (answer_element (cost_trellis m places) (length places) k a)
  answer_worth k a =
      ap (λ (t : Trellis LeastCost). answer_element t (length places) k a) (sym same_trellis)
      ∙ sym (answer_carried least_cost_worth least_cost_operations (cost_trellis m places) worth_carries (length places) k a)
