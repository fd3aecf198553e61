-- The laws of the least-cost joining: all is arithmetic of numbers cut at the greatest.
use Rattle.std.specs.Prelude.{◌≡◌, ℕ, ◌≤◌, min}
use Rattle.std.proofs.Common.{sym, ap, ◌∙◌, arith}
use mathlib.Core.HLevel.{is_prop→PathP}
use Rattle.std.proofs.Math.Bridge.{le_prop}
use Rattle.joining.specs.Laws.{Laws}
use Rattle.joining.specs.LeastCosts.{least_cost_operations}
use Rattle.joining.specs.declared.LeastCost.{LeastCost}

-- elements with the same number are the same
pub same_cost_lem : (x y : LeastCost) → x.number ≡ y.number → x ≡ y
same_cost_lem x y e j = record { number = e j; fits = is_prop→PathP (λ k. e k ≤ 4294967295) (λ k. le_prop) x.fits y.fits j }

lesser_cut : (x y : ℕ) → x ≤ 4294967295 → min (min x y) 4294967295 ≡ min x y
lesser_cut x y fits = omega arith

lesser_assoc : (x y z : ℕ) → x ≤ 4294967295 → y ≤ 4294967295
    → min (min (min (min x y) 4294967295) z) 4294967295 ≡ min (min x (min (min y z) 4294967295)) 4294967295
lesser_assoc x y z fits-x fits-y =
    let same : min (min x y) z ≡ min x (min y z) = omega arith in
    ap (λ (n : ℕ). min (min n z) 4294967295) (lesser_cut x y fits-x)
    ∙ ap (λ (n : ℕ). min n 4294967295) same
    ∙ sym (ap (λ (n : ℕ). min (min x n) 4294967295) (lesser_cut y z fits-y))

pub least_cost_laws : Laws least_cost_operations
least_cost_laws = record {
  join_assoc = λ x y z. same_cost_lem _ _ (lesser_assoc x.number y.number z.number x.fits y.fits);
  join_comm = λ x y. same_cost_lem _ _ (omega arith);
  join_none = λ x. same_cost_lem _ _ (omega arith);
  follow_assoc = λ x y z. same_cost_lem _ _ (omega arith);
  follow_unit = λ x. same_cost_lem _ _ (omega arith);
  unit_follow = λ x. same_cost_lem _ _ (omega arith);
  follow_none = λ x. same_cost_lem _ _ (omega arith);
  none_follow = λ x. same_cost_lem _ _ (omega arith);
  follow_join = λ x y z. same_cost_lem _ _ (omega arith);
  join_follow = λ x y z. same_cost_lem _ _ (omega arith);
}
