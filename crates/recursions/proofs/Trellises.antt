-- The columns and answers are those of a trellis of costs, so that they join sequences.
use Rattle.std.proofs.Common.{◌≡◌, ℕ, zero, suc, ◌+◌, ◌-◌, ◌*◌, ◌<◌, ◌≤◌, cond, eqb, List, length, sym, ap, ◌∙◌, ap₂, mod-lt, arith}
use native.Mathlib.Nat.{one-le-pow}
use Rattle.cost.specs.Arithmetic.{plus}
use Rattle.cost.specs.declared.Cost.{Cost}
use Rattle.cost.specs.declared.Cost.TheVariants.{Eighths, Barred}
use Rattle.channel.specs.Meaning.{Meaning, Lawful}
use Rattle.joining.specs.Costs.{cost_operations}
use Rattle.joining.proofs.Costs.{cost_laws}
use Rattle.trellis.specs.Trellis.{Trellis, Sound}
use Rattle.trellis.specs.Sequences.{join_below, over_all, along}
use Rattle.trellis.specs.Columns as columns
use Rattle.trellis.proofs.Below.{below_cong}
use Rattle.trellis.proofs.Shifts.{eqb_comm}
use Rattle.trellis.proofs.Theorems.{fronts_join, answers_meet}
use Rattle.burst.specs.Sequences.{place_at}
use Rattle.burst.specs.declared.place.Place.{Place}
use Rattle.channel.proofs.Sizes.{two_symbols}
use Rattle.recursions.specs.Depths.{states}
use Rattle.recursions.specs.Forward.{Cell, cell_at, weight, next, forward}
use Rattle.recursions.specs.Backward.{cost_at, backward_of}
use Rattle.recursions.specs.Answers.{value_cost, best}
use Rattle.recursions.proofs.Locality.{start_at, forward_at_lem, backward_last, backward_at_lem}

-- the trellis of a depth: a step is worth its weight with the history that the forward column stores
abbrev pub depth_trellis : Meaning → ℕ → List Place → Trellis Cost
depth_trellis m q places = record {
  operations = cost_operations;
  symbols = m.symbols;
  states = states m q;
  start = 0;
  next = next m q;
  weight = λ k s a. weight m (place_at places k) (forward m q places k) s a;
}

pub some_states : (m : Meaning) → Lawful m → (q : ℕ) → 1 ≤ states m q
some_states m lawful q = one-le-pow (q - 1) m.symbols (omega (arith, two_symbols m lawful))

pub next_below : (m : Meaning) → Lawful m → (q s a : ℕ) → next m q s a < states m q
next_below m lawful q s a = mod-lt (a + m.symbols * s) (some_states m lawful q)

module _ (m : Meaning) (lawful : Lawful m) (q : ℕ) (places : List Place) where
  pub depth_sound : Sound (depth_trellis m q places)
  depth_sound = record { laws = cost_laws; starts = some_states m lawful q; stays = λ s a ls la. next_below m lawful q s a }

  pub forward_is : (k s : ℕ) → s < states m q → (cell_at (forward m q places k) s).cost ≡ columns.forward (depth_trellis m q places) k s
  unfolding columns.forward
  forward_is zero s lt =
      ap (λ (c : Cell). c.cost) (start_at m q places s lt) ∙ ap (λ b. cond b (Eighths 0) Barred) (eqb_comm s 0)
  forward_is (suc k) t lt =
      ap (λ (c : Cell). c.cost) (forward_at_lem m q places k t lt)
      ∙ below_cong cost_operations (states m q) _ _ (λ s ls.
      ap (λ c. join_below cost_operations m.symbols (λ a.
      cond (eqb (next m q s a) t) (plus c (weight m (place_at places k) (forward m q places k) s a)) Barred)) (forward_is k s ls))

  pub backward_is : (left k s : ℕ) → s < states m q → cost_at (backward_of m q places left k) s ≡ columns.backward (depth_trellis m q places) left k s
  unfolding columns.backward
  backward_is zero k s lt = backward_last m q places k s lt
  backward_is (suc left) k s lt =
      backward_at_lem m q places left k s lt
      ∙ below_cong cost_operations m.symbols _ _ (λ a la.
      ap (plus (weight m (place_at places k) (forward m q places k) s a)) (backward_is left (suc k) (next m q s a) (next_below m lawful q s a)))

  pub value_is : (k a : ℕ) → value_cost m q places k a ≡ columns.answer (depth_trellis m q places) (length places) k a
  unfolding columns.answer
  value_is k a =
      below_cong cost_operations (states m q) _ _ (λ s ls.
      ap₂ (λ c d. plus (plus c (weight m (place_at places k) (forward m q places k) s a)) d)
      (forward_is k s ls)
      (backward_is (length places - suc k) (suc k) (next m q s a) (next_below m lawful q s a)))

  -- the best joins all sequences, and so do the costs of the values at each place
  pub best_is : best m q places ≡ over_all (depth_trellis m q places) (length places) (along (depth_trellis m q places) 0 0)
  best_is = below_cong cost_operations (states m q) _ _ (forward_is (length places)) ∙ fronts_join Cost (depth_trellis m q places) depth_sound (length places)

  pub values_meet : (k : ℕ) → k < length places → join_below cost_operations m.symbols (value_cost m q places k) ≡ best m q places
  values_meet k lt =
      below_cong cost_operations m.symbols _ _ (λ a la. value_is k a)
      ∙ answers_meet Cost (depth_trellis m q places) depth_sound (length places) k lt
      ∙ sym best_is
