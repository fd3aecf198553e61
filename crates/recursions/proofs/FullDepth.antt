-- At full depth each history is its state; so costs of values are least totals, and a backward column depends on its own places alone.
use Rattle.std.proofs.Common.{◌≡◌, ℕ, zero, suc, ◌+◌, ◌*◌, ◌%◌, ◌<◌, ◌≤◌, cond, eqb, List, [], ◌∷◌, length, get_or, None, sym, refl, ap, ◌∙◌, subst, ap₂, inl, inr, arith}
use Rattle.std.proofs.lemmas.Bool.{cond-true}
use Rattle.cost.specs.Arithmetic.{plus, barred}
use Rattle.cost.specs.declared.Cost.{Cost}
use Rattle.cost.specs.declared.Cost.TheVariants.{Barred}
use Rattle.channel.specs.Meaning.{Meaning, Lawful}
use Rattle.joining.specs.Costs.{cost_operations}
use Rattle.trellis.specs.Sequences.{Sequence, over_all, along}
use Rattle.trellis.specs.Least.{IsLeast}
use Rattle.trellis.proofs.All.{all_cong, rest_of}
use Rattle.trellis.proofs.Below.{below_cong}
use Rattle.trellis.proofs.Least.{barred_or_not, over_some_is_least}
use Rattle.trellis.proofs.Theorems.{answers_join}
use Rattle.burst.specs.Places.{prior_cost}
use Rattle.burst.specs.Sequences.{place_at, window_cost, cost_trellis, total}
use Rattle.burst.specs.declared.place.Place.{Place}
use Rattle.recursions.specs.Depths.{states}
use Rattle.recursions.specs.Forward.{Cell, cell_at, weight, next, least_into, history_into, forward}
use Rattle.recursions.specs.Backward.{cost_at, backstep, backward_of}
use Rattle.recursions.specs.Answers.{value_cost}
use Rattle.recursions.specs.Laws.{FullDepthRemembers, FullDepthIsLeast}
use Rattle.recursions.proofs.Locality.{counted_same, start_at, forward_at_lem}
use Rattle.recursions.proofs.Trellises.{depth_trellis, depth_sound, some_states, next_below, value_is}
use Rattle.recursions.proofs.Survivors.{survivor_found}

module _ (m : Meaning) (lawful : Lawful m) where
  pub remembers : (places : List Place) (k s : ℕ) → s < states m m.memory → (cell_at (forward m m.memory places k) s).history ≡ s
  remembers places zero s lt = ap (λ (c : Cell). c.history) (start_at m m.memory places s lt)
  remembers places (suc k) t lt =
      let place : Place = place_at places k in
      let column : List Cell = forward m m.memory places k in
      let least : Cost = least_into m m.memory place column t in
      let cell = ap (λ (c : Cell). c.history) (forward_at_lem m m.memory places k t lt) in
      elim (barred_or_not least) [
        | inl none ↦ cell ∙ ap (history_into m column t) (cond-true (barred least) None _ (ap barred none))
        | inr some ↦
            let found = survivor_found m lawful m.memory place column t some in
            cell
            ∙ ap (history_into m column t) found.2.stored
            ∙ ap (λ h. (found.1 + m.symbols * h) % states m m.memory) (remembers places k found.0 found.2.state)
            ∙ found.2.leads
      ]

  -- the weight with the stored history is the weight of the state
  pub weight_is : (places : List Place) (k s a : ℕ) → s < states m m.memory
      → weight m (place_at places k) (forward m m.memory places k) s a ≡ (cost_trellis m places).weight k s a
  weight_is places k s a lt = ap (λ h. plus (window_cost m (place_at places k) h a) (prior_cost (place_at places k).priors a)) (remembers places k s lt)

  pub along_is : (places : List Place) (k s left : ℕ) (seq : List ℕ) → s < states m m.memory → Sequence m.symbols left seq
      → along (depth_trellis m m.memory places) k s seq ≡ along (cost_trellis m places) k s seq
  unfolding along
  along_is places k s left [] lt sequence = refl
  along_is places k s zero (a ∷ seq) lt sequence = let e : suc (length seq) ≡ 0 = sequence.long in absurd (omega arith)
  along_is places k s (suc left) (a ∷ seq) lt sequence =
      ap₂ plus (weight_is places k s a lt)
      (along_is places (suc k) (next m m.memory s a) left seq (next_below m lawful m.memory s a) (rest_of m.symbols left a seq sequence))

  -- the cost of a value is a join of totals
  pub value_joins : (places : List Place) (k a : ℕ) → k < length places → a < m.symbols
      → value_cost m m.memory places k a
      ≡ over_all (depth_trellis m m.memory places) (length places) (λ seq. cond (eqb a (get_or seq k 0)) (total m places seq) Barred)
  value_joins places k a lk la =
      let t = depth_trellis m m.memory places in
      value_is m lawful m.memory places k a
      ∙ answers_join Cost t (depth_sound m lawful m.memory places) (length places) k a lk la
      ∙ all_cong t (length places) _ _ (λ seq sequence.
      ap (λ c. cond (eqb a (get_or seq k 0)) c Barred) (along_is places 0 0 (length places) seq (some_states m lawful m.memory) sequence))

  -- a backward column depends on the places from k to k + left alone
  pub backward_local : (places places' : List Place) (left k : ℕ) → ((i : ℕ) → k ≤ i → i < k + left → place_at places i ≡ place_at places' i)
      → backward_of m m.memory places left k ≡ backward_of m m.memory places' left k
  unfolding backward_of backstep
  backward_local places places' zero k same = refl
  backward_local places places' (suc left) k same =
      let place : place_at places k ≡ place_at places' k = same k (omega arith) (omega arith) in
      let later = backward_local places places' left (suc k) (λ i from lt. same i (omega arith) (omega arith)) in
      counted_same _ _ (states m m.memory) (λ s ls.
      below_cong cost_operations m.symbols _ _ (λ a la.
      ap₂ (λ w (column : List Cost). plus w (cost_at column (next m m.memory s a)))
      (weight_is places k s a ls
      ∙ ap (λ (p : Place). plus (window_cost m p s a) (prior_cost p.priors a)) place
      ∙ sym (weight_is places' k s a ls))
      later))

pub full_depth_remembers : FullDepthRemembers
full_depth_remembers m lawful allowed = remembers m lawful

pub full_depth_is_least : FullDepthIsLeast
full_depth_is_least m lawful allowed places k a lk la =
    subst (IsLeast m.symbols (length places) (λ seq. eqb a (get_or seq k 0)) (total m places)) (sym (value_joins m lawful places k a lk la))
    (over_some_is_least (depth_trellis m m.memory places) refl (length places) (λ seq. eqb a (get_or seq k 0)) (total m places))
