-- Which places a forward column depends on, how long columns are, and what they have for each state.
use Rattle.std.proofs.Common.{◌≡◌, ℕ, zero, suc, ◌+◌, ◌<◌, List, map, length, get_or, refl, ◌∙◌, ap₂, zero-add, arith}
use Rattle.std.specs.List.{range_with_len}
use Rattle.std.proofs.lemmas.List.FromFn.{length-map-range_with_len, get_or-map-range_with_len, fill_by_all}
use Rattle.cost.specs.declared.Cost.{Cost}
use Rattle.cost.specs.declared.Cost.TheVariants.{Eighths, Barred}
use Rattle.channel.specs.Meaning.{Meaning}
use Rattle.joining.specs.Costs.{cost_operations}
use Rattle.trellis.specs.Sequences.{join_below}
use Rattle.burst.specs.Sequences.{place_at}
use Rattle.burst.specs.declared.place.Place.{Place}
use Rattle.recursions.specs.Depths.{states}
use Rattle.recursions.specs.Forward.{Cell, cell_at, start_cell, cell_of, least_into, step, forward}
use Rattle.recursions.specs.Backward.{cost_at, last_column, onward, backstep, backward_of}

-- a column of a function of the state: its cell of a state below n, and when two are equal
pub counted_at : {X : Type 0} (f : ℕ → X) (n s : ℕ) (d : X) → s < n → get_or (map f (range_with_len 0 n)) s d ≡ f s
counted_at f n s d lt = get_or-map-range_with_len f 0 n s s d lt (zero-add s)

pub counted_same : {X : Type 0} (f g : ℕ → X) (n : ℕ) → ((s : ℕ) → s < n → f s ≡ g s) → map f (range_with_len 0 n) ≡ map g (range_with_len 0 n)
counted_same f g n same =
    fill_by_all g (map f (range_with_len 0 n)) n (f 0) (length-map-range_with_len f 0 n) (λ s lt. counted_at f n s (f 0) lt ∙ same s lt)

pub forward_local : (m : Meaning) (q : ℕ) (places places' : List Place) (k : ℕ) → ((i : ℕ) → i < k → place_at places i ≡ place_at places' i)
    → forward m q places k ≡ forward m q places' k
unfolding forward
forward_local m q places places' zero same = refl
forward_local m q places places' (suc k) same =
    ap₂ (step m q) (same k (omega arith)) (forward_local m q places places' k (λ i lt. same i (omega arith)))

module _ (m : Meaning) (q : ℕ) where
  pub step_long : (place : Place) (column : List Cell) → length (step m q place column) ≡ states m q
  unfolding step
  step_long place column = length-map-range_with_len _ 0 (states m q)

  pub step_at : (place : Place) (column : List Cell) (t : ℕ) → t < states m q
      → cell_at (step m q place column) t ≡ cell_of m q place column t (least_into m q place column t)
  unfolding step
  step_at place column t lt = counted_at (λ s. cell_of m q place column s (least_into m q place column s)) (states m q) t _ lt

  pub start_at : (places : List Place) (s : ℕ) → s < states m q → cell_at (forward m q places 0) s ≡ start_cell s
  unfolding forward
  start_at places s lt = counted_at start_cell (states m q) s _ lt

  pub forward_long : (places : List Place) (k : ℕ) → length (forward m q places k) ≡ states m q
  unfolding forward
  forward_long places zero = length-map-range_with_len start_cell 0 (states m q)
  forward_long places (suc k) = step_long (place_at places k) (forward m q places k)

  pub forward_at_lem : (places : List Place) (k t : ℕ) → t < states m q
      → cell_at (forward m q places (suc k)) t
      ≡ cell_of m q (place_at places k) (forward m q places k) t (least_into m q (place_at places k) (forward m q places k) t)
  unfolding forward
  forward_at_lem places k t lt = step_at (place_at places k) (forward m q places k) t lt

  pub last_long : length (last_column m q) ≡ states m q
  unfolding last_column
  last_long = length-map-range_with_len _ 0 (states m q)

  pub last_at : (s : ℕ) → s < states m q → cost_at (last_column m q) s ≡ Eighths 0
  unfolding last_column
  last_at s lt = counted_at (λ i. Eighths 0) (states m q) s Barred lt

  pub backstep_long : (place : Place) (column : List Cell) (later : List Cost) → length (backstep m q place column later) ≡ states m q
  unfolding backstep
  backstep_long place column later = length-map-range_with_len _ 0 (states m q)

  pub backstep_at : (place : Place) (column : List Cell) (later : List Cost) (s : ℕ) → s < states m q
      → cost_at (backstep m q place column later) s ≡ join_below cost_operations m.symbols (onward m q place column later s)
  unfolding backstep
  backstep_at place column later s lt =
      counted_at (λ i. join_below cost_operations m.symbols (onward m q place column later i)) (states m q) s Barred lt

  pub backward_long : (places : List Place) (left k : ℕ) → length (backward_of m q places left k) ≡ states m q
  unfolding backward_of
  backward_long places zero k = last_long
  backward_long places (suc left) k = backstep_long (place_at places k) (forward m q places k) (backward_of m q places left (suc k))

  pub backward_last : (places : List Place) (k s : ℕ) → s < states m q → cost_at (backward_of m q places 0 k) s ≡ Eighths 0
  unfolding backward_of
  backward_last places k s lt = last_at s lt

  pub backward_at_lem : (places : List Place) (left k s : ℕ) → s < states m q
      → cost_at (backward_of m q places (suc left) k) s
      ≡ join_below cost_operations m.symbols (onward m q (place_at places k) (forward m q places k) (backward_of m q places left (suc k)) s)
  unfolding backward_of
  backward_at_lem places left k s lt = backstep_at (place_at places k) (forward m q places k) (backward_of m q places left (suc k)) s lt

  -- a backward column with `left` places to come depends on the places before k + left only
  pub backward_local_any : (places places' : List Place) (left k : ℕ) → ((i : ℕ) → i < k + left → place_at places i ≡ place_at places' i)
      → backward_of m q places left k ≡ backward_of m q places' left k
  unfolding backward_of
  backward_local_any places places' zero k same = refl
  backward_local_any places places' (suc left) k same =
      let place : place_at places k ≡ place_at places' k = same k (omega arith) in
      let column = forward_local m q places places' k (λ i lt. same i (omega arith)) in
      let later = backward_local_any places places' left (suc k) (λ i lt. same i (omega arith)) in
      cc
