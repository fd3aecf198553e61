-- The columns of a trellis, each worked from its neighbour, and the answers where they meet.
use Rattle.std.specs.Prelude.{ℕ, zero, suc, ◌-◌, cond, ◌==◌}
use Rattle.trellis.specs.Trellis.{Trellis}
use Rattle.trellis.specs.Sequences.{join_below}

module _ {J : Type 0} (t : Trellis J) where
  -- Forward column k at the state u: unit at the start; then the join of all steps into u, each after what led to its state.
  unfoldable pub forward : ℕ → ℕ → J
  forward zero u = cond (t.start == u) t.operations.unit t.operations.none
  forward (suc k) u =
      join_below t.operations t.states (λ s. join_below t.operations t.symbols (λ a.
      cond (t.next s a == u) (t.operations.follow (forward k s) (t.weight k s a)) t.operations.none))

  -- Backward column k at the state s, with `left` symbols to come: unit at the end; before it the join of all steps from s, each before what comes after.
  unfoldable pub backward : ℕ → ℕ → ℕ → J
  backward zero k s = t.operations.unit
  backward (suc left) k s =
      join_below t.operations t.symbols (λ a. t.operations.follow (t.weight k s a) (backward left (suc k) (t.next s a)))

  -- The answer for the symbol a at the place k of K: over all states, what leads there, the step, and what comes after.
  unfoldable pub answer : ℕ → ℕ → ℕ → J
  answer K k a =
      join_below t.operations t.states (λ s.
      t.operations.follow (t.operations.follow (forward k s) (t.weight k s a)) (backward (K - suc k) (suc k) (t.next s a)))
