-- A trellis: states, symbols that lead from state to state, and what each step is worth under a joining.
use Rattle.std.specs.Prelude.{ℕ, ◌<◌}
use Rattle.joining.specs.Laws.{Operations, Laws}

pub record Trellis (J : Type 0) : Type 0 where
  pub operations : Operations J
  -- symbols and states are the numbers below these
  pub symbols : ℕ
  pub states : ℕ
  -- the state at place 0
  pub start : ℕ
  -- the state after a state and a symbol
  pub next : ℕ → ℕ → ℕ
  -- what a step is worth: at a place, in a state, by a symbol
  pub weight : ℕ → ℕ → ℕ → J

-- The joining keeps its laws, and symbols lead from states to states.
pub record Sound {J : Type 0} (t : Trellis J) : Type 0 where
  pub laws : Laws t.operations
  pub starts : t.start < t.states
  pub stays : (s a : ℕ) → s < t.states → a < t.symbols → t.next s a < t.states
