-- One way of a trellis: a step, with all that comes before it or after it.
use Rattle.std.specs.Prelude.{ℕ, ◌+◌, ◌*◌, ◌/◌, ◌%◌}
use Rattle.trellis.specs.Trellis.{Trellis}
use Rattle.trellis.specs.Elements.{forward_element_of, backward_element_of}

module _ {J : Type 0} (t : Trellis J) where
  -- Into the state u of the column after k: of the pairs of a state and a symbol that lead to u, the one with the oldest symbol j.
  abbrev pub way_into : ℕ → ℕ → ℕ → J
  way_into k u j =
      let pair = u + t.states * j in
      t.operations.follow (forward_element_of t k (pair / t.symbols)) (t.weight k (pair / t.symbols) (pair % t.symbols))

  -- From the state s of column k of K: the step by the symbol a, and then all that leads on.
  abbrev pub way_on : ℕ → ℕ → ℕ → ℕ → J
  way_on K k s a = t.operations.follow (t.weight k s a) (backward_element_of t K (k + 1) (t.next s a))

  -- By the symbol a at the place k of K, through the state s: what leads to s, the step, and all that leads on.
  abbrev pub way_through : ℕ → ℕ → ℕ → ℕ → J
  way_through K k a s =
      t.operations.follow (t.operations.follow (forward_element_of t k s) (t.weight k s a)) (backward_element_of t K (k + 1) (t.next s a))
