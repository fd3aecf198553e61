-- The elements that a sweep of a trellis finds, said of sequences.
use Rattle.std.specs.Prelude.{ℕ, ◌-◌, cond, ◌==◌, slice_index}
use Rattle.trellis.specs.Trellis.{Trellis}
use Rattle.trellis.specs.Sequences.{over_all, reach, along}

module _ {J : Type 0} (t : Trellis J) where
  -- the join of all sequences of k symbols that lead to the state s
  unfoldable pub forward_element_of : ℕ → ℕ → J
  forward_element_of k s = over_all t k (λ seq. cond (s == reach t t.start seq) (along t 0 t.start seq) t.operations.none)

  -- the join of all choices of the symbols of the places k to K - 1, from the state s on
  unfoldable pub backward_element_of : ℕ → ℕ → ℕ → J
  backward_element_of K k s = over_all t (K - k) (along t k s)

  -- the join of all sequences of K symbols that have the symbol a at the place k
  unfoldable pub answer_element : ℕ → ℕ → ℕ → J
  answer_element K k a = over_all t K (λ seq. cond (a == slice_index seq k) (along t 0 t.start seq) t.operations.none)
