-- Joins over all sequences of symbols, the state that a sequence leads to, and what it is worth.
use Rattle.std.specs.Prelude.{◌≡◌, ℕ, zero, suc, ◌<◌, List, [], ◌∷◌, length, slice_index}
use Rattle.joining.specs.Laws.{Operations}
use Rattle.trellis.specs.Trellis.{Trellis}

-- The join of f 0, .., f (n - 1).
unfoldable pub join_below : {J : Type 0} → Operations J → ℕ → (ℕ → J) → J
join_below o zero f = o.none
join_below o (suc n) f = o.join (join_below o n f) (f n)

-- k numbers below `symbols`
pub record Sequence (symbols k : ℕ) (seq : List ℕ) : Type 0 where
  pub long : length seq ≡ k
  pub below : (i : ℕ) → i < k → slice_index seq i < symbols

module _ {J : Type 0} (t : Trellis J) where
  -- The join of f over all sequences of k symbols: over each first symbol, and each sequence of k - 1 symbols after it.
  unfoldable pub over_all : ℕ → (List ℕ → J) → J
  over_all zero f = f []
  over_all (suc k) f = join_below t.operations t.symbols (λ a. over_all k (λ seq. f (a ∷ seq)))

  -- The state that a sequence leads to from the state s.
  unfoldable pub reach : ℕ → List ℕ → ℕ
  reach s [] = s
  reach s (a ∷ seq) = reach (t.next s a) seq

  -- What a sequence is worth from the place k and the state s on: its steps follow each other in order.
  unfoldable pub along : ℕ → ℕ → List ℕ → J
  along k s [] = t.operations.unit
  along k s (a ∷ seq) = t.operations.follow (t.weight k s a) (along (suc k) (t.next s a) seq)
