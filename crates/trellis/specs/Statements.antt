-- What holds of columns and answers under any joining: each is a join over sequences.
use Rattle.std.specs.Prelude.{◌≡◌, ℕ, ◌-◌, ◌<◌, ◌≤◌, Bool, true, false, cond, ◌&&◌, List, [], ◌∷◌, ◌==◌, slice_index}
use Rattle.trellis.specs.Trellis.{Trellis, Sound}
use Rattle.trellis.specs.Sequences.{Sequence, join_below, over_all, reach, along}
use Rattle.trellis.specs.Columns.{forward, backward, answer}

-- A forward element joins the sequences that lead to its state.
abbrev pub ForwardJoins : Type 0 → Type 0
ForwardJoins J =
    (t : Trellis J) → Sound t → (k u : ℕ) → u < t.states
    → forward t k u ≡ over_all t k (λ seq. cond (u == reach t t.start seq) (along t 0 t.start seq) t.operations.none)

-- A backward element joins the sequences that lead on from its state.
abbrev pub BackwardJoins : Type 0 → Type 0
BackwardJoins J = (t : Trellis J) → Sound t → (left k s : ℕ) → backward t left k s ≡ over_all t left (along t k s)

-- An answer joins the sequences that have its symbol at its place.
abbrev pub AnswersJoin : Type 0 → Type 0
AnswersJoin J =
    (t : Trellis J) → Sound t → (K k a : ℕ) → k < K → a < t.symbols
    → answer t K k a ≡ over_all t K (λ seq. cond (a == slice_index seq k) (along t 0 t.start seq) t.operations.none)

-- Where a forward and a backward column meet, all sequences are joined, whatever the place.
abbrev pub PlacesMeet : Type 0 → Type 0
PlacesMeet J =
    (t : Trellis J) → Sound t → (K k : ℕ) → k ≤ K
    → join_below t.operations t.states (λ s. t.operations.follow (forward t k s) (backward t (K - k) k s)) ≡ over_all t K (along t 0 t.start)

-- The last forward column joins all sequences.
abbrev pub FrontsJoin : Type 0 → Type 0
FrontsJoin J =
    (t : Trellis J) → Sound t → (K : ℕ) → join_below t.operations t.states (forward t K) ≡ over_all t K (along t 0 t.start)

-- So do the answers at each place.
abbrev pub AnswersMeet : Type 0 → Type 0
AnswersMeet J =
    (t : Trellis J) → Sound t → (K k : ℕ) → k < K
    → join_below t.operations t.symbols (answer t K k) ≡ over_all t K (along t 0 t.start)

-- the same symbols in the same order
unfoldable pub same : List ℕ → List ℕ → Bool
same [] [] = true
same [] (b ∷ ys) = false
same (a ∷ xs) [] = false
same (a ∷ xs) (b ∷ ys) = a == b && same xs ys

-- Nothing but sequences of k symbols is joined.
abbrev pub SequencesAlone : Type 0 → Type 0
SequencesAlone J =
    (t : Trellis J) (k : ℕ) (f g : List ℕ → J) → ((seq : List ℕ) → Sequence t.symbols k seq → f seq ≡ g seq) → over_all t k f ≡ over_all t k g

-- Each of them is joined, and once.
abbrev pub EachOnce : Type 0 → Type 0
EachOnce J =
    (t : Trellis J) → Sound t → (k : ℕ) (seq : List ℕ) (x : J) → Sequence t.symbols k seq
    → over_all t k (λ other. cond (same seq other) x t.operations.none) ≡ x
