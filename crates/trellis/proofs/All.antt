-- What the laws give of joins over all sequences: nothing else is joined, and each sequence once.
use Rattle.std.proofs.Common.{◌≡◌, ℕ, zero, suc, ◌<◌, Bool, true, false, cond, ◌&&◌, eqb, List, [], ◌∷◌, length, get_or, refl, ap, ◌∙◌, arith}
use mathlib.Core.Path.{fun_ext}
use Rattle.joining.specs.Laws.{Laws}
use Rattle.trellis.specs.Trellis.{Trellis}
use Rattle.trellis.specs.Sequences.{Sequence, over_all}
use Rattle.trellis.specs.Statements.{same, SequencesAlone, EachOnce}
use Rattle.trellis.proofs.Below.{below_cong, below_same, below_none, below_only, follow_below_lem}

pub no_symbols : (m : ℕ) → Sequence m 0 []
no_symbols m = record { long = refl; below = λ i lt. absurd (omega arith) }

pub one_more : (m k a : ℕ) (seq : List ℕ) → a < m → Sequence m k seq → Sequence m (suc k) (a ∷ seq)
one_more m k a seq la s = record { long = ap suc s.long; below = below }
  where
    below : (i : ℕ) → i < suc k → get_or (a ∷ seq) i 0 < m
    below zero lt = la
    below (suc i) lt = s.below i (omega arith)

pub first_of : (m k a : ℕ) (seq : List ℕ) → Sequence m (suc k) (a ∷ seq) → a < m
first_of m k a seq s = s.below 0 (omega arith)

pub rest_of : (m k a : ℕ) (seq : List ℕ) → Sequence m (suc k) (a ∷ seq) → Sequence m k seq
rest_of m k a seq s = record { long = let e : suc (length seq) ≡ suc k = s.long in omega arith; below = λ i lt. s.below (suc i) (omega arith) }

module _ {J : Type 0} (t : Trellis J) where
  pub all_same : (k : ℕ) (f g : List ℕ → J) → ((seq : List ℕ) → f seq ≡ g seq) → over_all t k f ≡ over_all t k g
  all_same k f g h = ap (over_all t k) (fun_ext h)

  pub all_cong : (k : ℕ) (f g : List ℕ → J) → ((seq : List ℕ) → Sequence t.symbols k seq → f seq ≡ g seq) → over_all t k f ≡ over_all t k g
  unfolding over_all
  all_cong zero f g h = h [] (no_symbols _)
  all_cong (suc k) f g h =
      below_cong t.operations _ _ _ (λ a la. all_cong k (λ seq. f (a ∷ seq)) (λ seq. g (a ∷ seq)) (λ seq s. h (a ∷ seq) (one_more _ k a seq la s)))

  and_cond : (a b : Bool) (x y : J) → cond (a && b) x y ≡ cond a (cond b x y) y
  and_cond true b x y = refl
  and_cond false b x y = refl

module _ {J : Type 0} (t : Trellis J) (laws : Laws t.operations) where
  pub follow_all : (k : ℕ) (x : J) (f : List ℕ → J) → t.operations.follow x (over_all t k f) ≡ over_all t k (λ seq. t.operations.follow x (f seq))
  unfolding over_all
  follow_all zero x f = refl
  follow_all (suc k) x f =
      follow_below_lem t.operations laws t.symbols x (λ a. over_all t k (λ seq. f (a ∷ seq)))
      ∙ below_same t.operations _ _ _ (λ a. follow_all k x (λ seq. f (a ∷ seq)))

  pub all_none : (k : ℕ) → over_all t k (λ seq. t.operations.none) ≡ t.operations.none
  unfolding over_all
  all_none zero = refl
  all_none (suc k) = below_same t.operations _ _ _ (λ a. all_none k) ∙ below_none t.operations laws t.symbols

  -- a test that does not look at the sequence
  pub all_cond : (b : Bool) (k : ℕ) (f : List ℕ → J)
      → over_all t k (λ seq. cond b (f seq) t.operations.none) ≡ cond b (over_all t k f) t.operations.none
  all_cond true k f = refl
  all_cond false k f = all_none k

  once : (k : ℕ) (seq : List ℕ) (x : J) → Sequence t.symbols k seq → over_all t k (λ other. cond (same seq other) x t.operations.none) ≡ x
  unfolding over_all same
  once zero [] x s = refl
  once zero (a ∷ seq) x s = let e : suc (length seq) ≡ 0 = s.long in absurd (omega arith)
  once (suc k) [] x s = let e : 0 ≡ suc k = s.long in absurd (omega arith)
  once (suc k) (a ∷ seq) x s =
      below_same t.operations _ _ _ (λ b.
      all_same t k _ _ (λ other. and_cond t (eqb a b) (same seq other) x t.operations.none)
      ∙ all_cond (eqb a b) k (λ other. cond (same seq other) x t.operations.none))
      ∙ below_only t.operations laws t.symbols a (λ b. over_all t k (λ other. cond (same seq other) x t.operations.none)) (first_of _ k a seq s)
      ∙ once k seq x (rest_of _ k a seq s)

pub sequences_alone : (J : Type 0) → SequencesAlone J
sequences_alone J t = all_cong t

pub each_once : (J : Type 0) → EachOnce J
each_once J t sound = once t sound.laws
