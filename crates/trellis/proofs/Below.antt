-- What the laws give of joins of f 0, .., f (n - 1).
use Rattle.std.proofs.Common.{◌≡◌, ℕ, zero, suc, ◌+◌, ◌*◌, ◌<◌, Bool, true, false, cond, eqb, sym, refl, ap, ◌∙◌, ap₂, inl, inr, add-zero, add-suc, suc-mul, zero-mul, arith}
use Rattle.std.proofs.lemmas.Bool.{cases_eq, eq-eqb, ne_eqb, cond-true, cond-false}
use Rattle.joining.specs.Laws.{Operations, Laws}
use Rattle.trellis.specs.Sequences.{join_below}

module _ {J : Type 0} (o : Operations J) where
  pub below_cong : (n : ℕ) (f g : ℕ → J) → ((i : ℕ) → i < n → f i ≡ g i) → join_below o n f ≡ join_below o n g
  unfolding join_below
  below_cong zero f g h = refl
  below_cong (suc n) f g h = ap₂ o.join (below_cong n f g (λ i lt. h i (omega arith))) (h n (omega arith))

  pub below_same : (n : ℕ) (f g : ℕ → J) → ((i : ℕ) → f i ≡ g i) → join_below o n f ≡ join_below o n g
  below_same n f g h = below_cong n f g (λ i lt. h i)

module _ {J : Type 0} (o : Operations J) (laws : Laws o) where
  pub below_none : (n : ℕ) → join_below o n (λ i. o.none) ≡ o.none
  unfolding join_below
  below_none zero = refl
  below_none (suc n) = laws.join_none _ ∙ below_none n

  exchange : (a b c d : J) → o.join (o.join a b) (o.join c d) ≡ o.join (o.join a c) (o.join b d)
  exchange a b c d =
      let inner : o.join b (o.join c d) ≡ o.join c (o.join b d) =
      sym (laws.join_assoc b c d) ∙ ap (λ x. o.join x d) (laws.join_comm b c) ∙ laws.join_assoc c b d in
      laws.join_assoc a b (o.join c d) ∙ ap (o.join a) inner ∙ sym (laws.join_assoc a c (o.join b d))

  pub below_join : (n : ℕ) (f g : ℕ → J) → join_below o n (λ i. o.join (f i) (g i)) ≡ o.join (join_below o n f) (join_below o n g)
  unfolding join_below
  below_join zero f g = sym (laws.join_none _)
  below_join (suc n) f g = ap (λ x. o.join x (o.join (f n) (g n))) (below_join n f g) ∙ exchange _ _ _ _

  pub below_swap : (m n : ℕ) (f : ℕ → ℕ → J) → join_below o m (λ i. join_below o n (λ j. f i j)) ≡ join_below o n (λ j. join_below o m (λ i. f i j))
  unfolding join_below
  below_swap zero n f = sym (below_none n)
  below_swap (suc m) n f = ap (λ x. o.join x (join_below o n (f m))) (below_swap m n f) ∙ sym (below_join n (λ j. join_below o m (λ i. f i j)) (f m))

  pub follow_below_lem : (n : ℕ) (x : J) (f : ℕ → J) → o.follow x (join_below o n f) ≡ join_below o n (λ i. o.follow x (f i))
  unfolding join_below
  follow_below_lem zero x f = laws.follow_none x
  follow_below_lem (suc n) x f = laws.follow_join x _ _ ∙ ap (λ y. o.join y (o.follow x (f n))) (follow_below_lem n x f)

  pub below_follow : (n : ℕ) (x : J) (f : ℕ → J) → o.follow (join_below o n f) x ≡ join_below o n (λ i. o.follow (f i) x)
  unfolding join_below
  below_follow zero x f = laws.none_follow x
  below_follow (suc n) x f = laws.join_follow _ _ x ∙ ap (λ y. o.join y (o.follow (f n) x)) (below_follow n x f)

  -- of all but one nothing is left
  pub below_only : (n u : ℕ) (f : ℕ → J) → u < n → join_below o n (λ i. cond (eqb u i) (f i) o.none) ≡ f u
  unfolding join_below
  below_only zero u f lt = absurd (omega arith)
  below_only (suc n) u f lt =
      elim (cases_eq u n) [
        | inl same ↦
            let none_before = below_cong o n (λ i. cond (eqb u i) (f i) o.none) (λ i. o.none) (λ i h. cond-false _ _ _ (ne_eqb u i (λ e. omega arith))) in
            ap₂ o.join (none_before ∙ below_none n) (cond-true _ _ _ (eq-eqb u n same) ∙ ap f (sym same)) ∙ laws.join_comm _ _ ∙ laws.join_none _
        | inr other ↦
            let before : u < n = omega arith in
            ap₂ o.join (below_only n u f before) (cond-false _ _ _ (ne_eqb u n other)) ∙ laws.join_none _
      ]

  pub below_add : (m n : ℕ) (f : ℕ → J) → join_below o (m + n) f ≡ o.join (join_below o m f) (join_below o n (λ j. f (m + j)))
  unfolding join_below
  below_add m zero f = ap (λ i. join_below o i f) (add-zero m) ∙ sym (laws.join_none _)
  below_add m (suc n) f =
      ap (λ i. join_below o i f) (add-suc m n) ∙ ap (λ x. o.join x (f (m + n))) (below_add m n f) ∙ laws.join_assoc _ _ _

  -- rows one after another are one long row
  pub below_rows : (m n : ℕ) (f : ℕ → J) → join_below o (m * n) f ≡ join_below o m (λ i. join_below o n (λ j. f (i * n + j)))
  unfolding join_below
  below_rows zero n f = ap (λ i. join_below o i f) (zero-mul n)
  below_rows (suc m) n f =
      ap (λ i. join_below o i f) (suc-mul m n) ∙ below_add (m * n) n f ∙ ap (λ x. o.join x (join_below o n (λ j. f (m * n + j)))) (below_rows m n f)

  -- a test commutes with what stands before or after
  pub cond_follow : (b : Bool) (x y : J) → o.follow (cond b x o.none) y ≡ cond b (o.follow x y) o.none
  cond_follow true x y = refl
  cond_follow false x y = laws.none_follow y

  pub follow_cond : (b : Bool) (x y : J) → o.follow x (cond b y o.none) ≡ cond b (o.follow x y) o.none
  follow_cond true x y = refl
  follow_cond false x y = laws.follow_none x
