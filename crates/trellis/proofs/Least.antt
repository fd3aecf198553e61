-- Joins of costs are least, and reached.
use Rattle.std.proofs.Common.{◌≡◌, ℕ, zero, suc, ◌<◌, Bool, true, cond, ◌⊎◌, List, [], ◌∷◌, length, sym, refl, ap, ◌∙◌, subst, inl, inr, arith}
use Rattle.std.proofs.lemmas.Bool.{cases_eq, cases_lt, cases_Bool, cond-true, cond-false}
use Rattle.cost.specs.declared.Cost.{Cost}
use Rattle.cost.specs.declared.Cost.TheVariants.{Eighths, Barred}
use Rattle.cost.specs.Arithmetic.{least, AtMost}
use Rattle.joining.specs.Costs.{cost_operations}
use Rattle.trellis.specs.Trellis.{Trellis}
use Rattle.trellis.specs.Sequences.{Sequence, join_below, over_all}
use Rattle.trellis.specs.Least.{IsLeast, OverAllIsLeast, OverSomeIsLeast}
use Rattle.trellis.proofs.All.{no_symbols, one_more, first_of, rest_of}

pub at_most_refl : (c : Cost) → AtMost c c
at_most_refl (Eighths n) = omega arith
at_most_refl Barred = tt

pub at_most_trans : (b c d : Cost) → AtMost b c → AtMost c d → AtMost b d
at_most_trans (Eighths l) (Eighths m) (Eighths n) p q = omega arith
at_most_trans (Eighths l) (Eighths m) Barred p q = tt
at_most_trans (Eighths l) Barred (Eighths n) p q = absurd q
at_most_trans (Eighths l) Barred Barred p q = tt
at_most_trans Barred (Eighths m) d p q = absurd p
at_most_trans Barred Barred (Eighths n) p q = absurd q
at_most_trans Barred Barred Barred p q = tt

pub least_left : (c d : Cost) → AtMost (least c d) c
least_left (Eighths m) (Eighths n) = omega arith
least_left (Eighths m) Barred = omega arith
least_left Barred (Eighths n) = tt
least_left Barred Barred = tt

pub least_right : (c d : Cost) → AtMost (least c d) d
least_right (Eighths m) (Eighths n) = omega arith
least_right (Eighths m) Barred = tt
least_right Barred (Eighths n) = omega arith
least_right Barred Barred = tt

pub least_is_one : (c d : Cost) → (least c d ≡ c) ⊎ (least c d ≡ d)
least_is_one (Eighths m) (Eighths n) =
    elim (cases_lt m n) [ inl h ↦ inl (ap Eighths (omega arith)) | inr h ↦ inr (ap Eighths (omega arith)) ]
least_is_one (Eighths m) Barred = inl refl
least_is_one Barred d = inr refl

pub barred_at_most : (c : Cost) → AtMost Barred c → c ≡ Barred
barred_at_most (Eighths n) h = absurd h
barred_at_most Barred h = refl

pub barred_or_not : (c : Cost) → (c ≡ Barred) ⊎ (c ≡ Barred → ⊥)
barred_or_not (Eighths n) = inr (λ e. let no : ◌≡◌ {A = ℕ} 0 1 = cc in omega arith)
barred_or_not Barred = inl refl

pub at_most_both : (c d : Cost) → AtMost c d → AtMost d c → c ≡ d
at_most_both (Eighths m) (Eighths n) p q = ap Eighths (omega arith)
at_most_both (Eighths m) Barred p q = absurd q
at_most_both Barred d p q = sym (barred_at_most d p)

-- a join below n is at most each of what it joins
pub below_at_most : (n : ℕ) (f : ℕ → Cost) (a : ℕ) → a < n → AtMost (join_below cost_operations n f) (f a)
unfolding join_below
below_at_most zero f a lt = absurd (omega arith)
below_at_most (suc n) f a lt =
    elim (cases_eq a n) [
      | inl e ↦ subst (λ i. AtMost (least (join_below cost_operations n f) (f n)) (f i)) (sym e) (least_right (join_below cost_operations n f) (f n))
      | inr e ↦ at_most_trans (least (join_below cost_operations n f) (f n)) (join_below cost_operations n f) (f a) (least_left (join_below cost_operations n f) (f n)) (below_at_most n f a (omega arith))
    ]

-- and one of them, unless it is barred
pub below_reached : (n : ℕ) (f : ℕ → Cost) → (join_below cost_operations n f ≡ Barred → ⊥) → (a : ℕ) × (a < n) × (f a ≡ join_below cost_operations n f)
unfolding join_below
below_reached zero f some = absurd (some refl)
below_reached (suc n) f some =
    elim (least_is_one (join_below cost_operations n f) (f n)) [
      | inl e ↦
          let rest = below_reached n f (λ b. some (e ∙ b)) in
          (rest.0, omega (arith, rest.1), rest.2 ∙ sym e)
      | inr e ↦ (n, omega arith, sym e)
    ]

-- what is at most each of them, and one of them, is their join
pub below_is : (n : ℕ) (f : ℕ → Cost) (c : Cost) (i : ℕ) → ((j : ℕ) → j < n → AtMost c (f j)) → i < n → c ≡ f i → join_below cost_operations n f ≡ c
below_is n f c i below lt is =
    let over : AtMost (join_below cost_operations n f) c = subst (λ d. AtMost (join_below cost_operations n f) d) (sym is) (below_at_most n f i lt) in
    elim (barred_or_not (join_below cost_operations n f)) [
      | inl none ↦ none ∙ sym (barred_at_most c (subst (λ d. AtMost d c) none over))
      | inr some ↦
          let found = below_reached n f some in
          at_most_both (join_below cost_operations n f) c over (subst (λ d. AtMost c d) found.2 (below found.0 found.1))
    ]

module _ (t : Trellis Cost) (costs : t.operations ≡ cost_operations) where
  as_costs : (n : ℕ) (f : ℕ → Cost) → join_below t.operations n f ≡ join_below cost_operations n f
  as_costs n f = ap (λ o. join_below o n f) costs

  all_at_most : (k : ℕ) (f : List ℕ → Cost) (seq : List ℕ) → Sequence t.symbols k seq → AtMost (over_all t k f) (f seq)
  unfolding over_all
  all_at_most zero f [] s = at_most_refl (f [])
  all_at_most zero f (a ∷ seq) s = let e : suc (length seq) ≡ 0 = s.long in absurd (omega arith)
  all_at_most (suc k) f [] s = let e : 0 ≡ suc k = s.long in absurd (omega arith)
  all_at_most (suc k) f (a ∷ seq) s =
      let g : ℕ → Cost = λ b. over_all t k (λ rest. f (b ∷ rest)) in
      let first = below_at_most t.symbols g a (first_of _ k a seq s) in
      let more = all_at_most k (λ rest. f (a ∷ rest)) seq (rest_of _ k a seq s) in
      subst (λ c. AtMost c (f (a ∷ seq))) (sym (as_costs t.symbols g)) (at_most_trans (join_below cost_operations t.symbols g) (g a) (f (a ∷ seq)) first more)

  all_reached : (k : ℕ) (f : List ℕ → Cost) → (over_all t k f ≡ Barred → ⊥) → (seq : List ℕ) × Sequence t.symbols k seq × (f seq ≡ over_all t k f)
  unfolding over_all
  all_reached zero f some = ([], no_symbols _, refl)
  all_reached (suc k) f some =
      let g : ℕ → Cost = λ b. over_all t k (λ rest. f (b ∷ rest)) in
      let first = below_reached t.symbols g (λ b. some (as_costs t.symbols g ∙ b)) in
      let whole : g first.0 ≡ join_below t.operations t.symbols g = first.2 ∙ sym (as_costs t.symbols g) in
      let more = all_reached k (λ rest. f (first.0 ∷ rest)) (λ b. some (sym whole ∙ b)) in
      (first.0 ∷ more.0, one_more _ k first.0 more.0 first.1 more.1, more.2 ∙ whole)

-- the first two of the four say the rest
from_two : (symbols k : ℕ) (passes : List ℕ → Bool) (f : List ℕ → Cost) (c : Cost)
    → ((seq : List ℕ) → Sequence symbols k seq → passes seq ≡ true → AtMost c (f seq))
    → ((c ≡ Barred → ⊥) → (seq : List ℕ) × Sequence symbols k seq × (passes seq ≡ true) × (f seq ≡ c))
    → IsLeast symbols k passes f c
from_two symbols k passes f c below reached = record {
  below = below;
  reached = reached;
  all_barred = λ e seq s p. barred_at_most (f seq) (subst (λ d. AtMost d (f seq)) e (below seq s p));
  barred_if = λ all. elim (barred_or_not c) [
    | inl e ↦ e
    | inr some ↦ let found = reached some in absurd (some (sym found.3 ∙ all found.0 found.1 found.2))
  ];
}

pub over_all_is_least : OverAllIsLeast
over_all_is_least t costs k f =
    from_two t.symbols k (λ seq. true) f (over_all t k f)
    (λ seq s p. all_at_most t costs k f seq s)
    (λ some. let found = all_reached t costs k f some in (found.0, found.1, refl, found.2))

pub over_some_is_least : OverSomeIsLeast
over_some_is_least t costs k passes f =
    let g : List ℕ → Cost = λ seq. cond (passes seq) (f seq) Barred in
    from_two t.symbols k passes f (over_all t k g)
    (λ seq s p. subst (λ d. AtMost (over_all t k g) d) (cond-true (passes seq) (f seq) Barred p) (all_at_most t costs k g seq s))
    (λ some.
    let found = all_reached t costs k g some in
    elim (cases_Bool (passes found.0)) [
      | inl p ↦ (found.0, found.1, p, sym (cond-true (passes found.0) (f found.0) Barred p) ∙ found.2)
      | inr p ↦ absurd (some (sym found.2 ∙ cond-false (passes found.0) (f found.0) Barred p))
    ])
