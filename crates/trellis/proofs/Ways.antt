-- One way more of an element, as a program reads it from lists of columns.
use Rattle.std.proofs.Common.{◌≡◌, ℕ, ◌+◌, ◌*◌, ◌/◌, ◌%◌, ◌<◌, List, get_or, sym, refl, ap, ◌∙◌, ap₂, add-one}
use Rattle.joining.specs.Laws.{Operations}
use Rattle.trellis.specs.Trellis.{Trellis}
use Rattle.trellis.specs.Sequences.{join_below}
use Rattle.trellis.specs.Elements.{forward_element_of, backward_element_of}
use Rattle.trellis.specs.Lists.{Column}
use Rattle.trellis.proofs.Elements.{forward_way, backward_way, answer_way, state_lt}

pub below_start : {J : Type 0} (o : Operations J) (f : ℕ → J) → join_below o 0 f ≡ o.none
unfolding join_below
below_start o f = refl

pub below_more : {J : Type 0} (o : Operations J) (n : ℕ) (f : ℕ → J) → join_below o (n + 1) f ≡ o.join (join_below o n f) (f n)
unfolding join_below
below_more o n f = ap (λ (i : ℕ). join_below o i f) (add-one n)

-- the ways so far, and one more
pub joined : {J : Type 0} (o : Operations J) (n : ℕ) (f : ℕ → J) (ways way : J) → ways ≡ join_below o n f → way ≡ f n → o.join ways way ≡ join_below o (n + 1) f
joined o n f ways way so_far here = ap₂ o.join so_far here ∙ sym (below_more o n f)

module _ {J : Type 0} (t : Trellis J) where
  pub forward_way_lem : (list : List J) (n m k u j : ℕ) (x w : J) → u < n → j < m
      → Column t.operations.none list n k (forward_element_of t k)
      → x ≡ get_or list (k * n + (u + n * j) / m) t.operations.none
      → w ≡ t.weight k ((u + n * j) / m) ((u + n * j) % m)
      → t.operations.follow x w ≡ forward_way t n m k u j
  unfolding forward_way
  forward_way_lem list n m k u j x w lu lj column is worth =
      ap₂ t.operations.follow (is ∙ column ((u + n * j) / m) (state_lt n m u j lu lj)) worth

  pub backward_way_lem : (list : List J) (n K k s a next : ℕ) (x w : J) → next ≡ t.next s a → next < n
      → Column t.operations.none list n (k + 1) (backward_element_of t K (k + 1))
      → x ≡ get_or list ((k + 1) * n + next) t.operations.none
      → w ≡ t.weight k s a
      → t.operations.follow w x ≡ backward_way t K k s a
  unfolding backward_way
  backward_way_lem list n K k s a next x w leads within column is worth =
      ap₂ t.operations.follow worth (is ∙ column next within ∙ ap₂ (λ (i j : ℕ). backward_element_of t K i j) (add-one k) leads)

  pub answer_way_lem : (fronts backs : List J) (n K k a s next : ℕ) (x y w : J) → s < n → next ≡ t.next s a → next < n
      → Column t.operations.none fronts n k (forward_element_of t k)
      → Column t.operations.none backs n (k + 1) (backward_element_of t K (k + 1))
      → x ≡ get_or fronts (k * n + s) t.operations.none
      → y ≡ get_or backs ((k + 1) * n + next) t.operations.none
      → w ≡ t.weight k s a
      → t.operations.follow (t.operations.follow x w) y ≡ answer_way t K k a s
  unfolding answer_way
  answer_way_lem fronts backs n K k a s next x y w ls leads within front back is_x is_y worth =
      ap₂ t.operations.follow
      (ap₂ t.operations.follow (is_x ∙ front s ls) worth)
      (is_y ∙ back next within ∙ ap₂ (λ (i j : ℕ). backward_element_of t K i j) (add-one k) leads)
