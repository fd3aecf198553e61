-- What carries one joining into another carries the joins over sequences of a trellis into those of the carried trellis.
use Rattle.std.proofs.Common.{◌≡◌, ℕ, zero, suc, Bool, true, false, cond, eqb, List, [], ◌∷◌, get_or, refl, ◌∙◌, ap₂}
use Rattle.joining.specs.Laws.{Operations}
use Rattle.trellis.specs.Trellis.{Trellis}
use Rattle.trellis.specs.Sequences.{join_below, over_all, along}
use Rattle.trellis.specs.Elements.{answer_element}
use Rattle.trellis.proofs.Below.{below_same}
use Rattle.trellis.proofs.All.{all_same}

-- h carries the operations of one joining into those of another.
pub record Carries {J J' : Type 0} (h : J → J') (o : Operations J) (o' : Operations J') : Type 0 where
  pub none : h o.none ≡ o'.none
  pub unit : h o.unit ≡ o'.unit
  pub join : (x y : J) → h (o.join x y) ≡ o'.join (h x) (h y)
  pub follow : (x y : J) → h (o.follow x y) ≡ o'.follow (h x) (h y)

-- the same states and symbols, each step worth what the other's is carried to
abbrev pub carried : {J J' : Type 0} → (J → J') → Operations J' → Trellis J → Trellis J'
carried h o' t = record {
  operations = o';
  symbols = t.symbols;
  states = t.states;
  start = t.start;
  next = t.next;
  weight = λ k s a. h (t.weight k s a);
}

module _ {J J' : Type 0} (h : J → J') (o' : Operations J') (t : Trellis J) (carries : Carries h t.operations o') where
  pub below_carried : (n : ℕ) (f : ℕ → J) → h (join_below t.operations n f) ≡ join_below o' n (λ i. h (f i))
  unfolding join_below
  below_carried zero f = carries.none
  below_carried (suc n) f = carries.join _ _ ∙ ap₂ o'.join (below_carried n f) refl

  pub all_carried : (k : ℕ) (f : List ℕ → J) → h (over_all t k f) ≡ over_all (carried h o' t) k (λ seq. h (f seq))
  unfolding over_all
  all_carried zero f = refl
  all_carried (suc k) f = below_carried t.symbols _ ∙ below_same o' t.symbols _ _ (λ a. all_carried k (λ seq. f (a ∷ seq)))

  pub along_carried : (k s : ℕ) (seq : List ℕ) → h (along t k s seq) ≡ along (carried h o' t) k s seq
  unfolding along
  along_carried k s [] = carries.unit
  along_carried k s (a ∷ seq) = carries.follow _ _ ∙ ap₂ o'.follow refl (along_carried (suc k) (t.next s a) seq)

  cond_carried : (b : Bool) (x : J) (y : J') → h x ≡ y → h (cond b x t.operations.none) ≡ cond b y o'.none
  cond_carried true x y e = e
  cond_carried false x y e = carries.none

  pub answer_carried : (K k a : ℕ) → h (answer_element t K k a) ≡ answer_element (carried h o' t) K k a
  unfolding answer_element
  answer_carried K k a =
      all_carried K _
      ∙ all_same (carried h o' t) K _ _ (λ seq. cond_carried (eqb a (get_or seq k 0)) _ _ (along_carried 0 t.start seq))
