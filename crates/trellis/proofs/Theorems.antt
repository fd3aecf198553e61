-- Forward, backward and answers are joins over sequences. One backward recursion with a value at its end does the work.
use Rattle.std.proofs.Common.{◌≡◌, ℕ, zero, suc, ◌+◌, ◌-◌, ◌<◌, ◌≤◌, Bool, cond, eqb, [], get_or, sym, refl, ap, ◌∙◌, ap₂, arith}
use Rattle.joining.specs.Laws.{Operations, Laws}
use Rattle.trellis.specs.Trellis.{Trellis, Sound}
use Rattle.trellis.specs.Sequences.{join_below, over_all, reach, along}
use Rattle.trellis.specs.Columns.{forward, backward, answer}
use Rattle.trellis.specs.Statements.{AnswersJoin, ForwardJoins, BackwardJoins, PlacesMeet, FrontsJoin, AnswersMeet}
use Rattle.trellis.proofs.Below.{below_cong, below_same, below_swap, follow_below_lem, below_follow, below_only, cond_follow, follow_cond}
use Rattle.trellis.proofs.All.{all_same, follow_all, all_cond}

module _ {J : Type 0} (t : Trellis J) where
  -- as `backward`, with a value of the last state in place of unit
  ahead : (ℕ → J) → ℕ → ℕ → ℕ → J
  ahead h zero k s = h s
  ahead h (suc l) k s = join_below t.operations t.symbols (λ a. t.operations.follow (t.weight k s a) (ahead h l (suc k) (t.next s a)))

  backward_ahead : (l k s : ℕ) → backward t l k s ≡ ahead (λ u. t.operations.unit) l k s
  unfolding backward ahead
  backward_ahead zero k s = refl
  backward_ahead (suc l) k s =
      below_same t.operations _ _ _ (λ a. ap (t.operations.follow (t.weight k s a)) (backward_ahead l (suc k) (t.next s a)))

module _ {J : Type 0} (t : Trellis J) (sound : Sound t) where
  abbrev o : Operations J
  o = t.operations

  abbrev laws : Laws t.operations
  laws = sound.laws

  ahead_all : (h : ℕ → J) (l k s : ℕ) → ahead t h l k s ≡ over_all t l (λ seq. t.operations.follow (along t k s seq) (h (reach t s seq)))
  unfolding ahead over_all along reach
  ahead_all h zero k s = sym (laws.unit_follow (h s))
  ahead_all h (suc l) k s =
      below_same o _ _ _ (λ a.
      ap (t.operations.follow (t.weight k s a)) (ahead_all h l (suc k) (t.next s a))
      ∙ follow_all t laws l _ _
      ∙ all_same t l _ _ (λ seq. sym (laws.follow_assoc _ _ _)))

  -- what a column gives, carried one place on
  step_on : (k : ℕ) (y : ℕ → J)
      → join_below o t.states (λ s. t.operations.follow (forward t k s) (join_below o t.symbols (λ a. t.operations.follow (t.weight k s a) (y (t.next s a)))))
      ≡ join_below o t.states (λ u. t.operations.follow (forward t (suc k) u) (y u))
  unfolding forward
  step_on k y =
      let way : ℕ → ℕ → J = λ s a. t.operations.follow (forward t k s) (t.weight k s a) in
      let into : ℕ → ℕ → ℕ → J = λ u s a. cond (eqb (t.next s a) u) (t.operations.follow (way s a) (y u)) t.operations.none in
      let spread : (u : ℕ) → t.operations.follow (forward t (suc k) u) (y u) ≡ join_below o t.states (λ s. join_below o t.symbols (λ a. into u s a)) =
      λ u. below_follow o laws t.states (y u) _
      ∙ below_same o _ _ _ (λ s. below_follow o laws t.symbols (y u) _ ∙ below_same o _ _ _ (λ a. cond_follow o laws _ _ _)) in
      let one : (s : ℕ) → s < t.states → join_below o t.states (λ u. join_below o t.symbols (λ a. into u s a))
      ≡ t.operations.follow (forward t k s) (join_below o t.symbols (λ a. t.operations.follow (t.weight k s a) (y (t.next s a)))) =
      λ s lt. below_swap o laws t.states t.symbols (λ u a. into u s a)
      ∙ below_cong o t.symbols _ _ (λ a la. below_only o laws t.states (t.next s a) (λ u. t.operations.follow (way s a) (y u)) (sound.stays s a lt la) ∙ laws.follow_assoc _ _ _)
      ∙ sym (follow_below_lem o laws t.symbols (forward t k s) _) in
      sym (below_same o _ _ _ spread ∙ below_swap o laws t.states t.states _ ∙ below_cong o _ _ _ one)

  -- where a column meets what is ahead of it, at whatever place
  meets : (h : ℕ → J) (K k l : ℕ) → K ≡ k + l
      → join_below o t.states (λ s. t.operations.follow (forward t k s) (ahead t h l k s)) ≡ ahead t h K 0 t.start
  unfolding forward ahead
  meets h K zero l e =
      let whole : K ≡ l = omega arith in
      below_same o _ _ _ (λ s. cond_follow o laws _ _ _)
      ∙ below_only o laws t.states t.start (λ s. t.operations.follow t.operations.unit (ahead t h l 0 s)) sound.starts
      ∙ laws.unit_follow _
      ∙ ap (λ m. ahead t h m 0 t.start) (sym whole)
  meets h K (suc k) l e = sym (step_on k (ahead t h l (suc k))) ∙ meets h K k (suc l) (omega arith)

  meets_all : (h : ℕ → J) (k : ℕ)
      → join_below o t.states (λ s. t.operations.follow (forward t k s) (h s)) ≡ over_all t k (λ seq. t.operations.follow (along t 0 t.start seq) (h (reach t t.start seq)))
  unfolding ahead
  meets_all h k = meets h k k 0 (omega arith) ∙ ahead_all h k 0 t.start

  -- the sequences with the symbol a, k symbols on from the place j: at the place p
  ahead_at : (a K k l j p s : ℕ) → a < t.symbols → K ≡ suc (k + l) → p ≡ j + k
      → over_all t K (λ seq. cond (eqb a (get_or seq k 0)) (along t j s seq) t.operations.none)
      ≡ ahead t (λ u. t.operations.follow (t.weight p u a) (over_all t l (along t (suc p) (t.next u a)))) k j s
  unfolding over_all along ahead
  ahead_at a zero k l j p s la e at = absurd (omega arith)
  ahead_at a (suc K) zero l j p s la e at =
      let long : K ≡ l = omega arith in
      let here : j ≡ p = omega arith in
      below_same o _ _ _ (λ b. all_cond t laws (eqb a b) K _)
      ∙ below_only o laws t.symbols a (λ b. over_all t K (λ seq. t.operations.follow (t.weight j s b) (along t (suc j) (t.next s b) seq))) la
      ∙ sym (follow_all t laws K _ _)
      ∙ ap₂ (λ i m. t.operations.follow (t.weight i s a) (over_all t m (along t (suc i) (t.next s a)))) here long
  ahead_at a (suc K) (suc k) l j p s la e at =
      below_same o _ _ _ (λ b.
      all_same t K _ _ (λ seq. sym (follow_cond o laws _ _ _))
      ∙ sym (follow_all t laws K _ _)
      ∙ ap (t.operations.follow (t.weight j s b)) (ahead_at a K k l (suc j) p (t.next s b) la (omega arith) (omega arith)))

  back_all : (l k s : ℕ) → backward t l k s ≡ over_all t l (along t k s)
  back_all l k s = backward_ahead t l k s ∙ ahead_all (λ u. t.operations.unit) l k s ∙ all_same t l _ _ (λ seq. laws.follow_unit _)

  front_all : (k u : ℕ) → u < t.states
      → forward t k u ≡ over_all t k (λ seq. cond (eqb u (reach t t.start seq)) (along t 0 t.start seq) t.operations.none)
  front_all k u lt =
      let tested : (b : Bool) (x : J) → cond b x t.operations.none ≡ t.operations.follow x (cond b t.operations.unit t.operations.none) =
      λ b x. sym (follow_cond o laws b x t.operations.unit ∙ ap (λ y. cond b y t.operations.none) (laws.follow_unit x)) in
      sym (below_only o laws t.states u (forward t k) lt)
      ∙ below_same o _ _ _ (λ s. tested (eqb u s) (forward t k s))
      ∙ meets_all (λ s. cond (eqb u s) t.operations.unit t.operations.none) k
      ∙ all_same t k _ _ (λ seq. sym (tested _ _))

  answer_all : (K k a : ℕ) → k < K → a < t.symbols
      → answer t K k a ≡ over_all t K (λ seq. cond (eqb a (get_or seq k 0)) (along t 0 t.start seq) t.operations.none)
  unfolding answer ahead
  answer_all K k a lk la =
      let l : ℕ = K - suc k in
      let h : ℕ → J = λ u. t.operations.follow (t.weight k u a) (over_all t l (along t (suc k) (t.next u a))) in
      below_same o _ _ _ (λ s.
      laws.follow_assoc _ _ _
      ∙ ap (λ y. t.operations.follow (forward t k s) (t.operations.follow (t.weight k s a) y)) (back_all l (suc k) (t.next s a)))
      ∙ meets h k k 0 (omega arith)
      ∙ sym (ahead_at a K k l 0 k t.start la (omega arith) (omega arith))

  meet_all : (K k : ℕ) → k ≤ K
      → join_below o t.states (λ s. t.operations.follow (forward t k s) (backward t (K - k) k s)) ≡ over_all t K (along t 0 t.start)
  meet_all K k lk =
      below_same o _ _ _ (λ s. ap (t.operations.follow (forward t k s)) (backward_ahead t (K - k) k s))
      ∙ meets (λ u. t.operations.unit) K k (K - k) (omega arith)
      ∙ sym (backward_ahead t K 0 t.start)
      ∙ back_all K 0 t.start

  fronts_all : (K : ℕ) → join_below o t.states (forward t K) ≡ over_all t K (along t 0 t.start)
  fronts_all K =
      below_same o _ _ _ (λ s. sym (laws.follow_unit _)) ∙ meets_all (λ u. t.operations.unit) K ∙ all_same t K _ _ (λ seq. laws.follow_unit _)

  answers_all : (K k : ℕ) → k < K → join_below o t.symbols (answer t K k) ≡ over_all t K (along t 0 t.start)
  unfolding answer backward
  answers_all K k lk =
      let one_more : suc (K - suc k) ≡ K - k = omega arith in
      below_swap o laws t.symbols t.states _
      ∙ below_same o _ _ _ (λ s.
      below_same o _ _ _ (λ a. laws.follow_assoc _ _ _)
      ∙ sym (follow_below_lem o laws t.symbols (forward t k s) _)
      ∙ ap (λ m. t.operations.follow (forward t k s) (backward t m k s)) one_more)
      ∙ meet_all K k (omega arith)

pub forward_joins : (J : Type 0) → ForwardJoins J
forward_joins J t sound = front_all t sound

pub backward_joins : (J : Type 0) → BackwardJoins J
backward_joins J t sound = back_all t sound

pub answers_join : (J : Type 0) → AnswersJoin J
answers_join J t sound = answer_all t sound

pub places_meet : (J : Type 0) → PlacesMeet J
places_meet J t sound = meet_all t sound

pub fronts_join : (J : Type 0) → FrontsJoin J
fronts_join J t sound = fronts_all t sound

pub answers_meet : (J : Type 0) → AnswersMeet J
answers_meet J t sound = answers_all t sound
