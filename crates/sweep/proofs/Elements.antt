-- The elements of a burst: each is the join of its ways.
use Rattle.std.proofs.Common.{◌≡◌, ℕ, ◌+◌, ◌/◌, ◌%◌, ◌<◌, cond, eqb, length, sym, ap, ◌∙◌, add-one}
use Rattle.cost.specs.declared.Cost.{Cost}
use Rattle.channel.specs.Meaning.{Meaning, Lawful}
use Rattle.joining.specs.Laws.{Operations, Laws}
use Rattle.trellis.specs.Trellis.{Sound}
use Rattle.trellis.specs.Sequences.{join_below}
use Rattle.trellis.proofs.Below.{below_same}
use Rattle.trellis.proofs.Elements.{forward_way, backward_way, answer_way, forward_start, forward_step, backward_end, backward_step, answer_meets}
use Rattle.sweep.specs.Burst.{Burst, symbols, states, trellis_of, forward_at, backward_at, answer_at}
use Rattle.sweep.specs.Joins.{JoinsBelow}
use Rattle.sweep.specs.Ways.{way_into, way_on, way_through}
use Rattle.sweep.proofs.Sound.{full_sound, full_shifts}

-- the join of so many ways
pub joined_ways : {J : Type 0} (o : Operations J) (n count : ℕ) (gives : ℕ → J → Type 0) (x : J) (way : ℕ → J)
    → JoinsBelow o n gives x → n ≡ count → ((i : ℕ) (y : J) → i < n → gives i y → y ≡ way i) → x ≡ join_below o count way
joined_ways o n count gives x way joins all told = joins.is way told ∙ ap (λ (k : ℕ). join_below o k way) all

module _ {J C : Type 0} (o : Operations J) (worth : Cost → J) (meaning : C → Meaning) (b : Burst C) (laws : Laws o) (lawful : Lawful (meaning b.channel)) where
  sound : Sound (trellis_of o worth meaning b)
  sound = full_sound o worth (meaning b.channel) b.places laws lawful

  -- the first and the last elements
  pub forward_first : (n i : ℕ) (x : J) → n ≡ states meaning b → i / n ≡ 0 → x ≡ cond (eqb (i % n) 0) o.unit o.none
      → x ≡ forward_at o worth meaning b (i / states meaning b) (i % states meaning b)
  forward_first n i x n_is first is =
      is ∙ sym (forward_start (trellis_of o worth meaning b) sound (i % n))
      ∙ ap (λ (k : ℕ). forward_at o worth meaning b k (i % n)) (sym first)
      ∙ ap (λ (m : ℕ). forward_at o worth meaning b (i / m) (i % m)) n_is

  pub backward_last : (n i : ℕ) (x : J) → n ≡ states meaning b → i / n ≡ length b.places → x ≡ o.unit
      → x ≡ backward_at o worth meaning b (i / states meaning b) (i % states meaning b)
  backward_last n i x n_is last is =
      is ∙ sym (backward_end (trellis_of o worth meaning b) sound (length b.places) (i % n))
      ∙ ap (λ (k : ℕ). backward_at o worth meaning b k (i % n)) (sym last)
      ∙ ap (λ (m : ℕ). backward_at o worth meaning b (i / m) (i % m)) n_is

  module _ (n : ℕ) (gives : ℕ → J → Type 0) (x : J) (joins : JoinsBelow o n gives x) where
    pub forward_joined : (k u : ℕ) → u < states meaning b → n ≡ symbols meaning b
        → ((i : ℕ) (y : J) → i < n → gives i y → y ≡ way_into (trellis_of o worth meaning b) k u i) → x ≡ forward_at o worth meaning b (k + 1) u
    unfolding forward_way
    forward_joined k u lu all told =
        joined_ways o n (symbols meaning b) gives x (way_into (trellis_of o worth meaning b) k u) joins all told
        ∙ sym (forward_step (trellis_of o worth meaning b) sound (full_shifts o worth (meaning b.channel) b.places) k u lu)
        ∙ ap (λ (i : ℕ). forward_at o worth meaning b i u) (sym (add-one k))

    pub backward_joined : (k s : ℕ) → k < length b.places → n ≡ symbols meaning b
        → ((i : ℕ) (y : J) → i < n → gives i y → y ≡ way_on (trellis_of o worth meaning b) (length b.places) k s i) → x ≡ backward_at o worth meaning b k s
    unfolding backward_way
    backward_joined k s lk all told =
        let way : ℕ → J = way_on (trellis_of o worth meaning b) (length b.places) k s in
        joined_ways o n (symbols meaning b) gives x way joins all told
        ∙ below_same o (symbols meaning b) way (backward_way (trellis_of o worth meaning b) (length b.places) k s)
        (λ a. ap (λ (i : ℕ). o.follow ((trellis_of o worth meaning b).weight k s a) (backward_at o worth meaning b i ((trellis_of o worth meaning b).next s a))) (add-one k))
        ∙ sym (backward_step (trellis_of o worth meaning b) sound (length b.places) k s lk)

    pub answer_joined : (k a : ℕ) → k < length b.places → a < symbols meaning b → n ≡ states meaning b
        → ((i : ℕ) (y : J) → i < n → gives i y → y ≡ way_through (trellis_of o worth meaning b) (length b.places) k a i) → x ≡ answer_at o worth meaning b k a
    unfolding answer_way
    answer_joined k a lk la all told =
        let way : ℕ → J = way_through (trellis_of o worth meaning b) (length b.places) k a in
        joined_ways o n (states meaning b) gives x way joins all told
        ∙ below_same o (states meaning b) way (answer_way (trellis_of o worth meaning b) (length b.places) k a)
        (λ s. ap (λ (i : ℕ). o.follow (o.follow (forward_at o worth meaning b k s) ((trellis_of o worth meaning b).weight k s a)) (backward_at o worth meaning b i ((trellis_of o worth meaning b).next s a))) (add-one k))
        ∙ sym (answer_meets (trellis_of o worth meaning b) sound (length b.places) k a lk la)
