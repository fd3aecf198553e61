-- What histories and worths are, said of a sequence's own symbols.
use Rattle.std.specs.Prelude.{◌≡◌, ℕ, zero, suc, ◌-◌, List, slice_index}
use Rattle.cost.specs.declared.Cost.{Cost}
use Rattle.channel.specs.Meaning.{Meaning, cost_of}
use Rattle.joining.specs.Laws.{Operations}
use Rattle.trellis.specs.Sequences.{Sequence, reach, along}
use Rattle.burst.specs.declared.place.Place.{Place}
use Rattle.burst.specs.Places.{prior_cost}
use Rattle.burst.specs.Own.{last_symbols, own_window}
use Rattle.burst.specs.Sequences.{place_at, full_trellis}

-- The follow of f 0, .., f (n - 1), in this order.
unfoldable pub follow_below : {J : Type 0} → Operations J → ℕ → (ℕ → J) → J
follow_below o zero f = o.unit
follow_below o (suc n) f = o.follow (follow_below o n f) (f n)

module _ {J : Type 0} (o : Operations J) (worth : Cost → J) (m : Meaning) (places : List Place) where
  -- what a sequence is worth at place k: first the channel's cost of the sample under its own window, then the prior of its own symbol
  abbrev pub own_worth : List ℕ → ℕ → J
  own_worth seq k =
      o.follow (worth (cost_of m (place_at places k).sample (own_window m seq k))) (worth (prior_cost (place_at places k).priors (slice_index seq k)))

  -- The state that a sequence leads to is the history it leaves, the number of its last symbols; and its worth is that of its places in their order.
  pub record OwnWindows : Type 0 where
    pub history : (k : ℕ) (seq : List ℕ) → Sequence m.symbols k seq → reach (full_trellis o worth m places) 0 seq ≡ last_symbols m (m.memory - 1) seq
    pub worths : (k : ℕ) (seq : List ℕ) → Sequence m.symbols k seq → along (full_trellis o worth m places) 0 0 seq ≡ follow_below o k (own_worth seq)
