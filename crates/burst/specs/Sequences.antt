-- The sequences of a burst: the trellis of all histories, and the total of a sequence.
use Rattle.std.specs.Prelude.{ℕ, ◌+◌, ◌*◌, ◌%◌, List, [], ◌∷◌, pos, slice_index_or, refl}
use Rattle.std.proofs.Common.{lit≤}
use Rattle.cost.specs.declared.Cost.{Cost}
use Rattle.channel.specs.Meaning.{Meaning, cost_of}
use Rattle.joining.specs.Laws.{Operations}
use Rattle.joining.specs.Costs.{cost_operations}
use Rattle.trellis.specs.Trellis.{Trellis}
use Rattle.trellis.specs.Sequences.{along}
use Rattle.burst.specs.Histories.{histories}
use Rattle.burst.specs.Numbers.{four_small}
use Rattle.burst.specs.Places.{prior_cost}
use Rattle.burst.specs.declared.place.Place.{Place}

-- the place that a list has at a number; past its end one that no definition asks for
abbrev pub place_at : List Place → ℕ → Place
place_at places k =
    slice_index_or places k (record {
      sample = record { first = pos 0; second = pos 0 };
      priors = record { numbers = 0 ∷ (0 ∷ (0 ∷ (0 ∷ []))); four = refl; small = four_small 0 0 0 0 (lit≤ tt) (lit≤ tt) (lit≤ tt) (lit≤ tt) };
    })

-- the channel's cost of a place's sample under the window that a history and a symbol make
abbrev pub window_cost : Meaning → Place → ℕ → ℕ → Cost
window_cost m p h a = cost_of m p.sample (a + m.symbols * h)

-- The trellis of all histories, under a joining with the worth of a cost. It starts at the history of zeros; a symbol becomes the newest and the oldest is
-- dropped; a step is worth the channel's cost, followed by the prior's.
abbrev pub full_trellis : {J : Type 0} → Operations J → (Cost → J) → Meaning → List Place → Trellis J
full_trellis o worth m places = record {
  operations = o;
  symbols = m.symbols;
  states = histories m;
  start = 0;
  next = λ h a. (a + m.symbols * h) % histories m;
  weight = λ k h a. o.follow (worth (window_cost m (place_at places k) h a)) (worth (prior_cost (place_at places k).priors a));
}

-- the trellis of all histories with costs themselves: a sequence is worth the sum of its costs
abbrev pub cost_trellis : Meaning → List Place → Trellis Cost
cost_trellis m places = full_trellis cost_operations (λ c. c) m places

-- The total of a sequence: the sum over its places of the channel's cost of its own window and of its prior.
abbrev pub total : Meaning → List Place → List ℕ → Cost
total m places sequence = along (cost_trellis m places) 0 0 sequence
