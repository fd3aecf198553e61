-- The counts of the worked burst: two taps 2 and 1, the noise 8, two places with the sample (0, 0), priors 0 0 and 5 0.
use Rattle.std.specs.Prelude.{◌≡◌, ℕ, T, List, [], ◌∷◌, pos, nat_le, refl}
use Rattle.std.proofs.Common.{lit≤}
use Rattle.channel.specs.Meaning.{Meaning}
use Rattle.taps.specs.Rule.{taps_meaning}
use Rattle.joining.specs.Counting.{count_of, count_operations, count_worth}
use Rattle.joining.specs.declared.Count.{Count}
use Rattle.trellis.specs.Elements.{answer_element}
use Rattle.burst.specs.declared.place.Place.{Place}
use Rattle.burst.specs.Numbers.{four_small}
use Rattle.burst.specs.Sequences.{full_trellis}
use Rattle.sweep.specs.Pins.{place_pinned}

abbrev pub echo : Meaning
echo = taps_meaning (pos 2 ∷ (pos 1 ∷ [])) 8

-- a place with the sample (0, 0) and this prior of 0, where the other priors are 0
abbrev pub silent : (p : ℕ) → T (nat_le p 65535) → Place
silent p small = record {
  sample = record { first = pos 0; second = pos 0 };
  priors = record { numbers = p ∷ (0 ∷ (0 ∷ (0 ∷ []))); four = refl; small = four_small p 0 0 0 (lit≤ small) (lit≤ tt) (lit≤ tt) (lit≤ tt) };
}

-- how many sequences of two symbols have the symbol a at the place k
abbrev pub count_at : List Place → ℕ → ℕ → Count
count_at places k a = answer_element (full_trellis count_operations count_worth echo places) 2 k a

pub record CountsWorked : Type 0 where
  pub all : (count_at (silent 0 tt ∷ (silent 5 tt ∷ [])) 0 0 ≡ count_of 2) × (count_at (silent 0 tt ∷ (silent 5 tt ∷ [])) 0 1 ≡ count_of 2)
  pub all_then : (count_at (silent 0 tt ∷ (silent 5 tt ∷ [])) 1 0 ≡ count_of 2) × (count_at (silent 0 tt ∷ (silent 5 tt ∷ [])) 1 1 ≡ count_of 2)
  -- place 0 pinned to 1
  pub pinned : (count_at (place_pinned 2 1 (silent 0 tt) ∷ (silent 5 tt ∷ [])) 0 0 ≡ count_of 0) × (count_at (place_pinned 2 1 (silent 0 tt) ∷ (silent 5 tt ∷ [])) 0 1 ≡ count_of 2)
  pub pinned_then : (count_at (place_pinned 2 1 (silent 0 tt) ∷ (silent 5 tt ∷ [])) 1 0 ≡ count_of 1) × (count_at (place_pinned 2 1 (silent 0 tt) ∷ (silent 5 tt ∷ [])) 1 1 ≡ count_of 1)
