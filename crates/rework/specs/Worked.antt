-- The worked bursts: two taps 2 and 1, the noise 8, two places with the sample (0, 0), priors 0 0 and 5 0, settled and then changed.
use Rattle.std.specs.Prelude.{◌≡◌, ℕ, T, List, [], ◌∷◌, pos, nat_le, refl}
use Rattle.std.proofs.Common.{lit≤}
use Rattle.cost.specs.declared.Cost.TheVariants.{Eighths}
use Rattle.channel.specs.Meaning.{Meaning}
use Rattle.channel.specs.declared.sample.Sample.{Sample}
use Rattle.taps.specs.Rule.{taps_meaning}
use Rattle.burst.specs.Numbers.{four_small}
use Rattle.burst.specs.declared.place.Place.{Place}
use Rattle.receiver.specs.Standing.{new_standing}
use Rattle.runs.specs.Calls.{stale_columns, cost_at, shown_at}
use Rattle.runs.specs.Runs.{ends, worked}
use Rattle.runs.specs.declared.call.Call.{Call}
use Rattle.runs.specs.declared.call.Call.TheVariants.{Add, Retake, Depth, Settle}

abbrev pub echo : Meaning
echo = taps_meaning (pos 2 ∷ (pos 1 ∷ [])) 8

abbrev pub sample_of : ℕ → Sample
sample_of n = record { first = pos n; second = pos 0 }

-- a place with the sample (0, 0) and this prior of 0, where the other priors are 0
abbrev pub silent : (p : ℕ) → T (nat_le p 65535) → Place
silent p small = record {
  sample = sample_of 0;
  priors = record { numbers = p ∷ (0 ∷ (0 ∷ (0 ∷ []))); four = refl; small = four_small p 0 0 0 (lit≤ small) (lit≤ tt) (lit≤ tt) (lit≤ tt) };
}

-- place 1 is retaken as (1, 0)
abbrev pub later : List Call
later = Add (silent 0 tt) ∷ (Add (silent 5 tt) ∷ (Settle ∷ (Retake 1 (sample_of 1) ∷ [])))

-- place 0 is retaken as it is
abbrev pub again : List Call
again = Add (silent 0 tt) ∷ (Add (silent 5 tt) ∷ (Settle ∷ (Retake 0 (sample_of 0) ∷ [])))

-- the same at depth 1
abbrev pub shallow : List Call
shallow = Add (silent 0 tt) ∷ (Add (silent 5 tt) ∷ (Depth 1 ∷ (Settle ∷ (Retake 0 (sample_of 0) ∷ []))))

-- how many columns are stale after the calls
abbrev pub count_after : List Call → ℕ
count_after calls = stale_columns (ends echo calls (new_standing echo))

-- what the four costs are after the calls, settled
pub record Costs (calls : List Call) (a b c d : ℕ) : Type 0 where
  pub first : (cost_at echo (worked echo calls) 0 0 ≡ Eighths a) × (cost_at echo (worked echo calls) 0 1 ≡ Eighths b)
  pub second : (cost_at echo (worked echo calls) 1 0 ≡ Eighths c) × (cost_at echo (worked echo calls) 1 1 ≡ Eighths d)

pub record Reworked : Type 0 where
  pub counts : (count_after later ≡ 3) × (count_after again ≡ 3) × (count_after shallow ≡ 4)
  pub costs_later : Costs later 9 5 10 5
  pub costs_again : Costs again 10 7 7 10
  pub costs_shallow : Costs shallow 15 7 7 10
  pub shown_later : shown_at echo (worked echo later) ≡ 1 ∷ (1 ∷ [])
  pub shown_shallow : shown_at echo (worked echo shallow) ≡ 1 ∷ (0 ∷ [])
