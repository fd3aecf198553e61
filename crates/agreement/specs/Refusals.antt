-- When a sweep over places that fit is refused.
use Rattle.std.specs.Prelude.{ℕ, ◌<◌, ◌≤◌, not, List, [], ◌∷◌, length, Option}
use Rattle.channel.specs.Meaning.{Meaning}
use Rattle.channel.specs.Refusals.{first_of}
use Rattle.burst.specs.Histories.{histories}
use Rattle.burst.specs.Sequences.{place_at}
use Rattle.burst.specs.declared.place.Place.{Place}
use Rattle.sweep.specs.Checks.{lists_have_room}
use Rattle.receiver.specs.Sound.{Fits}

-- at most 128 places, and each fits the channel
pub record AllFit (m : Meaning) (places : List Place) : Type 0 where
  pub few : length places ≤ 128
  pub each : (k : ℕ) → k < length places → Fits m (place_at places k)

-- of so many places that fit: a list is too short, and nothing else
unfoldable pub room_refusal : Meaning → ℕ → ℕ → ℕ → ℕ → Option ℕ
room_refusal m places forward backward answers =
    first_of ((not (lists_have_room m.symbols (histories m) places forward backward answers), 11) ∷ [])
