-- When a sweep is refused: too many places, samples not taken, priors that break their rule, lists too short.
use Rattle.std.specs.Prelude.{ℕ, ◌+◌, ◌*◌, Bool, not, ◌&&◌, List, [], ◌∷◌, length, Option, nat_le, nat_lt}
use Rattle.std.specs.List.{list_all}
use Rattle.channel.specs.Meaning.{Meaning, taken}
use Rattle.channel.specs.Refusals.{first_of}
use Rattle.burst.specs.declared.place.Place.{Place}
use Rattle.burst.specs.Places.{priors_allowed}
use Rattle.burst.specs.Histories.{histories}

-- each place passes the test (under a name of its own, by which crates above cite it)
abbrev pub each_passes : (Place → Bool) → List Place → Bool
each_passes test places = list_all test places

-- the channel takes each sample
abbrev pub each_taken : Meaning → List Place → Bool
each_taken m places = each_passes (λ p. taken m p.sample) places

-- the priors of each place keep their rule
abbrev pub each_allowed : ℕ → List Place → Bool
each_allowed symbols places = each_passes (λ p. priors_allowed symbols p.priors) places

-- the lists have room: K + 1 columns of histories in two of them, and K rows of symbols in the third
abbrev pub lists_have_room : ℕ → ℕ → ℕ → ℕ → ℕ → ℕ → Bool
lists_have_room symbols states places forward backward answers =
    nat_le ((places + 1) * states) forward && nat_le ((places + 1) * states) backward && nat_le (places * symbols) answers

-- The checks in the order of their numbers, each over the whole list; the last three numbers are the lengths of the lists to be filled.
abbrev pub sweep_refusal : Meaning → List Place → ℕ → ℕ → ℕ → Option ℕ
sweep_refusal m places forward backward answers =
    first_of
    ((nat_lt 128 (length places), 3)
    ∷ (not (each_taken m places), 4)
    ∷ (not (each_allowed m.symbols places), 5)
    ∷ (not (lists_have_room m.symbols (histories m) (length places) forward backward answers), 11)
    ∷ [])
