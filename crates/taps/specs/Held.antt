-- What a channel of the taps kind holds, and so what it means.
use Rattle.std.specs.Prelude.{◌≡◌, ℕ, List, ℤ, pos, Ok, Err, Result}
use Rattle.channel.specs.declared.refusal.Refusal.{Refusal}
use Rattle.channel.specs.Meaning.{Meaning}
use Rattle.prefix.specs.Prefix.{items}
use Rattle.taps.specs.Rule.{taps_meaning}
use Rattle.taps.specs.declared.Taps.{Taps}

abbrev pub taps_of : Taps → List ℤ
taps_of c = items c.taps

abbrev pub noise_of : Taps → ℕ
noise_of c = c.noise.number

abbrev pub meaning_of : Taps → Meaning
meaning_of c = taps_meaning (taps_of c) (noise_of c)

-- What stands after a load: what was handed in, or after a refusal the channel as it was.
abbrev pub Stands : Result (Unit {0}) Refusal → Taps → Taps → List ℤ → ℤ → Type 0
Stands (Ok done) before after taps noise = (taps_of after ≡ taps) × (pos (noise_of after) ≡ noise)
Stands (Err e) before after taps noise = after ≡ before
