-- The line of the taps kind.
use Rattle.std.specs.Prelude.{ℕ, [], pos, None, Option, unsigned_abs}
use Rattle.channel.specs.Meaning.{Meaning}
use Rattle.taps.specs.Held.{taps_of, noise_of}
use Rattle.taps.specs.Rule.{taps_meaning, load_refusal}
use Rattle.taps.specs.declared.Taps.{Taps as Channel}
use Rattle.forms.specs.Forms.{Form, taps_form, table_form, code_form, depth_form, place_form}
use Rattle.text.specs.declared.kind.Kind.TheVariants.{Taps}
use Rattle.kinds.specs.Rules.{Rule}

-- the line of a channel
abbrev pub of_taps : Channel → Form
of_taps c = taps_form (pos (noise_of c)) (taps_of c)

-- the refusal of its taps and noise; that of other lines is not asked for
abbrev pub taps_refusal : Form → Option ℕ
taps_refusal (taps_form noise taps) = load_refusal taps noise
taps_refusal (table_form noise memory entries) = None
taps_refusal (code_form memory first second) = None
taps_refusal (depth_form depth) = None
taps_refusal (place_form first second priors) = None

-- what the loaded channel means; that of other lines is not asked for
abbrev pub taps_meant : Form → Meaning
taps_meant (taps_form noise taps) = taps_meaning taps (unsigned_abs noise)
taps_meant (table_form noise memory entries) = taps_meaning [] 0
taps_meant (code_form memory first second) = taps_meaning [] 0
taps_meant (depth_form depth) = taps_meaning [] 0
taps_meant (place_form first second priors) = taps_meaning [] 0

abbrev pub taps_rule : Rule
taps_rule = record { kind = Taps; symbols = 2; refusal = taps_refusal; meaning = taps_meant }
