-- The line of the code kind.
use Rattle.std.specs.Prelude.{ℕ, pos, None, Option, unsigned_abs}
use Rattle.channel.specs.Meaning.{Meaning}
use Rattle.code.specs.Held.{memory_of, first_mask_of, second_mask_of}
use Rattle.code.specs.Rule.{code_meaning, load_refusal}
use Rattle.code.specs.declared.Code.{Code as Channel}
use Rattle.forms.specs.Forms.{Form, taps_form, table_form, code_form, depth_form, place_form}
use Rattle.text.specs.declared.kind.Kind.TheVariants.{Code}
use Rattle.kinds.specs.Rules.{Rule}

-- the line of a channel
abbrev pub of_code : Channel → Form
of_code c = code_form (pos (memory_of c)) (pos (first_mask_of c)) (pos (second_mask_of c))

-- the refusal of its memory and masks; that of other lines is not asked for
abbrev pub code_refusal : Form → Option ℕ
code_refusal (taps_form noise taps) = None
code_refusal (table_form noise memory entries) = None
code_refusal (code_form memory first second) = load_refusal memory first second
code_refusal (depth_form depth) = None
code_refusal (place_form first second priors) = None

-- what the loaded channel means; that of other lines is not asked for
abbrev pub code_meant : Form → Meaning
code_meant (taps_form noise taps) = code_meaning 0 0 0
code_meant (table_form noise memory entries) = code_meaning 0 0 0
code_meant (code_form memory first second) = code_meaning (unsigned_abs memory) (unsigned_abs first) (unsigned_abs second)
code_meant (depth_form depth) = code_meaning 0 0 0
code_meant (place_form first second priors) = code_meaning 0 0 0

abbrev pub code_rule : Rule
code_rule = record { kind = Code; symbols = 2; refusal = code_refusal; meaning = code_meant }
