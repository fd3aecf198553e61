-- The line of the table kind.
use Rattle.std.specs.Prelude.{ℕ, [], pos, None, Option, unsigned_abs}
use Rattle.channel.specs.Meaning.{Meaning}
use Rattle.table.specs.Held.{memory_of, entries_of, noise_of}
use Rattle.table.specs.Rule.{table_meaning, load_refusal}
use Rattle.table.specs.declared.Table.{Table as Channel}
use Rattle.forms.specs.Forms.{Form, taps_form, table_form, code_form, depth_form, place_form}
use Rattle.text.specs.declared.kind.Kind.TheVariants.{Table}
use Rattle.kinds.specs.Rules.{Rule}

-- the line of a channel
abbrev pub of_table : Channel → Form
of_table c = table_form (pos (noise_of c)) (pos (memory_of c)) (entries_of c)

-- the refusal of its memory, entries and noise; that of other lines is not asked for
abbrev pub table_refusal : Form → Option ℕ
table_refusal (taps_form noise taps) = None
table_refusal (table_form noise memory entries) = load_refusal memory entries noise
table_refusal (code_form memory first second) = None
table_refusal (depth_form depth) = None
table_refusal (place_form first second priors) = None

-- what the loaded channel means; that of other lines is not asked for
abbrev pub table_meant : Form → Meaning
table_meant (taps_form noise taps) = table_meaning 0 [] 0
table_meant (table_form noise memory entries) = table_meaning (unsigned_abs memory) entries (unsigned_abs noise)
table_meant (code_form memory first second) = table_meaning 0 [] 0
table_meant (depth_form depth) = table_meaning 0 [] 0
table_meant (place_form first second priors) = table_meaning 0 [] 0

abbrev pub table_rule : Rule
table_rule = record { kind = Table; symbols = 4; refusal = table_refusal; meaning = table_meant }
