-- What a kind of channel is to burst text.
use Rattle.std.specs.Prelude.{◌≡◌, ℕ, Bool, true, false, cond, Some, None, Option, Result, MatchResult}
use Rattle.std.specs.Option.{option_map}
use Rattle.channel.specs.Meaning.{Meaning}
use Rattle.forms.specs.Forms.{Form, head_of, Lawful}
use Rattle.forms.specs.Lines.{said, held}
use Rattle.forms.specs.declared.line.Line.{Line}
use Rattle.text.specs.Faults.{layer_of, number_of}
use Rattle.text.specs.Kinds.{kind_of}
use Rattle.text.specs.declared.fault.Cause.{Cause}
use Rattle.text.specs.declared.fault.Layer.{Layer}
use Rattle.text.specs.declared.fault.Layer.TheVariants.{Text, Channel}
use Rattle.text.specs.declared.kind.Kind.{Kind}
use Rattle.text.specs.declared.kind.Kind.TheVariants.{Taps, Table, Code}

-- A kind: which it is, how many symbol values it has, the refusal of loading what a line of it says, and what the channel then means.
pub record Rule : Type 0 where
  pub kind : Kind
  pub symbols : ℕ
  pub refusal : Form → Option ℕ
  pub meaning : Form → Meaning

-- whether a line that has a kind or none is of this kind
abbrev pub is_kind : Kind → Option Kind → Bool
is_kind k None = false
is_kind Taps (Some Taps) = true
is_kind Taps (Some Table) = false
is_kind Taps (Some Code) = false
is_kind Table (Some Taps) = false
is_kind Table (Some Table) = true
is_kind Table (Some Code) = false
is_kind Code (Some Taps) = false
is_kind Code (Some Table) = false
is_kind Code (Some Code) = true

abbrev pub of_kind : Rule → Form → Bool
of_kind k f = is_kind k.kind (kind_of (head_of f))

-- by which layer and number something is refused
abbrev pub Told : Type 0
Told = Layer × ℕ

abbrev pub told_by : Cause → Told
told_by c = (layer_of c, number_of c)

-- The refusal of a channel line: 12 by the text if it is of another kind, otherwise that of loading.
abbrev pub line_refusal : Rule → Form → Option Told
line_refusal k f = cond (of_kind k f) (option_map (λ n. (Channel, n)) (k.refusal f)) (Some (Text, 12))

-- a channel is loaded from a line that says its form, or the line is refused as the rules say
abbrev pub Spells : {C : Type 0} → Rule → (C → Form) → Line → Result C Cause → Type 0
Spells k form line r =
    (f : Form) → Lawful f → said line ≡ held f → MatchResult r (λ c. (line_refusal k f ≡ None) × (form c ≡ f)) (λ e. line_refusal k f ≡ Some (told_by e))

-- a form is lawful, and loads
pub record Loads (k : Rule) (f : Form) : Type 0 where
  pub lawful : Lawful f
  pub taken : line_refusal k f ≡ None
