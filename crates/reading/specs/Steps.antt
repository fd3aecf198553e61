-- What each line of a text does, by the rules of reading.
use Rattle.std.specs.Prelude.{ℕ, cond, List, [], ◌∷◌, ◌++◌, length, ℤ, pos, negsuc, Some, None, Ok, Err, Option, Result, ◌==◌}
use Rattle.std.specs.Option.{option_map}
use Rattle.burst.specs.declared.place.Place.{Place}
use Rattle.receiver.specs.Standing.{depth_refusal}
use Rattle.forms.specs.Forms.{Form, taps_form, table_form, code_form, depth_form, place_form}
use Rattle.forms.specs.declared.prior.Prior.{Prior}
use Rattle.text.specs.declared.fault.Layer.{Layer}
use Rattle.text.specs.declared.fault.Layer.TheVariants.{Text, Receiver}
use Rattle.kinds.specs.Rules.{Rule, Told, of_kind, line_refusal}
use Rattle.reading.specs.Places.{place_of, place_refusal}

-- the line that is blamed, and by which layer and number
pub record Blame : Type 0 where
  pub line : ℕ
  pub told : Told

-- What stands after some lines: no head, a channel line, a depth line, or both and the places since. A depth line that stands alone is the first line.
pub data State : Type 0 where
  bare : State
  tuned : (channel : Form) → State
  deep : (depth : ℤ) → State
  ready : (channel : Form) (depth : ℕ) (places : List Place) → State

-- a line is blamed
abbrev pub blamed : ℕ → Layer → ℕ → Result State Blame
blamed line layer number = Err (record { line = line; told = (layer, number) })

-- a line is blamed if it is refused
abbrev pub unless : Option Told → ℕ → Result State Blame → Result State Blame
unless None line s = s
unless (Some told) line s = Err (record { line = line; told = told })

-- the refusal of a receiver
abbrev pub received : Option ℕ → Option Told
received refusal = option_map (λ number. (Receiver, number)) refusal

-- what a line says: a channel, a depth or a place
pub data Saying : Type 0 where
  a_channel : Form → Saying
  a_depth : ℤ → Saying
  a_place : ℤ → ℤ → List Prior → Saying

abbrev pub saying : Form → Saying
saying (taps_form noise taps) = a_channel (taps_form noise taps)
saying (table_form noise memory entries) = a_channel (table_form noise memory entries)
saying (code_form memory first second) = a_channel (code_form memory first second)
saying (depth_form depth) = a_depth depth
saying (place_form first second priors) = a_place first second priors

-- a depth below 0 is allowed as little as 0
abbrev pub depth_of : ℤ → ℕ
depth_of (pos n) = n
depth_of (negsuc n) = 0

-- both heads stand: the depth is tried, and blamed at its line if it is not allowed
abbrev pub tried : Rule → ℕ → Form → ℤ → Result State Blame
tried k line f depth = unless (received (depth_refusal (k.meaning f) (depth_of depth))) line (Ok (ready f (depth_of depth) []))

-- a channel line where one stands: 12 if it is of another kind, otherwise 13
abbrev pub repeated : Rule → ℕ → Form → Result State Blame
repeated k line f = blamed line Text (cond (of_kind k f) 13 12)

-- with no head
abbrev pub first : Rule → ℕ → Saying → Result State Blame
first k line (a_channel f) = unless (line_refusal k f) line (Ok (tuned f))
first k line (a_depth depth) = Ok (deep depth)
first k line (a_place x y ps) = blamed line Text 13

-- after a channel line
abbrev pub after_channel : Rule → ℕ → Form → Saying → Result State Blame
after_channel k line f (a_channel g) = repeated k line g
after_channel k line f (a_depth depth) = tried k line f depth
after_channel k line f (a_place x y ps) = blamed line Text 13

-- after a depth line, which is the first
abbrev pub after_depth : Rule → ℕ → ℤ → Saying → Result State Blame
after_depth k line depth (a_channel f) = unless (line_refusal k f) line (tried k 1 f depth)
after_depth k line depth (a_depth again) = blamed line Text 13
after_depth k line depth (a_place x y ps) = blamed line Text 13

-- after both heads and some places: a place line has as many priors as there are symbol values
abbrev pub after_heads : Rule → ℕ → Form → ℕ → List Place → Saying → Result State Blame
after_heads k line f depth places (a_channel g) = repeated k line g
after_heads k line f depth places (a_depth again) = blamed line Text 13
after_heads k line f depth places (a_place x y ps) =
    cond (length ps == k.symbols)
    (unless (received (place_refusal (k.meaning f) (length places) x y ps)) line (Ok (ready f depth (places ++ (place_of x y ps ∷ [])))))
    (blamed line Text 12)

-- what a line does to what stands before it
abbrev pub step : Rule → ℕ → State → Form → Result State Blame
step k line bare f = first k line (saying f)
step k line (tuned g) f = after_channel k line g (saying f)
step k line (deep depth) f = after_depth k line depth (saying f)
step k line (ready g depth places) f = after_heads k line g depth places (saying f)
