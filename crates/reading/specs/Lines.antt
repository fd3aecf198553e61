-- What the readers of single lines answer.
use Rattle.std.specs.Prelude.{◌≡◌, ℕ, ◌<◌, ◌⊎◌, List, length, ℤ, None, Ok, Err, Result, MatchResult, ◌≢◌}
use Rattle.forms.specs.Forms.{Form, text_of, Lawful}
use Rattle.text.specs.declared.fault.Cause.{Cause}
use Rattle.text.specs.declared.fault.Fault.{Fault}
use Rattle.kinds.specs.Rules.{Rule, told_by, line_refusal}
use Rattle.reading.specs.Steps.{Blame, State, tuned, deep, saying, a_channel, step}
use Rattle.reading.specs.Texts.{by_text}
use Rattle.reading.specs.declared.first.First.{First}
use Rattle.reading.specs.declared.first.First.TheVariants.{Channel as AChannel, Depth as ADepth}

-- a line is the text of a form that does this to what stands before it
pub record Does (k : Rule) (n : ℕ) (s : State) (line : List ℕ) (r : Result State Blame) : Type 0 where
  pub form : Form
  pub lawful : Lawful form
  pub text_is : line ≡ text_of form
  pub does : step k n s form ≡ r

-- What becomes of a line, where one is wanted: it is taken; it is no form; there is none; or it is a form that is not taken.
abbrev pub Outcome : Rule → ℕ → State → List ℕ → Result State Blame → Type 0
Outcome k n s line (Ok t) = Does k n s line (Ok t)
Outcome k n s line (Err b) =
    ((b ≡ by_text n 12) × (0 < length line) × ((f : Form) → Lawful f → line ≢ text_of f))
    ⊎ (((b ≡ by_text n 13) × (length line ≡ 0)) ⊎ Does k n s line (Err b))

-- the same, where a fault is blamed at the line itself
abbrev pub At : {X : Type 0} → Rule → ℕ → State → List ℕ → (X → State) → Result X Cause → Type 0
At k n s line stands (Ok x) = Outcome k n s line (Ok (stands x))
At k n s line stands (Err e) = Outcome k n s line (Err (record { line = n; told = told_by e }))

-- and where it carries its own line
abbrev pub blame_of : Fault → Blame
blame_of fault = record { line = fault.line; told = told_by fault.cause }

abbrev pub AtLine : {X : Type 0} → Rule → ℕ → State → List ℕ → (X → State) → Result X Fault → Type 0
AtLine k n s line stands (Ok x) = Outcome k n s line (Ok (stands x))
AtLine k n s line stands (Err e) = Outcome k n s line (Err (blame_of e))

-- what stands after the first head
abbrev pub first_state : {C : Type 0} → (C → Form) → First C → State
first_state form (AChannel c) = tuned (form c)
first_state form (ADepth depth) = deep depth

-- a channel line that loads, or what becomes of the line after a depth line
abbrev pub ReadsChannel : {C : Type 0} → Rule → (C → Form) → List ℕ → Result C Cause → Type 0
ReadsChannel k form line (Ok c) =
    (f : Form) × Lawful f × (line ≡ text_of f) × (saying f ≡ a_channel f) × (line_refusal k f ≡ None) × (form c ≡ f)
ReadsChannel k form line (Err e) = (depth : ℤ) → Outcome k 2 (deep depth) line (Err (record { line = 2; told = told_by e }))

-- the same, where a fault carries the number of the line
abbrev pub ReadsSecond : {C : Type 0} → Rule → (C → Form) → List ℕ → Result C Fault → Type 0
ReadsSecond {C} k form line r =
    MatchResult r (λ c. ReadsChannel k form line (Ok c)) (λ fault. (fault.line ≡ 2) × ReadsChannel {C = C} k form line (Err fault.cause))
