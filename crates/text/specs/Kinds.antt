-- Finding the kind of a text's channel: which line decides it, or is blamed.
use Rattle.std.specs.Prelude.{◌≡◌, ℕ, ◌+◌, ◌<◌, ◌≤◌, ◌⊎◌, List, [], ◌++◌, length, Some, None, Ok, Err, Option, Result, MatchResult, ◌≢◌}
use Rattle.std.specs.List.{flat_map, AllByRecursion}
use Rattle.forms.specs.Forms.{Form, head_of, text_of, Lawful}
use Rattle.forms.specs.Lines.{IsForm}
use Rattle.forms.specs.declared.head.Head.{Head}
use Rattle.forms.specs.declared.head.Head.TheVariants.{Taps, Table, Code, Depth, Place}
use Rattle.forms.specs.declared.line.Line.{Line}
use Rattle.text.specs.declared.fault.Cause.{Cause}
use Rattle.text.specs.declared.fault.Cause.TheVariants.{Text}
use Rattle.text.specs.declared.fault.Fault.{Fault}
use Rattle.text.specs.declared.fault.Malformed.TheVariants.{NotAForm, Heads, TooLong}
use Rattle.text.specs.declared.kind.Kind.{Kind}
use Rattle.text.specs.declared.kind.Kind.TheVariants.{Taps as TapsKind, Table as TableKind, Code as CodeKind}

-- the kind of a channel line, none for the other forms
abbrev pub kind_of : Head → Option Kind
kind_of Taps = Some TapsKind
kind_of Table = Some TableKind
kind_of Code = Some CodeKind
kind_of Depth = None
kind_of Place = None

-- a text begins with the line of a form
pub record Begins (f : Form) (text : List ℕ) : Type 0 where
  pub after : List ℕ
  pub lawful : Lawful f
  pub parts : text ≡ text_of f ++ after

-- what can stand at a line where a channel line is lacking, after so many depth lines, and is wrong there

-- the line is no form
abbrev pub NoForm : List ℕ → Type 0
NoForm text = (0 < length text) × ((f : Form) → Begins f text → ⊥)

-- there is no line, or it is a place line, or one more depth line
abbrev pub Misplaced : ℕ → List ℕ → Type 0
Misplaced depths text =
    (text ≡ []) ⊎ ((f : Form) × Begins f text × ((head_of f ≡ Place) ⊎ ((head_of f ≡ Depth) × (1 ≤ depths))))

abbrev pub Blames : ℕ → List ℕ → Cause → Type 0
Blames depths text cause = ((cause ≡ Text NotAForm) × NoForm text) ⊎ ((cause ≡ Text Heads) × Misplaced depths text)

-- A text has at most one depth line; then either a channel line, whose kind is the answer, or a line that is blamed.
pub record Found (text : List ℕ) (r : Result Kind Fault) : Type 0 where
  pub depths : List Form
  pub rest : List ℕ
  pub parts : text ≡ flat_map text_of depths ++ rest
  pub all_depths : AllByRecursion (λ f. Lawful f × (head_of f ≡ Depth)) depths
  pub one_at_most : length depths ≤ 1
  pub decided :
      MatchResult r (λ kind. (f : Form) × Begins f rest × (kind_of (head_of f) ≡ Some kind))
      (λ fault. (fault.line ≡ length depths + 1) × Blames (length depths) rest fault.cause)

-- The answer of finding the kind. A text of more than 16,384 bytes is blamed at its first line, whatever it holds.
pub record FindsKind (text : List ℕ) (r : Result Kind Fault) : Type 0 where
  pub long : 16384 < length text → r ≡ Err (record { line = 1; cause = Text TooLong })
  pub short : length text ≤ 16384 → Found text r

-- That leaves no choice.
abbrev pub KindHasOneAnswer : Type 0
KindHasOneAnswer = (text : List ℕ) (r s : Result Kind Fault) → FindsKind text r → FindsKind text s → r ≡ s

-- What a line says where a head is wanted: it is read as a form; or it is no form; or there is none.
abbrev pub ReadsHeadLine : List ℕ → Result Line Cause → Type 0
ReadsHeadLine line (Ok l) = IsForm line l
ReadsHeadLine line (Err cause) =
    ((cause ≡ Text NotAForm) × (0 < length line) × ((f : Form) → Lawful f → line ≢ text_of f)) ⊎ ((cause ≡ Text Heads) × (length line ≡ 0))

-- What one line is, where a channel line is lacking: a channel line of a kind, a depth line, or wrong.
abbrev pub ReadsHead : List ℕ → Result (Option Kind) Cause → Type 0
ReadsHead line (Ok (Some kind)) = (f : Form) × Lawful f × (line ≡ text_of f) × (kind_of (head_of f) ≡ Some kind)
ReadsHead line (Ok None) = (f : Form) × Lawful f × (line ≡ text_of f) × (head_of f ≡ Depth)
ReadsHead line (Err cause) =
    ((cause ≡ Text NotAForm) × (0 < length line) × ((f : Form) → Lawful f → line ≢ text_of f))
    ⊎ ((cause ≡ Text Heads) × ((length line ≡ 0) ⊎ ((f : Form) × Lawful f × (line ≡ text_of f) × (head_of f ≡ Place))))

-- the same, with the number of the line in a fault
abbrev pub ReadsHeadAt : ℕ → List ℕ → Result (Option Kind) Fault → Type 0
ReadsHeadAt n line r =
    MatchResult r (λ kind. ReadsHead line (Ok kind)) (λ fault. (fault.line ≡ n) × ReadsHead line (Err fault.cause))
