-- Reading a whole text: its lines in turn, up to the first that is blamed.
use Rattle.std.specs.Prelude.{◌≡◌, ℕ, ◌+◌, ◌<◌, ◌≤◌, ◌⊎◌, List, [], ◌∷◌, ◌++◌, length, Ok, Err, Result, MatchResult}
use Rattle.std.specs.List.{flat_map, AllByRecursion}
use Rattle.forms.specs.Forms.{Form, text_of, Lawful}
use Rattle.text.specs.Kinds.{Begins, NoForm}
use Rattle.text.specs.declared.fault.Layer.TheVariants.{Text}
use Rattle.kinds.specs.Rules.{Rule}
use Rattle.reading.specs.Steps.{Blame, State, bare, tuned, deep, ready, step}

-- lines from a number on, each taken in turn
abbrev pub Runs : Rule → ℕ → State → List Form → State → Type 0
Runs k line s [] t = s ≡ t
Runs k line s (f ∷ fs) t = (u : State) × (step k line s f ≡ Ok u) × Runs k (line + 1) u fs t

-- both heads stand
abbrev pub IsReady : State → Type 0
IsReady bare = ⊥
IsReady (tuned f) = ⊥
IsReady (deep depth) = ⊥
IsReady (ready f depth places) = Unit {0}

abbrev pub by_text : ℕ → ℕ → Blame
by_text line number = record { line = line; told = (Text, number) }

-- What is wrong at the next line: it is no form; there is none, and a head is lacking; or it is a form that is not taken.
abbrev pub Blames : Rule → ℕ → State → List ℕ → Blame → Type 0
Blames k line s rest b =
    ((b ≡ by_text line 12) × NoForm rest)
    ⊎ (((b ≡ by_text line 13) × (rest ≡ []) × (IsReady s → ⊥)) ⊎ ((f : Form) × Begins f rest × (step k line s f ≡ Err b)))

-- From a line and what stands before it on, a text is the lines of some forms, all taken in turn; then nothing is left and both heads stand, or the next
-- line is blamed.
pub record ReadsFrom (k : Rule) (line : ℕ) (start : State) (text : List ℕ) (r : Result State Blame) : Type 0 where
  pub forms : List Form
  pub last : State
  pub rest : List ℕ
  pub lawful : AllByRecursion Lawful forms
  pub parts : text ≡ flat_map text_of forms ++ rest
  pub run : Runs k line start forms last
  pub ends : MatchResult r (λ s. (rest ≡ []) × (s ≡ last) × IsReady last) (λ b. Blames k (line + length forms) last rest b)

-- A text of more than 16,384 bytes is blamed at its first line, whatever it holds.
pub record ReadsText (k : Rule) (text : List ℕ) (r : Result State Blame) : Type 0 where
  pub long : 16384 < length text → r ≡ Err (by_text 1 14)
  pub short : length text ≤ 16384 → ReadsFrom k 1 bare text r

-- That leaves no choice.
abbrev pub TextHasOneAnswer : Type 0
TextHasOneAnswer = (k : Rule) (text : List ℕ) (r s : Result State Blame) → ReadsText k text r → ReadsText k text s → r ≡ s
