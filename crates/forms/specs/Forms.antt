-- The forms of a line: what each says, and the text that it is.
use Rattle.std.specs.Prelude.{◌≡◌, ℕ, ◌≤◌, ◌⊎◌, List, [], ◌∷◌, ◌++◌, length, ℤ, codes}
use Rattle.std.specs.Fmt.{signed_decimal}
use Rattle.std.specs.List.{flat_map, AllByRecursion}
use Rattle.numerals.specs.Numbers.{SevenDigits}
use Rattle.table.specs.declared.entry.Entry.{Entry}
use Rattle.table.specs.declared.entry.Entry.TheVariants.{Barred as BarredEntry, Expected}
use Rattle.forms.specs.declared.head.Head.{Head}
use Rattle.forms.specs.declared.head.Head.TheVariants.{Taps, Table, Code, Depth, Place}
use Rattle.forms.specs.declared.prior.Prior.{Prior}
use Rattle.forms.specs.declared.prior.Prior.TheVariants.{Number, Barred}

-- what a line can say
pub data Form : Type 0 where
  taps_form : (noise : ℤ) (taps : List ℤ) → Form
  table_form : (noise memory : ℤ) (entries : List Entry) → Form
  code_form : (memory first second : ℤ) → Form
  depth_form : (depth : ℤ) → Form
  place_form : (first second : ℤ) (priors : List Prior) → Form

-- the text of a prior, and of an entry
abbrev pub prior_text : Prior → List ℕ
prior_text (Number n) = signed_decimal n
prior_text Barred = codes "barred"

abbrev pub entry_text : Entry → List ℕ
entry_text BarredEntry = codes "barred"
entry_text (Expected first second) = codes "(" ++ (signed_decimal first ++ (codes " " ++ (signed_decimal second ++ codes ")")))

-- the line feed
abbrev pub feed : List ℕ
feed = 10 ∷ []

-- pieces to the end of a line: each after a space, then the closing brackets
abbrev pub listed : {X : Type 0} → (X → List ℕ) → List X → List ℕ
listed write xs = flat_map (λ x. 32 ∷ write x) xs ++ (codes "))" ++ feed)

-- the words that a form begins with
abbrev pub opening : Head → List ℕ
opening Taps = codes "(channel (kind taps) (noise "
opening Table = codes "(channel (kind table) (noise "
opening Code = codes "(channel (kind code) (memory "
opening Depth = codes "(depth "
opening Place = codes "(place (sample "

abbrev pub head_of : Form → Head
head_of (taps_form noise taps) = Taps
head_of (table_form noise memory entries) = Table
head_of (code_form memory first second) = Code
head_of (depth_form depth) = Depth
head_of (place_form first second priors) = Place

-- what follows them
abbrev pub body_of : Form → List ℕ
body_of (taps_form noise taps) = signed_decimal noise ++ (codes ") (taps" ++ listed signed_decimal taps)
body_of (table_form noise memory entries) =
    signed_decimal noise ++ (codes ") (memory " ++ (signed_decimal memory ++ (codes ") (entries" ++ listed entry_text entries)))
body_of (code_form memory first second) =
    signed_decimal memory ++ (codes ") (masks " ++ (signed_decimal first ++ (codes " " ++ (signed_decimal second ++ (codes "))" ++ feed)))))
body_of (depth_form depth) = signed_decimal depth ++ (codes ")" ++ feed)
body_of (place_form first second priors) =
    signed_decimal first ++ (codes " " ++ (signed_decimal second ++ (codes ") (prior" ++ listed prior_text priors)))

-- the text of a form, with its line feed
abbrev pub text_of : Form → List ℕ
text_of f = opening (head_of f) ++ body_of f

-- its numbers have at most seven digits
abbrev pub PriorLawful : Prior → Type 0
PriorLawful (Number n) = SevenDigits n
PriorLawful Barred = Unit {0}

abbrev pub EntryLawful : Entry → Type 0
EntryLawful BarredEntry = Unit {0}
EntryLawful (Expected first second) = SevenDigits first × SevenDigits second

-- A form's numbers have at most seven digits; there is a tap or an entry at least; there are two or four priors.
abbrev pub Lawful : Form → Type 0
Lawful (taps_form noise taps) = SevenDigits noise × AllByRecursion SevenDigits taps × (1 ≤ length taps)
Lawful (table_form noise memory entries) = SevenDigits noise × SevenDigits memory × AllByRecursion EntryLawful entries × (1 ≤ length entries)
Lawful (code_form memory first second) = SevenDigits memory × SevenDigits first × SevenDigits second
Lawful (depth_form depth) = SevenDigits depth
Lawful (place_form first second priors) =
    SevenDigits first × SevenDigits second × AllByRecursion PriorLawful priors × ((length priors ≡ 2) ⊎ (length priors ≡ 4))

-- No two lawful forms have one text.
abbrev pub FormsHaveOneText : Type 0
FormsHaveOneText = (f g : Form) → Lawful f → Lawful g → text_of f ≡ text_of g → f ≡ g
