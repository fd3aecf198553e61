-- What the readers of the pieces of a line answer.
use Rattle.std.specs.Prelude.{◌≡◌, ℕ, ◌≤◌, ◌⊎◌, List, [], ◌∷◌, ◌++◌, length, take, ℤ, Result, MatchResult, ◌≢◌}
use Rattle.std.specs.Borrow.{Bor}
use Rattle.std.specs.Fmt.{signed_decimal}
use Rattle.std.specs.List.{AllByRecursion}
use Rattle.numerals.specs.Numbers.{SevenDigits}
use Rattle.prefix.specs.Prefix.{items}
use Rattle.prefix.specs.declared.Prefix.{Prefix}
use Rattle.table.specs.declared.entry.Entry.{Entry}
use Rattle.table.specs.declared.entry.Entry.TheVariants.{Expected}
use Rattle.forms.specs.Forms.{entry_text, EntryLawful, listed}
use Rattle.forms.specs.declared.fault.NotAForm.{NotAForm}

-- a byte of a word: neither a space nor a closing bracket
abbrev pub OfWord : ℕ → Type 0
OfWord c = (c ≢ 32) × (c ≢ 41)

-- a word can end before this text
abbrev pub Ends : List ℕ → Type 0
Ends [] = ⊥
Ends (c ∷ rest) = (c ≡ 32) ⊎ (c ≡ 41)

-- a text is the mark and what follows it, or is not
abbrev pub Follows : List ℕ → List ℕ → Result (Bor (List ℕ)) NotAForm → Type 0
Follows mark text r = MatchResult r (λ rest. text ≡ mark ++ rest.now) (λ _. (rest : List ℕ) → text ≢ mark ++ rest)

-- a text is a word and what follows it, or is not
abbrev pub CutsWord : List ℕ → Result (Bor (List ℕ) × Bor (List ℕ)) NotAForm → Type 0
CutsWord text r =
    MatchResult r (λ p. (text ≡ p.0.now ++ p.1.now) × AllByRecursion OfWord p.0.now × Ends p.1.now)
    (λ _. (w rest : List ℕ) → AllByRecursion OfWord w → Ends rest → text ≢ w ++ rest)

-- a text is what is written of some lawful x, where a word can end, and what follows, or is not
abbrev pub Takes : {X : Type 0} → (X → List ℕ) → (X → Type 0) → List ℕ → Result (X × Bor (List ℕ)) NotAForm → Type 0
Takes {X} write lawful text r =
    MatchResult r (λ p. (text ≡ write p.0 ++ p.1.now) × lawful p.0 × Ends p.1.now)
    (λ _. (x : X) (rest : List ℕ) → lawful x → Ends rest → text ≢ write x ++ rest)

-- a text is a number, the mark and what follows, or is not
abbrev pub TakesNumber : List ℕ → List ℕ → Result (ℤ × Bor (List ℕ)) NotAForm → Type 0
TakesNumber mark text r =
    MatchResult r (λ p. (text ≡ signed_decimal p.0 ++ (mark ++ p.1.now)) × SevenDigits p.0)
    (λ _. (n : ℤ) (rest : List ℕ) → SevenDigits n → text ≢ signed_decimal n ++ (mark ++ rest))

-- a text is two numbers in brackets and what follows them, or is not
abbrev pub TakesPair : List ℕ → Result (Entry × Bor (List ℕ)) NotAForm → Type 0
TakesPair text r =
    MatchResult r (λ p. (text ≡ entry_text p.0 ++ p.1.now) × EntryLawful p.0)
    (λ _. (first second : ℤ) (rest : List ℕ) → SevenDigits first → SevenDigits second → text ≢ entry_text (Expected first second) ++ rest)

-- a piece stands at the front of a text in one way only, if a word can end after it
abbrev pub Told : {X : Type 0} → (X → List ℕ) → (X → Type 0) → Type 0
Told {X} write lawful =
    (x y : X) (r s : List ℕ) → lawful x → lawful y → Ends r → Ends s → write x ++ r ≡ write y ++ s → (x ≡ y) × (r ≡ s)

-- a text is a list of lawful pieces to the end of the line, of which the first are kept, as many as there is room for; or is no such list
pub record Kept {X : Type 0} (write : X → List ℕ) (lawful : X → Type 0) (room : ℕ) (text : List ℕ) (kept : List X) : Type 0 where
  pub pieces : List X
  pub text_is : text ≡ listed write pieces
  pub all_lawful : AllByRecursion lawful pieces
  pub some : 1 ≤ length pieces
  pub front : kept ≡ take room pieces

abbrev pub TakesList : {X : Type 0} → (X → List ℕ) → (X → Type 0) → (room : ℕ) → List ℕ → Result (Prefix X room) NotAForm → Type 0
TakesList {X} write lawful room text r =
    MatchResult r (λ kept. Kept write lawful room text (items kept))
    (λ _. (xs : List X) → AllByRecursion lawful xs → 1 ≤ length xs → text ≢ listed write xs)
