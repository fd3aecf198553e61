-- The numbers of a burst text: which there are, and what a reader of one answers.
use Rattle.std.specs.Prelude.{◌≡◌, ℕ, ◌-◌, ◌^◌, ◌<◌, List, length, take, drop, ℤ, decimal, Result, MatchResult, ◌≢◌, unsigned_abs}
use Rattle.std.specs.Fmt.{signed_decimal}

-- what stands after the first byte of a text
abbrev pub after_first : List ℕ → List ℕ
after_first text = take (length text - 1) (drop 1 text)

-- a number of a text has at most seven digits
abbrev pub SevenDigits : ℤ → Type 0
SevenDigits z = unsigned_abs z < 10 ^ 7

-- a text without a sign is what is written of the number answered, or of none of at most seven digits
abbrev pub ReadsDigits : {E : Type 0} → List ℕ → Result ℕ E → Type 0
ReadsDigits text r = MatchResult r (λ n. (text ≡ decimal n) × (n < 10 ^ 7)) (λ _. (n : ℕ) → n < 10 ^ 7 → text ≢ decimal n)

-- a text is what is written of the number answered, or of none of at most seven digits
abbrev pub ReadsNumber : {E : Type 0} → List ℕ → Result ℤ E → Type 0
ReadsNumber text r = MatchResult r (λ z. (text ≡ signed_decimal z) × SevenDigits z) (λ _. (z : ℤ) → SevenDigits z → text ≢ signed_decimal z)
