-- A text of digits, read from the left, and the texts that no number is written as.
use Rattle.std.proofs.Common.{◌≡◌, ℕ, suc, ◌+◌, ◌-◌, ◌*◌, ◌^◌, ◌<◌, ◌≤◌, List, [], ◌∷◌, length, get_or, take, drop, ℤ, pos, negsuc, decimal, sym, refl, ap, ◌∙◌, subst, inl, inr, arith, length-take}
use lib.Signed.{mag}
use Rattle.std.specs.Str.Parse.{AllDigits, digits_value}
use Rattle.std.specs.Int.{IsInRange}
use Rattle.std.specs.Char.{digit_value}
use Rattle.std.specs.Fmt.{signed_decimal}
use Rattle.std.specs.List.{AllByRecursion}
use Rattle.std.proofs.lemmas.Int.Digits.{digits_value_more, digits_more}
use Rattle.std.proofs.ByRecursion.{All-from_get_or}
use Rattle.std.proofs.lemmas.Str.{digit_value_digit}
use Rattle.std.proofs.lemmas.Bool.{cases_eq}
use Rattle.std.proofs.lemmas.List.{take_all}
use Rattle.std.proofs.lemmas.Str.Parse.{IsNumeralModel, digits_value_short, digit_at}
use Rattle.std.proofs.lemmas.Fmt.{decimal-digits_value, digits_decimal, decimal_nonempty, first_decimal, length-decimal-le, decimal_digit, decimal_injective, signed_decimal_injective}
use Rattle.numerals.specs.Numbers.{after_first, SevenDigits}

own : IsNumeralModel (AllDigits 10) (digits_value 10)
own = record { to = λ ds p. p; from = λ ds p. p; same = λ ds p. refl }

-- what has been read of a text after some of its bytes
pub record ReadTo (text : List ℕ) (i n : ℕ) : Type 0 where
  pub digits : AllDigits 10 (take i text)
  pub sum : n ≡ digits_value 10 (take i text)

pub one_more_digit :
    (text : List ℕ) (i n c : ℕ) → ReadTo text i n → i < length text → c ≡ get_or text i 0 → IsInRange 48 57 c → ReadTo text (i + 1) (n * 10 + (c - 48))
one_more_digit text i n c r lt e d =
    let is : digit_value (get_or text i 0) + 48 ≡ get_or text i 0 = digit_value_digit (get_or text i 0) (subst (IsInRange 48 57) e d) in
    record {
      digits = digits_more 10 text i lt r.digits (omega (arith, is));
      sum = omega (arith, r.sum, is, digits_value_more 10 text i lt);
    }

pub six_digits : (text : List ℕ) (i n : ℕ) → ReadTo text i n → i ≤ 6 → n < 1000000
six_digits text i n r h = omega (arith, r.sum, digits_value_short own (take i text) 6 r.digits (simp length-take (omega arith)))

pub all_digits :
    (text : List ℕ) (n : ℕ) → AllDigits 10 text → n ≡ digits_value 10 text → 0 < length text → length text ≤ 7 → (get_or text 0 0 ≡ 48 → length text ≡ 1)
    → (text ≡ decimal n) × (n < 10 ^ 7)
all_digits text n p e some short lead =
    let small : digits_value 10 text < 10 ^ 7 = digits_value_short own text 7 p short in
    (sym (ap decimal e ∙ decimal-digits_value own text p some lead (omega arith)), omega arith)

-- the four ways in which a text is not that of a number without a sign
pub not_empty : (text : List ℕ) → length text ≡ 0 → (n : ℕ) → n < 10 ^ 7 → text ≡ decimal n → ⊥
not_empty text z n small e = omega (arith, ap length e, decimal_nonempty n (omega arith))

pub not_long : (text : List ℕ) → 7 < length text → (n : ℕ) → n < 10 ^ 7 → text ≡ decimal n → ⊥
not_long text z n small e = omega (arith, ap length e, length-decimal-le 7 n (omega arith) small (omega arith))

pub no_zero_first : (text : List ℕ) → get_or text 0 0 ≡ 48 → 1 < length text → (n : ℕ) → n < 10 ^ 7 → text ≡ decimal n → ⊥
no_zero_first text z long n small e =
    elim (cases_eq n 0) [
      | inl is0 ↦ omega (arith, ap length (e ∙ ap decimal is0 ∙ decimal_digit 0 (omega arith)))
      | inr ne ↦ omega (arith, ap (λ l. get_or l 0 0) e, first_decimal n (omega arith) (omega arith))
    ]

pub only_digits : (text : List ℕ) (i : ℕ) → i < length text → (IsInRange 48 57 (get_or text i 0) → ⊥) → (n : ℕ) → n < 10 ^ 7 → text ≡ decimal n → ⊥
only_digits text i lt no_digit n small e =
    let all : AllDigits 10 text = subst (AllDigits 10) (sym e) (digits_decimal own n (omega arith)) in
    no_digit (digit_at text i all lt)

-- a text that begins with a minus
pub after_minus : (text rest : List ℕ) → 1 ≤ length text → get_or text 0 0 ≡ 45 → rest ≡ after_first text → text ≡ 45 ∷ rest
after_minus [] rest h e f = absurd (omega arith)
after_minus (x ∷ xs) rest h e f = ap (λ y. y ∷ xs) e ∙ ap (λ l. 45 ∷ l) (sym (f ∙ take_all (length (x ∷ xs) - 1) xs (omega arith)))

-- after a minus
pub no_minus_zero : (rest : List ℕ) → rest ≡ decimal 0 → (n : ℕ) → n < 10 ^ 7 → 0 < n → rest ≡ decimal n → ⊥
no_minus_zero rest z n h p e = omega (arith, decimal_injective 0 n (omega arith) (omega arith) (sym z ∙ e))

first_no_minus : (n : ℕ) → n < 10 ^ 7 → get_or (decimal n) 0 0 ≡ 45 → ⊥
first_no_minus n h e = omega (arith, (digit_at (decimal n) 0 (digits_decimal own n (omega arith)) (decimal_nonempty n (omega arith))).0)

pub minus_none :
    (text rest : List ℕ) → text ≡ 45 ∷ rest → ((n : ℕ) → n < 10 ^ 7 → 0 < n → rest ≡ decimal n → ⊥) → (z : ℤ) → SevenDigits z → text ≡ signed_decimal z → ⊥
minus_none text rest e none (pos n) h f = first_no_minus n h (ap (λ l. get_or l 0 0) (sym f ∙ e))
minus_none text rest e none (negsuc n) h f = none (suc n) h (omega arith) (ap (drop 1) (sym e ∙ f))

-- what holds of every digit and of the minus holds of every byte of a number
all_of_decimal : (P : ℕ → Type 0) → ((c : ℕ) → IsInRange 48 57 c → P c) → (n : ℕ) → n < 2 ^ 64 → AllByRecursion P (decimal n)
all_of_decimal P each n h =
    All-from_get_or P (decimal n) 0 (λ i l. each (get_or (decimal n) i 0) (digit_at (decimal n) i (digits_decimal own n h) l))

pub all_of_number : (P : ℕ → Type 0) → ((c : ℕ) → IsInRange 48 57 c → P c) → P 45 → (z : ℤ) → SevenDigits z → AllByRecursion P (signed_decimal z)
all_of_number P each minus (pos n) h = all_of_decimal P each n (omega arith)
all_of_number P each minus (negsuc n) h = (minus, all_of_decimal P each (suc n) (omega arith))

magnitude : (z : ℤ) → SevenDigits z → mag z < 2 ^ 63
magnitude (pos n) h = omega arith
magnitude (negsuc n) h = omega arith

-- no two numbers have one text
pub same_number : (y z : ℤ) → SevenDigits y → SevenDigits z → signed_decimal y ≡ signed_decimal z → y ≡ z
same_number y z fy fz e = signed_decimal_injective y z (magnitude y fy) (magnitude z fz) e
