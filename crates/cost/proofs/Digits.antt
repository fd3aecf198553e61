-- The thousandths of eighths, filled up with zeros to three digits, and the text of a lean that they are part of.
use Rattle.std.proofs.Common.{◌≡◌, ℕ, zero, suc, ◌*◌, ◌<◌, ◌%◌, List, ◌∷◌, ◌++◌, ℤ, nat_abs, refl, ap, ap₂, ◌∙◌, arith}
use Rattle.std.specs.Prelude.{decimal}
use Rattle.std.specs.Fmt.{format_spec, styled_decimal, digits, padded_integral, char_count}
use Rattle.cost.specs.Leans.{three_digits, sign, whole, thousandths, lean_text}
use Rattle.cost.specs.declared.lean.Lean.TheVariants.{Eighths}

padded_digits : (n : ℕ) → n < 8 → styled_decimal (format_spec 32 0 4 3 18446744073709551615) (n * 125) ≡ three_digits (n * 125)
unfolding digits padded_integral char_count
padded_digits zero lt = refl
padded_digits (suc zero) lt = refl
padded_digits (suc (suc zero)) lt = refl
padded_digits (suc (suc (suc zero))) lt = refl
padded_digits (suc (suc (suc (suc zero)))) lt = refl
padded_digits (suc (suc (suc (suc (suc zero))))) lt = refl
padded_digits (suc (suc (suc (suc (suc (suc zero)))))) lt = refl
padded_digits (suc (suc (suc (suc (suc (suc (suc zero))))))) lt = refl
padded_digits (suc (suc (suc (suc (suc (suc (suc (suc n)))))))) lt = let no : ◌≡◌ {A = ℕ} 0 1 = omega (arith, lt) in absurd (omega arith)

-- the sign, the whole part and the thousandths of so many eighths
pub lean_is : (z : ℤ) (s digits : List ℕ) (w r : ℕ) → s ≡ sign z → w ≡ whole (nat_abs z) → r ≡ thousandths (nat_abs z)
    → digits ≡ styled_decimal (format_spec 32 0 4 3 18446744073709551615) r
    → s ++ (decimal w ++ (46 ∷ digits)) ≡ lean_text (Eighths z)
lean_is z s digits w r s_is w_is r_is is =
    let three : digits ≡ three_digits (thousandths (nat_abs z)) =
    is ∙ ap (styled_decimal (format_spec 32 0 4 3 18446744073709551615)) r_is ∙ padded_digits (nat_abs z % 8) (omega arith) in
    ap₂ (λ (a b : List ℕ). a ++ b) s_is (ap₂ (λ (n : ℕ) (b : List ℕ). decimal n ++ (46 ∷ b)) w_is three)
