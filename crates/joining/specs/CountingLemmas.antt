-- The laws of the count joining: cutting before a sum or a product makes no difference to what is cut after it.
use Rattle.std.specs.Prelude.{◌≡◌, ℕ, zero, suc, ◌+◌, ◌*◌, ◌≤◌, min}
use Rattle.std.proofs.Common.{sym, ap, ◌∙◌, inl, inr, mul_assoc, mul_comm, mul-add, mul-zero, mul-le-mul, le_refl, arith}
use mathlib.Core.HLevel.{is_prop→PathP}
use Rattle.std.proofs.Math.Bridge.{le_prop}
use Rattle.std.proofs.lemmas.Bool.{cases_lt}
use Rattle.joining.specs.Laws.{Laws}
use Rattle.joining.specs.Counting.{count_operations}
use Rattle.joining.specs.declared.Count.{Count}

-- elements with the same number are the same
pub same_count : (x y : Count) → x.number ≡ y.number → x ≡ y
same_count x y e j = record { number = e j; fits = is_prop→PathP (λ k. e k ≤ 65535) (λ k. le_prop) x.fits y.fits j }

abbrev cut : ℕ → ℕ
cut n = min n 65535

-- a factor may be cut
cut_times : (n m : ℕ) → cut (cut n * m) ≡ cut (n * m)
cut_times n zero = ap cut (mul-zero (cut n) ∙ sym (mul-zero n))
cut_times n (suc m) =
    elim (cases_lt n 65535) [
      | inl small ↦ let e : cut n ≡ n = omega arith in ap (λ (k : ℕ). cut (k * suc m)) e
      | inr large ↦
          let e : cut n ≡ 65535 = omega arith in
          let whole : 65535 ≤ n * suc m = let h : n * 1 ≤ n * suc m = mul-le-mul (le_refl n) (omega arith) in omega arith in
          ap (λ (k : ℕ). cut (k * suc m)) e ∙ omega arith
    ]

times_cut : (m n : ℕ) → cut (m * cut n) ≡ cut (m * n)
times_cut m n = ap cut (mul_comm m (cut n)) ∙ cut_times n m ∙ ap cut (mul_comm n m)

times_assoc : (x y z : ℕ) → cut (cut (x * y) * z) ≡ cut (x * cut (y * z))
times_assoc x y z = cut_times (x * y) z ∙ ap cut (mul_assoc x y z) ∙ sym (times_cut x (y * z))

times_plus : (x y z : ℕ) → cut (x * cut (y + z)) ≡ cut (cut (x * y) + cut (x * z))
times_plus x y z =
    let spread : x * (y + z) ≡ x * y + x * z = mul-add x y z in
    times_cut x (y + z) ∙ ap cut spread ∙ omega arith

plus_times : (x y z : ℕ) → cut (cut (x + y) * z) ≡ cut (cut (x * z) + cut (y * z))
plus_times x y z =
    ap cut (mul_comm (cut (x + y)) z) ∙ times_plus z x y
    ∙ ap (λ (k : ℕ). cut (cut k + cut (z * y))) (mul_comm z x)
    ∙ ap (λ (k : ℕ). cut (cut (x * z) + cut k)) (mul_comm z y)

pub count_laws : Laws count_operations
count_laws = record {
  join_assoc = λ x y z. same_count _ _ (omega arith);
  join_comm = λ x y. same_count _ _ (omega arith);
  join_none = λ x. same_count _ _ (omega arith);
  follow_assoc = λ x y z. same_count _ _ (times_assoc x.number y.number z.number);
  follow_unit = λ x. same_count _ _ (omega arith);
  unit_follow = λ x. same_count _ _ (omega arith);
  follow_none = λ x. same_count _ _ (omega arith);
  none_follow = λ x. same_count _ _ (omega arith);
  follow_join = λ x y z. same_count _ _ (times_plus x.number y.number z.number);
  join_follow = λ x y z. same_count _ _ (plus_times x.number y.number z.number);
}
