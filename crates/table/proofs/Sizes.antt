-- What is known of a memory that is allowed, and of the number of its windows.
use Rattle.std.proofs.Common.{◌≡◌, ℕ, ◌^◌, ◌<◌, ◌≤◌, true, ℤ, pos, negsuc, nat_abs, refl, arith}
use native.Mathlib.Nat.{pow-le-pow_right}
use Rattle.std.proofs.lemmas.Bool.Decides.{nat_tests}
use Rattle.table.specs.Rule.{allowed_size}

pub few_windows : (m : ℕ) → m ≤ 4 → 4 ^ m ≤ 256
few_windows m few = let some : 0 < 4 = omega arith in pow-le-pow_right {n = 4} some {i = m} {j = 4} few

pub record Allowed (memory : ℤ) (count : ℕ) : Type 0 where
  pub some : 1 ≤ nat_abs memory
  pub few : nat_abs memory ≤ 4
  pub sign : pos (nat_abs memory) ≡ memory
  pub whole : count ≡ 4 ^ nat_abs memory

pub allowed : (memory : ℤ) (count : ℕ) → allowed_size memory count ≡ true → Allowed memory count
allowed (pos m) count is = record {
  some = grind (arith, nat_tests);
  few = grind (arith, nat_tests);
  sign = refl;
  whole = grind (arith, nat_tests);
}
allowed (negsuc m) count is = let no : ◌≡◌ {A = ℕ} 0 1 = cc in absurd (omega arith)
