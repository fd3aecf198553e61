-- How large the alphabet, the memory and the number of windows of a lawful meaning are.
use Rattle.std.proofs.Common.{◌≡◌, ℕ, ◌^◌, ◌<◌, ◌≤◌, inl, inr, arith, ap₂}
use native.Mathlib.Nat.{pow-le-pow_left}
use lib.Pow.{pow-lt}
use Rattle.std.proofs.lemmas.Bool.{cases_lt}
use Rattle.channel.specs.Meaning.{Meaning, Lawful, windows}

pub two_symbols : (m : Meaning) → Lawful m → 2 ≤ m.symbols
two_symbols m lawful = elim lawful.two_or_four [ inl two ↦ omega arith | inr four ↦ omega arith ]

pub four_symbols : (m : Meaning) → Lawful m → m.symbols ≤ 4
four_symbols m lawful = elim lawful.two_or_four [ inl two ↦ omega arith | inr four ↦ omega arith ]

-- a memory is at most eight
pub short_memory : (m : Meaning) → Lawful m → m.memory ≤ 8
short_memory m lawful =
    elim (cases_lt 8 m.memory) [
      | inl long ↦
          let more : 2 ^ 8 < 2 ^ m.memory = pow-lt long in
          let less : 2 ^ m.memory ≤ m.symbols ^ m.memory = pow-le-pow_left (two_symbols m lawful) m.memory in
          absurd (omega (arith, lawful.few_windows))
      | inr short ↦ short
    ]

-- the number of windows, from the alphabet and the memory
pub windows_are : (m : Meaning) (symbols memory : ℕ) → symbols ≡ m.symbols → memory ≡ m.memory → symbols ^ memory ≡ windows m
windows_are m symbols memory s l = ap₂ (λ (a b : ℕ). a ^ b) s l
