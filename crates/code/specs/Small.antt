-- What a sample in range costs at most.
use Rattle.std.specs.Prelude.{◌≡◌, ℕ, zero, suc, ◌+◌, ◌≤◌, Bool, true, false, ◌&&◌, ℤ, pos, negsuc, neg_ℤ, refl}
use Rattle.std.proofs.Common.{arith}
use Rattle.std.proofs.lemmas.Bool.Decides.{nat_tests}
use Rattle.std.proofs.lemmas.Int.{ints}
use Rattle.channel.specs.declared.sample.Sample.{Sample}
use Rattle.channel.specs.Samples.{between, in_range}
use Rattle.code.specs.Rule.{cost_of_bit}

small : (number : ℤ) (bit : ℕ) → between (neg_ℤ (pos 2048)) (pos 2047) number ≡ true → cost_of_bit number bit ≤ 2048
small (pos n) zero within = grind (arith, nat_tests, ints)
small (pos n) (suc b) within = grind (arith, nat_tests, ints)
small (negsuc n) zero within = grind (arith, nat_tests, ints)
small (negsuc n) (suc b) within = grind (arith, nat_tests, ints)

both : (a b : Bool) → (a && b && true) ≡ true → (a ≡ true) × (b ≡ true)
both true true all = (refl, refl)
both true false all = let no : ◌≡◌ {A = ℕ} 0 1 = cc in absurd (omega arith)
both false b all = let no : ◌≡◌ {A = ℕ} 0 1 = cc in absurd (omega arith)

-- both coded bits together
pub cheap : (z : Sample) (a b : ℕ) → (in_range z && true) ≡ true → cost_of_bit z.first a + cost_of_bit z.second b ≤ 4096
cheap z a b taken =
    let in-range = both (between (neg_ℤ (pos 2048)) (pos 2047) z.first) (between (neg_ℤ (pos 2048)) (pos 2047) z.second) taken in
    omega (arith, small z.first a in-range.0, small z.second b in-range.1)
