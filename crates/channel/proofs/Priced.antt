-- What a cost that is a number tells of the sample and the window.
use Rattle.std.proofs.Common.{◌≡◌, ℕ, Bool, true, false, cond, ◌&&◌, ltb, refl, arith}
use Rattle.cost.specs.declared.Cost.TheVariants.{Eighths, Barred}
use Rattle.channel.specs.declared.sample.Sample.{Sample}
use Rattle.channel.specs.Meaning.{Meaning, windows, taken, cost_of}

told : (a b c : Bool) (p n : ℕ) → cond (a && b) (cond c Barred (Eighths p)) Barred ≡ Eighths n → (a ≡ true) × (p ≡ n)
told true true false p n is = (refl, cc)
told true true true p n is = let no : ◌≡◌ {A = ℕ} 0 1 = cc in absurd (omega arith)
told true false c p n is = let no : ◌≡◌ {A = ℕ} 0 1 = cc in absurd (omega arith)
told false b c p n is = let no : ◌≡◌ {A = ℕ} 0 1 = cc in absurd (omega arith)

-- the sample is taken, and the number is its price
pub priced : (m : Meaning) (z : Sample) (w n : ℕ) → cost_of m z w ≡ Eighths n → (taken m z ≡ true) × (m.price z w ≡ n)
priced m z w n is = told (taken m z) (ltb w (windows m)) (m.bars w) (m.price z w) n is
