-- Symbols of a window as digits: the newest symbol is the lowest digit, and those before it are the digits of the quotient.
use Rattle.std.proofs.Common.{◌≡◌, ℕ, ◌+◌, ◌*◌, ◌/◌, ◌%◌, ◌^◌, ◌<◌, sym, ap, ◌∙◌, add-one, arith}
use native.Mathlib.Nat.{pow-succ', div-div-eq-div-mul}
use Rattle.channel.specs.Windows.{symbol_at}

-- one place further back is as far back in the quotient
pub one_back : (m w i : ℕ) → symbol_at m w (i + 1) ≡ symbol_at m (w / m) i
one_back m w i =
    ap (λ (d : ℕ). w / d % m) (ap (λ (e : ℕ). m ^ e) (add-one i) ∙ pow-succ' m i)
    ∙ sym (ap (λ (q : ℕ). q % m) (div-div-eq-div-mul w m (m ^ i)))

-- of two symbol values: the newest symbol, and the number of those before it
pub newest : (a h : ℕ) → a < 2 → symbol_at 2 (a + 2 * h) 0 ≡ a
newest a h small = omega arith

pub half : (a h : ℕ) → a < 2 → (a + 2 * h) / 2 ≡ h
half a h small = omega arith
