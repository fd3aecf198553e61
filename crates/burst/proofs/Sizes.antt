-- How many histories a lawful meaning has.
use Rattle.std.proofs.Common.{◌≡◌, ℕ, suc, ◌-◌, ◌*◌, ◌^◌, ◌≤◌, ap, ◌∙◌, mul-le-mul_right, arith}
use native.Mathlib.Nat.{pow-succ', one-le-pow}
use Rattle.channel.specs.Meaning.{Meaning, Lawful, windows}
use Rattle.channel.proofs.Sizes.{two_symbols}
use Rattle.burst.specs.Histories.{histories}

-- each history makes M windows
pub windows_of_histories : (m : Meaning) → Lawful m → windows m ≡ m.symbols * histories m
windows_of_histories m lawful =
    let same : m.memory ≡ suc (m.memory - 1) = omega (arith, lawful.remembers) in
    ap (λ (l : ℕ). m.symbols ^ l) same ∙ pow-succ' m.symbols (m.memory - 1)

pub few_histories : (m : Meaning) → Lawful m → histories m ≤ 128
few_histories m lawful =
    let twice : 2 * histories m ≤ m.symbols * histories m = mul-le-mul_right (histories m) (two_symbols m lawful) in
    omega (arith, windows_of_histories m lawful, lawful.few_windows)

pub some_histories : (m : Meaning) → Lawful m → 1 ≤ histories m
some_histories m lawful =
    one-le-pow (m.memory - 1) m.symbols (omega (arith, two_symbols m lawful))
