-- The columns beside an index of a list of columns, in a list that is written up to the index, or from it on.
use Rattle.std.proofs.Common.{◌≡◌, ℕ, ◌+◌, ◌-◌, ◌*◌, ◌/◌, ◌<◌, ◌≤◌, List, length, ap, subst, le_refl, mul-le-mul, arith}
use Rattle.std.proofs.lemmas.Nat.{div_below, mod_below, div-add-mod'}
use Rattle.cost.specs.declared.Cost.{Cost}
use Rattle.channel.specs.Meaning.{Meaning}
use Rattle.joining.specs.Laws.{Operations}
use Rattle.trellis.specs.Lists.{Column, Holds}
use Rattle.trellis.proofs.Lists.{holds_column}
use Rattle.sweep.specs.Burst.{Burst, states, column_elements, HasColumn, HasElements}

module _ {J : Type 0} (blank : J) (element : ℕ → ℕ → J) (list : List J) (i n : ℕ) (some : 1 ≤ n) where
  before_lem : (i / n ≡ 0 → ⊥) → Holds blank list n 0 i element → Column blank list n (i / n - 1) (element (i / n - 1))
  before_lem later holds =
      let same : (i / n - 1 + 1) * n ≡ i / n * n = ap (λ (k : ℕ). k * n) (omega (arith, later)) in
      holds_column blank n element list 0 i (i / n - 1) holds (omega arith) (omega (arith, same, div-add-mod' i n))

  after_lem : (last : ℕ) → (i / n ≡ last → ⊥) → i < (last + 1) * n
      → Holds blank list n (i + 1) ((last + 1) * n) element → Column blank list n (i / n + 1) (element (i / n + 1))
  after_lem last before within holds =
      let column : i / n < last + 1 = div_below i n (last + 1) some within in
      let ends : (i / n + 1 + 1) * n ≤ (last + 1) * n = mul-le-mul (omega (arith, before, column)) (le_refl n) in
      holds_column blank n element list (i + 1) ((last + 1) * n) (i / n + 1) holds (omega (arith, mod_below i n some, div-add-mod' i n)) ends

module _ {J C : Type 0} (o : Operations J) (worth : Cost → J) (meaning : C → Meaning) (b : Burst C) (list : List J) (element : ℕ → ℕ → J) (i n : ℕ) where
  -- the column before that of the index
  pub column_before : HasElements o worth meaning b list element 0 i → n ≡ states meaning b → 1 ≤ n → (i / n ≡ 0 → ⊥)
      → HasColumn o worth meaning b list element (i / n - 1)
  column_before has is some later =
      let P : ℕ → Type 0 = λ m. Holds o.none list m 0 i element → Column o.none list m (i / n - 1) (element (i / n - 1)) in
      record { room = has.room; written = subst P is (before_lem o.none element list i n some later) has.written }

  -- the column after that of the index
  pub column_after : HasElements o worth meaning b list element (i + 1) (column_elements meaning b) → n ≡ states meaning b → 1 ≤ n
      → (i / n ≡ length b.places → ⊥) → i < column_elements meaning b → HasColumn o worth meaning b list element (i / n + 1)
  column_after has is some before within =
      let last : ℕ = length b.places in
      let P : ℕ → Type 0 = λ m. i < (last + 1) * m → Holds o.none list m (i + 1) ((last + 1) * m) element → Column o.none list m (i / n + 1) (element (i / n + 1)) in
      record { room = has.room; written = subst P is (after_lem o.none element list i n some last before) within has.written }
