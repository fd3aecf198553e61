-- Lists filled element by element, upwards or downwards.
use Rattle.std.proofs.Common.{◌≡◌, ℕ, ◌+◌, ◌*◌, ◌/◌, ◌%◌, ◌<◌, ◌≤◌, List, length, get_or, set, sym, ap, ◌∙◌, ap₂, inl, inr, le_refl, mul-le-mul, arith}
use Rattle.std.proofs.lemmas.List.{get_or-set_same, get_or-set_other}
use Rattle.std.proofs.lemmas.Nat.{div-mul-add, mod-mul-add}
use Rattle.std.proofs.lemmas.Bool.{cases_eq}
use Rattle.trellis.specs.Lists.{Column, Filled, Holds, Keeps}

-- an index in a column of many
pub index_lt : (k s w columns : ℕ) → k < columns → s < w → k * w + s < columns * w
index_lt k s w columns lk ls =
    let more : k + 1 ≤ columns = omega arith in
    let whole : (k + 1) * w ≤ columns * w = mul-le-mul more (le_refl w) in
    omega (arith, whole)

module _ {J : Type 0} (blank : J) (width : ℕ) (element : ℕ → ℕ → J) where
  pub holds_column : (list : List J) (from to k : ℕ) → Holds blank list width from to element → from ≤ k * width → (k + 1) * width ≤ to
      → Column blank list width k (element k)
  holds_column list from to k holds low high s ls =
      holds (k * width + s) (omega arith) (omega arith)
      ∙ ap₂ element (div-mul-add k width s ls) (mod-mul-add k width s ls)

  pub holds_all : (before after : List J) (columns : ℕ) → length after ≡ length before
      → Holds blank after width 0 (columns * width) element → Keeps blank before after (columns * width)
      → Filled blank before after columns width element
  holds_all before after columns long holds keeps = record {
    long = long;
    written = λ k lk s ls.
        holds (k * width + s) (omega arith) (index_lt k s width columns lk ls)
        ∙ ap₂ element (div-mul-add k width s ls) (mod-mul-add k width s ls);
    kept = keeps;
  }

  pub holds_up : (list : List J) (i : ℕ) (x : J) → i < length list → x ≡ element (i / width) (i % width)
      → Holds blank list width 0 i element → Holds blank (set list i x) width 0 (i + 1) element
  holds_up list i x within is holds j low high =
      elim (cases_eq j i) [
        | inl e ↦ ap (λ (n : ℕ). get_or (set list i x) n blank) e ∙ get_or-set_same list i x blank within ∙ is ∙ ap (λ (n : ℕ). element (n / width) (n % width)) (sym e)
        | inr other ↦ get_or-set_other list i j x blank other ∙ holds j low (omega arith)
      ]

  pub holds_down : (list : List J) (i to : ℕ) (x : J) → i < length list → x ≡ element (i / width) (i % width)
      → Holds blank list width (i + 1) to element → Holds blank (set list i x) width i to element
  holds_down list i to x within is holds j low high =
      elim (cases_eq j i) [
        | inl e ↦ ap (λ (n : ℕ). get_or (set list i x) n blank) e ∙ get_or-set_same list i x blank within ∙ is ∙ ap (λ (n : ℕ). element (n / width) (n % width)) (sym e)
        | inr other ↦ get_or-set_other list i j x blank other ∙ holds j (omega arith) high
      ]

pub keeps_set : {J : Type 0} (blank : J) (before list : List J) (i from : ℕ) (x : J) → i < from
    → Keeps blank before list from → Keeps blank before (set list i x) from
keeps_set blank before list i from x lt keeps j low =
    get_or-set_other list i j x blank (λ e. omega arith) ∙ keeps j low
