-- A list of columns whose front alone was written.
use Rattle.std.proofs.Common.{◌≡◌, ℕ, ◌-◌, ◌*◌, ◌≤◌, List, length, get_or, ◌++◌, take, drop, ap, ◌∙◌, arith, length-append, length-drop}
use Rattle.std.proofs.lemmas.List.{get_or_append_left, get_or-append_right, get_or-drop, length-take-le}
use Rattle.trellis.specs.Lists.{Holds, Filled}
use Rattle.trellis.proofs.Lists.{holds_all}

pub front_filled : {J : Type 0} (blank : J) (before front : List J) (columns width n i : ℕ) (element : ℕ → ℕ → J) → n ≡ columns * width → columns * width ≤ length before
    → length front ≡ length (take n before) → length (take n before) ≤ i → Holds blank front width 0 i element
    → Filled blank before (front ++ drop n before) columns width element
front_filled blank before front columns width n i element all room long done holds =
    let taken : length (take n before) ≡ n = length-take-le n before (omega arith) in
    holds_all blank width element before (front ++ drop n before) columns (omega (arith, length-append front (drop n before), length-drop n before))
    (λ k low high. get_or_append_left front (drop n before) blank k (omega arith) ∙ holds k low (omega arith))
    (λ k low. get_or-append_right front (drop n before) n k blank (omega arith) (omega arith)
    ∙ get_or-drop n before (k - n) blank ∙ ap (λ (j : ℕ). get_or before j blank) (omega arith))
