-- What stands in the cells once as many elements are written as there is room for.
use Rattle.std.proofs.Common.{◌≡◌, ℕ, ◌-◌, ◌≤◌, List, ◌++◌, length, take, min, sym, ap, ◌∙◌, arith}
use Rattle.std.proofs.lemmas.List.{take_min}
use Rattle.std.proofs.Math.Seq.{take-append-add}

pub extended : {X : Type 0} (held more written : List X) (N n : ℕ) → length held ≤ N → n ≡ min (N - length held) (length more) → written ≡ take n more
    → held ++ written ≡ take N (held ++ more)
extended held more written N n few is wrote =
    ap (λ ys. held ++ ys) (wrote ∙ ap (λ k. take k more) is ∙ take_min (N - length held) more)
    ∙ sym (take-append-add held more (N - length held))
    ∙ ap (λ k. take k (held ++ more)) (omega (arith, few))
