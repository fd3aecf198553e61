use Rattle.std.proofs.Common.{◌++◌, codes, sym, refl, ◌∙◌, inl}
use Rattle.std.specs.Fmt.{signed_decimal}
use Rattle.std.proofs.lemmas.List.{append_cancel_left}
use Rattle.std.proofs.lemmas.Result.{err_from_is_err_and}
use Rattle.forms.specs.Telling.{kept, pair_text, past_number, whole_pair}
use Rattle.forms.proofs.pieces.read_expected.Goals as goal

pub returns-in_err-first : goal.returns-in_err-first
returns-in_err-first c =
    let p = err_from_is_err_and c.from_residual-in_err-first.result c.from_residual-in_err-first.ensures.1 in
    let opened = c.in_ok-at_first.ensures in
    rw p.1 (λ a b rest fa fb e.
    c.in_err-first.ensures a (signed_decimal b ++ (codes ")" ++ rest)) fa (append_cancel_left (codes "(") _ _ (sym opened ∙ e ∙ pair_text a b rest)))

pub returns-in_err-second : goal.returns-in_err-second
returns-in_err-second c =
    let p = err_from_is_err_and c.from_residual-in_err-second.result c.from_residual-in_err-second.ensures.1 in
    let opened = c.in_ok-at_first.ensures in
    rw p.1 (λ a b rest fa fb e.
    c.in_err-second.ensures b rest fb
    (past_number c.in_ok-first.first a (codes " ") _ _ (signed_decimal b ++ (codes ")" ++ rest)) (inl refl) (inl refl) c.in_ok-first.ensures fa
    (append_cancel_left (codes "(") _ _ (sym opened ∙ e ∙ pair_text a b rest))).1)

pub returns : goal.returns
returns c =
    let a = c.in_ok-first.first in
    let b = c.in_ok-second.second in
    let first = c.in_ok-first.ensures in
    let second = c.in_ok-second.ensures in
    simp (kept a first.1, kept b second.1)
    (whole_pair _ _ _ _ a b c.in_ok-at_first.ensures first.0 second.0, (first.1, second.1))
