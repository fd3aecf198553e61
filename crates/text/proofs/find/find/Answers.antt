use Rattle.std.proofs.Common.{[], ◌∷◌, Ok, Err, sym, subst}
use Rattle.std.proofs.lemmas.Result.{err_from_is_err_and}
use Rattle.text.specs.Kinds.{Found, ReadsHead}
use Rattle.text.proofs.Finding.{none_before, after_depth_lem, found_kind, found_depth, found_fault}
use Rattle.text.proofs.find.find.Goals as goal

pub returns-in_err-kind : goal.returns-in_err-kind
returns-in_err-kind c =
    let p = err_from_is_err_and c.from_residual.result c.from_residual.ensures.1 in
    rw (p.1, p.2) (found_fault _ _ _ _ [] c.in_err-kind.field-0.0 (none_before _) c.cut_line.ensures c.in_err-kind.ensures)

pub returns-in_err-kind-2 : goal.returns-in_err-kind-2
returns-in_err-kind-2 c =
    let p = err_from_is_err_and c.from_residual-in_err-kind-2.result c.from_residual-in_err-kind-2.ensures.1 in
    let d = after_depth_lem _ _ _ _ c.in_default.is c.cut_line.ensures c.in_ok-kind.ensures in
    rw (p.1, p.2) (found_fault _ _ _ _ (d.0 ∷ []) c.in_err-kind-2.field-0.0 d.1 c.cut_line-2.ensures c.in_err-kind-2.ensures)

pub returns-in-Some-2 : goal.returns-in-Some-2
returns-in-Some-2 c =
    let d = after_depth_lem _ _ _ _ c.in_default.is c.cut_line.ensures c.in_ok-kind.ensures in
    found_kind _ _ _ _ (d.0 ∷ []) c.in-Some-2.kind d.1 c.cut_line-2.ensures (subst (λ o. ReadsHead c.cut_line-2.result.0.now (Ok o)) c.in-Some-2.is c.in_ok-kind-2.ensures)

pub returns-in-None : goal.returns-in-None
returns-in-None c =
    let d = after_depth_lem _ _ _ _ c.in_default.is c.cut_line.ensures c.in_ok-kind.ensures in
    subst (λ e. Found c.args.text.now (Err e)) (sym c.at.ensures) (found_depth _ _ _ _ d.0 d.1 c.cut_line-2.ensures (subst (λ o. ReadsHead c.cut_line-2.result.0.now (Ok o)) c.in-None.is c.in_ok-kind-2.ensures))
