use Rattle.std.proofs.Common.{sym, ap, ◌∙◌, w32, SFits, rules}
use Rattle.std.proofs.lemmas.Result.{err_from_is_err_and}
use Rattle.std.proofs.lemmas.Int.{to_z-of_z}
use Rattle.forms.specs.Lines.{said}
use Rattle.kinds.specs.Tabled.{spelled, refused_by_lem}
use Rattle.kinds.proofs.table_kind.TableSpelled.from_line.Goals as goal

pub returns-in_err-load-in-Table : goal.returns-in_err-load-in-Table
returns-in_err-load-in-Table c =
    let p = err_from_is_err_and c.from_residual.result c.from_residual.ensures.1 in
    let line = c.in-Table.line in
    let loud : SFits w32 line.noise = search rules in
    let far : SFits w32 line.memory = search rules in
    rw (p.1, p.2) (λ f lawful e.
    refused_by_lem line.noise line.memory _ _ _ _ f _ (ap said (sym c.in-Table.is) ∙ e) (to_z-of_z w32 line.noise loud) (to_z-of_z w32 line.memory far) c.entries.ensures c.in_err-load-in-Table.ensures.answer)

pub returns-in_ok-load-in-Table : goal.returns-in_ok-load-in-Table
returns-in_ok-load-in-Table c =
    let line = c.in-Table.line in
    let loud : SFits w32 line.noise = search rules in
    let far : SFits w32 line.memory = search rules in
    let stands = c.in_ok-load-in-Table.ensures.stands in
    λ f lawful e.
    spelled line.noise line.memory _ _ _ c.entries.result.now f c.load.new.self (ap said (sym c.in-Table.is) ∙ e) (to_z-of_z w32 line.noise loud) (to_z-of_z w32 line.memory far) c.entries.ensures c.in_ok-load-in-Table.ensures.answer stands.0 stands.1 stands.2
