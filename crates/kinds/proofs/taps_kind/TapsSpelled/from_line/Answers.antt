use Rattle.std.proofs.Common.{sym, ap, ◌∙◌, w32, SFits, rules}
use Rattle.std.proofs.lemmas.Result.{err_from_is_err_and}
use Rattle.std.proofs.lemmas.Int.{to_z-of_z}
use Rattle.forms.specs.Lines.{said}
use Rattle.kinds.specs.Tapped.{spelled, refused_by_lem}
use Rattle.kinds.proofs.taps_kind.TapsSpelled.from_line.Goals as goal

pub returns-in_err-load-in-Taps : goal.returns-in_err-load-in-Taps
returns-in_err-load-in-Taps c =
    let p = err_from_is_err_and c.from_residual.result c.from_residual.ensures.1 in
    let line = c.in-Taps.line in
    let fits : SFits w32 line.noise = search rules in
    rw (p.1, p.2) (λ f lawful e. refused_by_lem line.noise _ _ _ f _ (ap said (sym c.in-Taps.is) ∙ e) (to_z-of_z w32 line.noise fits) c.taps.ensures c.in_err-load-in-Taps.ensures.answer)

pub returns-in_ok-load-in-Taps : goal.returns-in_ok-load-in-Taps
returns-in_ok-load-in-Taps c =
    let line = c.in-Taps.line in
    let fits : SFits w32 line.noise = search rules in
    let stands = c.in_ok-load-in-Taps.ensures.stands in
    λ f lawful e.
    spelled line.noise _ _ c.taps.result.now f c.load.new.self (ap said (sym c.in-Taps.is) ∙ e) (to_z-of_z w32 line.noise fits) c.taps.ensures c.in_ok-load-in-Taps.ensures.answer stands.0 stands.1
