use Rattle.std.proofs.Common.{◌++◌, sym, ◌∙◌}
use Rattle.std.proofs.lemmas.Result.{err_from_is_err_and}
use Rattle.forms.specs.Telling.{number_told, ends_mark}
use Rattle.forms.proofs.number.number_then.Goals as goal

pub returns-in_err-rest : goal.returns-in_err-rest
returns-in_err-rest c =
    let p = err_from_is_err_and c.from_residual-in_err-rest.result c.from_residual-in_err-rest.ensures.1 in
    let mark = c.args.mark.now in
    let read = c.in_ok-number.ensures in
    rw p.1 (λ n rest lawful e.
    c.in_err-rest.ensures rest
    (number_told c.in_ok-number.number n c.in_ok-number.at_mark.now (mark ++ rest) read.1 lawful read.2 (ends_mark mark rest c.requires) (sym read.0 ∙ e)).1)
