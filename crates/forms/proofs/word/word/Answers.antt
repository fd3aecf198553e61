use Rattle.std.proofs.Common.{sym, ◌∙◌}
use Rattle.std.proofs.lemmas.Result.{err_from_is_err_and}
use Rattle.forms.proofs.Options.{some_of_ok, none_of_err}
use Rattle.forms.specs.Words.{cut_at, no_cut, all_of_word}
use Rattle.forms.proofs.word.word.Goals as goal

pub returns-in_err-end : goal.returns-in_err-end
returns-in_err-end c =
    let p = err_from_is_err_and c.from_residual.result c.from_residual.ensures.1 in
    let none = none_of_err c.end_of_word.result _ _ (sym c.ok_or.ensures.value ∙ c.in_err-end.was) in
    rw p.1 (no_cut c.args.text.now (all_of_word c.args.text.now (sym c.end_of_word.ensures ∙ none)))

pub returns : goal.returns
returns c =
    let some = some_of_ok c.end_of_word.result _ _ (sym c.ok_or.ensures.value ∙ c.in_ok-end.was) in
    rw (c.split_at.ensures.front, c.split_at.ensures.back) (cut_at c.args.text.now c.in_ok-end.end (sym c.end_of_word.ensures ∙ some))
