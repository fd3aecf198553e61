use Rattle.std.proofs.Common.{decimal, ap, ◌∙◌}
use Rattle.std.proofs.lemmas.Result.{err_from_is_err_and}
use Rattle.numerals.proofs.Reading.{minus_none, no_minus_zero, after_minus}
use Rattle.numerals.proofs.read.negative.Goals as goal

pub returns-in_err-n : goal.returns-in_err-n
returns-in_err-n c =
    let p = err_from_is_err_and c.from_residual.result c.from_residual.ensures.1 in
    rw p.1 (minus_none _ _ (after_minus _ _ c.requires.some c.requires.minus c.requires.rest) (λ n h q e. c.in_err-n.ensures n h e))

pub returns-then-n-eq0 : goal.returns-then-n-eq0
returns-then-n-eq0 c =
    minus_none _ _ (after_minus _ _ c.requires.some c.requires.minus c.requires.rest) (no_minus_zero _ (c.in_ok-n.ensures.0 ∙ ap decimal c.if-n-eq0.true))
