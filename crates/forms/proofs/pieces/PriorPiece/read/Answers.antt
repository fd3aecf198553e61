use Rattle.std.proofs.Common.{◌≡◌, ◌≢◌, ◌++◌, codes, sym, ap, ◌∙◌}
use Rattle.std.proofs.lemmas.Slice.Eq.{slice_eq-Decides}
use Rattle.std.proofs.lemmas.Result.{err_from_is_err_and}
use Rattle.std.proofs.lemmas.Bool.Decides.{not_from_Decides, Decides-eqb}
use Rattle.forms.specs.Forms.{prior_text, PriorLawful}
use Rattle.forms.specs.Telling.{prior_is_a_word, no_prior}
use Rattle.forms.specs.Words.{no_take}
use Rattle.forms.proofs.pieces.PriorPiece.read.Goals as goal

pub returns-in_err-word : goal.returns-in_err-word
returns-in_err-word c =
    let p = err_from_is_err_and c.from_residual.result c.from_residual.ensures.1 in
    rw p.1 (λ x rest lawful ends e. c.in_err-word.ensures (prior_text x) rest (prior_is_a_word x lawful) ends e)

pub returns-then-eq : goal.returns-then-eq
returns-then-eq c =
    let cut = c.in_ok-word.ensures in
    let is : c.in_ok-word.word.now ≡ codes "barred" = (slice_eq-Decides Decides-eqb _ _ _ c.eq.ensures).0 c.if-eq.true ∙ c.as_slice.ensures in
    (cut.0 ∙ ap (λ w. w ++ c.in_ok-word.rest.now) is, tt, cut.2)

pub returns-in_err-number : goal.returns-in_err-number
returns-in_err-number c =
    let p = err_from_is_err_and c.from_residual-in_err-number.result c.from_residual-in_err-number.ensures.1 in
    let other : c.in_ok-word.word.now ≢ codes "barred" = λ e. not_from_Decides _ (slice_eq-Decides Decides-eqb _ _ _ c.eq.ensures) c.if-eq.false (e ∙ sym c.as_slice.ensures) in
    rw p.1 (no_take prior_text PriorLawful prior_is_a_word _ _ _ c.in_ok-word.ensures (no_prior _ other c.in_err-number.ensures))
