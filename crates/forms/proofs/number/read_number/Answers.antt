use Rattle.std.specs.Fmt.{signed_decimal}
use Rattle.std.proofs.lemmas.Result.{err_from_is_err_and}
use Rattle.numerals.specs.Numbers.{SevenDigits}
use Rattle.forms.specs.Telling.{number_is_a_word}
use Rattle.forms.specs.Words.{no_take}
use Rattle.forms.proofs.number.read_number.Goals as goal

pub returns-in_err-word : goal.returns-in_err-word
returns-in_err-word c =
    let p = err_from_is_err_and c.from_residual.result c.from_residual.ensures.1 in
    rw p.1 (λ x rest lawful ends e. c.in_err-word.ensures (signed_decimal x) rest (number_is_a_word x lawful) ends e)

pub returns-in_err-number : goal.returns-in_err-number
returns-in_err-number c =
    let p = err_from_is_err_and c.from_residual-in_err-number.result c.from_residual-in_err-number.ensures.1 in
    rw p.1 (no_take signed_decimal SevenDigits number_is_a_word _ _ _ c.in_ok-word.ensures c.in_err-number.ensures)
