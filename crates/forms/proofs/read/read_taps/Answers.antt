use Rattle.std.proofs.Common.{◌++◌, map, take, codes, refl, ap, ◌∙◌, inr}
use Rattle.std.specs.Fmt.{signed_decimal}
use Rattle.std.proofs.lemmas.Result.{err_from_is_err_and}
use Rattle.forms.specs.Forms.{taps_form}
use Rattle.forms.specs.Lines.{nearest}
use Rattle.forms.proofs.Bodies.{only_taps, taps_said}
use Rattle.forms.specs.Telling.{kept, past_number}
use Rattle.forms.proofs.read.read_taps.Goals as goal

pub returns-in_err-numbers : goal.returns-in_err-numbers
returns-in_err-numbers c =
    let p = err_from_is_err_and c.from_residual-in_err-numbers.result c.from_residual-in_err-numbers.ensures.1 in
    rw p.1 (only_taps _ (λ n ts l e.
    let a = past_number c.in_ok-noise.noise n (codes ") (taps") _ _ _ (inr refl) (inr refl) c.in_ok-noise.ensures l.0 e in
    c.in_err-numbers.ensures ts l.1 l.2 a.1))

pub returns : goal.returns
returns c =
    let n = c.in_ok-noise.noise in
    let a = c.in_ok-noise.ensures in
    let k = c.in_ok-numbers.ensures in
    record {
      form = taps_form n k.pieces;
      head_is = refl;
      text_is = a.0 ∙ ap (λ l. signed_decimal n ++ (codes ") (taps" ++ l)) k.text_is;
      lawful = (a.1, k.all_lawful, k.some);
      says = taps_said n _ _ _ k.pieces (kept n a.1) (c.narrow.ensures ∙ ap (λ l. take 9 (map nearest l)) c.as_slice.ensures) k.front;
    }
