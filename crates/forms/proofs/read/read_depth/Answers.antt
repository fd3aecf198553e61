use Rattle.std.proofs.Common.{[], ◌++◌, length, codes, refl, ap, ◌∙◌, inr}
use Rattle.std.specs.Fmt.{signed_decimal}
use Rattle.std.proofs.lemmas.List.{nil_from_length}
use Rattle.std.proofs.lemmas.Result.{err_from_is_err_and}
use Rattle.forms.specs.Forms.{depth_form, feed}
use Rattle.forms.proofs.Bodies.{only_depth}
use Rattle.forms.specs.Telling.{kept, past_number}
use Rattle.forms.proofs.read.read_depth.Goals as goal

pub returns-in_err-end : goal.returns-in_err-end
returns-in_err-end c =
    let p = err_from_is_err_and c.from_residual-in_err-end.result c.from_residual-in_err-end.ensures.1 in
    rw p.1 (only_depth _ (λ d lawful e.
    c.in_err-end.ensures (ap length (past_number c.in_ok-depth.depth d (codes ")" ++ feed) _ _ [] (inr refl) (inr refl) c.in_ok-depth.ensures lawful e).1)))

pub returns : goal.returns
returns c =
    let d = c.in_ok-depth.depth in
    let first = c.in_ok-depth.ensures in
    record {
      form = depth_form d;
      head_is = refl;
      text_is = first.0 ∙ ap (λ l. signed_decimal d ++ (codes ")" ++ (feed ++ l))) (nil_from_length _ c.in_ok-end.ensures);
      lawful = first.1;
      says = ap depth_form (kept d first.1);
    }
