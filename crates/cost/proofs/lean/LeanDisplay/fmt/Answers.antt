use Rattle.std.proofs.Common.{◌≡◌, ◌∙◌, ap, sym, subst, w64, SFits, nat_abs, rules}
use Rattle.std.proofs.lemmas.Int.{to_z-of_z}
use Rattle.std.specs.Fmt.{HasWritten, styled_decimal}
use Rattle.cost.specs.Leans.{sign, whole, thousandths, lean_text}
use Rattle.cost.proofs.Digits.{lean_is}
use Rattle.cost.proofs.lean.LeanDisplay.fmt.Goals as goal

pub returns-after-eighths-lt0-clause-writes : goal.returns-after-eighths-lt0-clause-writes
returns-after-eighths-lt0-clause-writes g c plain ok =
    let z = c.in-Eighths.eighths in
    let fits : SFits w64 z = search rules in
    let abs : c.unsigned_abs.result ≡ nat_abs z = c.unsigned_abs.ensures.value ∙ ap nat_abs (to_z-of_z w64 z fits) in
    let d = c.in_decimal-whole.ensures in
    let sign_is : c.if-eighths-lt0.sign.now ≡ sign z = search rules in
    let text = lean_is z c.if-eighths-lt0.sign.now _ c.in_decimal-whole.result.0 c.in_decimal-whole.result.1 sign_is
    (d.whole ∙ ap whole abs) (d.rest ∙ ap thousandths abs) (ap (λ s. styled_decimal s c.in_decimal-whole.result.1) c.laid_out.ensures) in
    subst (λ t. HasWritten g.W.Write.write_str_gives c.args.f.now t c.write.new.self) (text ∙ ap lean_text (sym c.in-Eighths.is)) (c.write.ensures.writes plain ok)
