use Rattle.std.proofs.Common.{[], ◌++◌, length, codes, refl, ap, ◌∙◌, inl, inr}
use Rattle.std.specs.Fmt.{signed_decimal}
use Rattle.std.proofs.lemmas.Result.{err_from_is_err_and}
use Rattle.std.proofs.lemmas.List.{nil_from_length}
use Rattle.forms.specs.Forms.{code_form, feed}
use Rattle.forms.proofs.Bodies.{only_code}
use Rattle.forms.specs.Telling.{kept, past_number}
use Rattle.forms.proofs.read.read_code.Goals as goal

pub returns-in_err-first : goal.returns-in_err-first
returns-in_err-first c =
    let p = err_from_is_err_and c.from_residual-in_err-first.result c.from_residual-in_err-first.ensures.1 in
    rw p.1 (only_code _ (λ m x y l e.
    let a = past_number c.in_ok-memory.memory m (codes ") (masks ") _ _ _ (inr refl) (inr refl) c.in_ok-memory.ensures l.0 e in
    c.in_err-first.ensures x (signed_decimal y ++ (codes "))" ++ feed)) l.1 a.1))

pub returns-in_err-second : goal.returns-in_err-second
returns-in_err-second c =
    let p = err_from_is_err_and c.from_residual-in_err-second.result c.from_residual-in_err-second.ensures.1 in
    rw p.1 (only_code _ (λ m x y l e.
    let a = past_number c.in_ok-memory.memory m (codes ") (masks ") _ _ _ (inr refl) (inr refl) c.in_ok-memory.ensures l.0 e in
    let b = past_number c.in_ok-first.first x (codes " ") _ _ _ (inl refl) (inl refl) c.in_ok-first.ensures l.1 a.1 in
    c.in_err-second.ensures y [] l.2 b.1))

pub returns-in_err-end : goal.returns-in_err-end
returns-in_err-end c =
    let p = err_from_is_err_and c.from_residual-in_err-end.result c.from_residual-in_err-end.ensures.1 in
    rw p.1 (only_code _ (λ m x y l e.
    let a = past_number c.in_ok-memory.memory m (codes ") (masks ") _ _ _ (inr refl) (inr refl) c.in_ok-memory.ensures l.0 e in
    let b = past_number c.in_ok-first.first x (codes " ") _ _ _ (inl refl) (inl refl) c.in_ok-first.ensures l.1 a.1 in
    let d = past_number c.in_ok-second.second y (codes "))" ++ feed) _ _ [] (inr refl) (inr refl) c.in_ok-second.ensures l.2 b.1 in
    c.in_err-end.ensures (ap length d.1)))

pub returns : goal.returns
returns c =
    let m = c.in_ok-memory.memory in
    let x = c.in_ok-first.first in
    let y = c.in_ok-second.second in
    let a = c.in_ok-memory.ensures in
    let b = c.in_ok-first.ensures in
    let d = c.in_ok-second.ensures in
    let at-end = nil_from_length _ c.in_ok-end.ensures in
    record {
      form = code_form m x y;
      head_is = refl;
      text_is =
          a.0 ∙ ap (λ l. signed_decimal m ++ (codes ") (masks " ++ l)) (b.0 ∙ ap (λ l. signed_decimal x ++ (codes " " ++ l)) (d.0 ∙ ap (λ l. signed_decimal y ++ (codes "))" ++ (feed ++ l))) at-end));
      lawful = (a.1, b.1, d.1);
      says = simp (kept m a.1, kept x b.1, kept y d.1);
    }
