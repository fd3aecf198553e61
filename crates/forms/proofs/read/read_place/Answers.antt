use Rattle.std.proofs.Common.{◌≡◌, ◌⊎◌, ◌++◌, length, codes, sym, refl, ap, ◌∙◌, subst, inl, inr}
use Rattle.std.specs.Fmt.{signed_decimal}
use Rattle.std.proofs.lemmas.Result.{err_from_is_err_and}
use Rattle.forms.specs.Forms.{place_form, prior_text, PriorLawful, listed}
use Rattle.forms.proofs.Bodies.{only_place, one_list, two_or_four, held_whole, some_priors, other_count}
use Rattle.forms.specs.Telling.{kept, past_number, prior_told}
use Rattle.forms.proofs.read.read_place.Goals as goal

pub returns-in_err-second : goal.returns-in_err-second
returns-in_err-second c =
    let p = err_from_is_err_and c.from_residual-in_err-second.result c.from_residual-in_err-second.ensures.1 in
    rw p.1 (only_place _ (λ x y ps l e.
    let a = past_number c.in_ok-first.first x (codes " ") _ _ _ (inl refl) (inl refl) c.in_ok-first.ensures l.0 e in
    c.in_err-second.ensures y (listed prior_text ps) l.1 a.1))

pub returns-in_err-priors : goal.returns-in_err-priors
returns-in_err-priors c =
    let p = err_from_is_err_and c.from_residual-in_err-priors.result c.from_residual-in_err-priors.ensures.1 in
    rw p.1 (only_place _ (λ x y ps l e.
    let a = past_number c.in_ok-first.first x (codes " ") _ _ _ (inl refl) (inl refl) c.in_ok-first.ensures l.0 e in
    let b = past_number c.in_ok-second.second y (codes ") (prior") _ _ _ (inr refl) (inr refl) c.in_ok-second.ensures l.1 a.1 in
    c.in_err-priors.ensures ps l.2 (some_priors _ l.3) b.1))

pub returns-then-not-two_or_four : goal.returns-then-not-two_or_four
returns-then-not-two_or_four c =
    let k = c.in_ok-priors.ensures in
    only_place _ (λ x y ps l e.
    let a = past_number c.in_ok-first.first x (codes " ") _ _ _ (inl refl) (inl refl) c.in_ok-first.ensures l.0 e in
    let b = past_number c.in_ok-second.second y (codes ") (prior") _ _ _ (inr refl) (inr refl) c.in_ok-second.ensures l.1 a.1 in
    let same = one_list prior_text PriorLawful prior_told _ k.pieces ps k.all_lawful l.2 k.text_is b.1 in
    other_count _ k.pieces ps k.front same (sym c.two_or_four.ensures ∙ c.if-not-two_or_four.true) l.3)

pub returns : goal.returns
returns c =
    let x = c.in_ok-first.first in
    let y = c.in_ok-second.second in
    let a = c.in_ok-first.ensures in
    let b = c.in_ok-second.ensures in
    let k = c.in_ok-priors.ensures in
    let many = two_or_four _ (sym c.two_or_four.ensures ∙ c.if-not-two_or_four.false) in
    let whole = held_whole _ k.pieces k.front many in
    record {
      form = place_form x y k.pieces;
      head_is = refl;
      text_is = a.0 ∙ ap (λ l. signed_decimal x ++ (codes " " ++ l)) (b.0 ∙ ap (λ l. signed_decimal y ++ (codes ") (prior" ++ l)) k.text_is);
      lawful = (a.1, b.1, k.all_lawful, subst (λ l. (length l ≡ 2) ⊎ (length l ≡ 4)) whole many);
      says = simp (kept x a.1, kept y b.1) (ap (place_form x y) whole);
    }
