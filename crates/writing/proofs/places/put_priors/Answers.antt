use Rattle.std.proofs.Common.{◌≡◌, ℕ, ◌-◌, ◌<◌, ◌≤◌, min, ◌⊎◌, List, ◌++◌, map, length, take, codes, sym, ap, ◌∙◌, subst, inl, inr, arith, length-take}
use Rattle.std.proofs.lemmas.Bool.{cases_lt}
use Rattle.std.proofs.lemmas.List.{take-map, take_all}
use Rattle.forms.specs.Forms.{listed, prior_text}
use Rattle.forms.specs.declared.prior.Prior.{Prior}
use Rattle.writing.specs.Written.{of_prior}
use Rattle.writing.proofs.places.put_priors.Goals as goal

-- the priors of the first so many of four values
first_priors :
    (f : ℕ → Prior) (numbers : List ℕ) (priors : List Prior) (values k : ℕ) → length numbers ≡ 4 → priors ≡ map f numbers → k ≡ min values 4
    → take (k - 0) priors ≡ map f (take values numbers)
first_priors f numbers priors values k l e is =
    ap (take (k - 0)) e ∙ take-map f (k - 0) numbers ∙ ap (map f) (cut (cases_lt values 4))
  where
    cut : (values < 4) ⊎ (4 ≤ values) → take (k - 0) numbers ≡ take values numbers
    cut (inl lt) = let same : k - 0 ≡ values = omega arith in ap (λ n. take n numbers) same
    cut (inr le) = take_all (k - 0) numbers (omega arith) ∙ sym (take_all values numbers (omega arith))

pub returns-clause-text : goal.returns-clause-text
returns-clause-text c =
    let p = c.args.priors in
    c.put_list.ensures.text
    ∙ ap (λ l. c.args.draft.now ++ (codes ") (prior" ++ listed prior_text l))
    (first_priors of_prior p.numbers c.all_written-written.result c.args.values c.min.result p.four c.all_written-written.ensures c.min.ensures)

pub returns-clause-short : goal.returns-clause-short
returns-clause-short c =
    let p = c.args.priors in
    let first = first_priors of_prior p.numbers c.all_written-written.result c.args.values c.min.result p.four c.all_written-written.ensures c.min.ensures in
    subst (λ l. length (listed prior_text l) ≤ 51) first (omega (arith, c.put_list.ensures.short, c.min.ensures, length-take (c.min.result - 0) c.all_written-written.result))
