use Rattle.std.proofs.Common.{◌≡◌, ◌+◌, ◌*◌, length, get_or, take, refl, sym, subst, arith, rules}
use Rattle.std.specs.Str.Parse.{AllDigits, digits_value}
use Rattle.std.proofs.lemmas.List.{take_all}
use Rattle.numerals.proofs.Reading.{ReadTo, not_empty, not_long, no_zero_first, only_digits, one_more_digit, six_digits, all_digits}
use Rattle.numerals.proofs.read.natural.Goals as goal
use Rattle.numerals.proofs.read.natural.Goals.{then-text-lt2, else-text-lt2+in_default-1}

pub returns-in-empty : goal.returns-in-empty
returns-in-empty c = not_empty _ (search rules)

pub returns-in-48 : goal.returns-in-48
returns-in-48 c = no_zero_first _ (search rules) (search rules)

pub returns-then-text-gt-MOST : goal.returns-then-text-gt-MOST
returns-then-text-gt-MOST c = not_long _ (search rules)

pub overflow_mul-n : goal.overflow_mul-n
overflow_mul-n c = omega (arith, six_digits _ _ _ c.loop-b.invariant (omega arith))

pub overflow_add-n : goal.overflow_add-n
overflow_add-n c = omega (arith, six_digits _ _ _ c.loop-b.invariant (omega arith))

pub returns-in_default-b : goal.returns-in_default-b
returns-in_default-b c = only_digits _ c.loop-b.b-index (search rules) (search rules)

pub returns-in_default-b-2 : goal.returns-in_default-b-2
returns-in_default-b-2 c = only_digits _ c.loop-b.b-index (search rules) (search rules)

pub loop-b-preserved : goal.loop-b-preserved
loop-b-preserved c =
    subst (λ d. ReadTo c.args.text.now (c.loop-b.b-index + 1) (c.loop-b.n * 10 + d)) (sym c.from.ensures)
    (one_more_digit _ _ _ _ c.loop-b.invariant c.loop-b-test.true refl (search rules))

pub returns : goal.returns
returns c =
    let text = c.args.text.now in
    let all : take c.loop-b.b-index text ≡ text = take_all c.loop-b.b-index text c.loop-b-test.false in
    let digits : AllDigits 10 text = simp all at c.loop-b.invariant.digits in
    let sum : c.loop-b.n ≡ digits_value 10 text = simp all at c.loop-b.invariant.sum in
    let lead : get_or text 0 0 ≡ 48 → length text ≡ 1 = λ e. elim c.if-text-lt2.branch [ then-text-lt2 w ↦ search rules | else-text-lt2+in_default-1 w ↦ search rules ] in
    all_digits text c.loop-b.n digits sum (search rules) c.if-text-gt-MOST.false lead
