use Rattle.std.proofs.Common.{◌≡◌, ◌+◌, length, Ok, Err, ap, subst, arith}
use Rattle.std.proofs.lemmas.Result.{err_from_is_err_and}
use Rattle.std.specs.Iterator.Adapters.{enumerate_source, enumerate_count}
use Rattle.text.specs.Lines.{left_of}
use Rattle.reading.specs.Lines.{Does, Outcome, blame_of}
use Rattle.reading.specs.Received.{state_of}
use Rattle.reading.proofs.Running.{SoFar, so_more, blame_is, so_blamed}
use Rattle.reading.proofs.places.read_places.Goals as goal

pub loop-i-preserved : goal.loop-i-preserved
loop-i-preserved g c =
    let k = g.C.Spelled.rule in
    let form = g.C.Spelled.form in
    let before = state_of form c.loop-i.receiver in
    let after = state_of form c.add_line.new.receiver in
    let left = left_of (enumerate_source c.next.new.self) in
    let steps = c.in-Some.ensures.steps in
    let next : enumerate_count c.loop-i.i-iterator + 3 + 1 ≡ enumerate_count c.next.new.self + 3 = omega (arith, steps.2) in
    let does = subst (λ n. Does k n before c.in-Some.line.now (Ok after)) (ap (λ n. n + 3) steps.1) c.in_ok-add_line.ensures.does in
    record {
      read =
          subst (λ n. SoFar k 3 (state_of form c.args.receiver.now) c.args.text.now n after left) next
          (so_more k 3 _ _ (enumerate_count c.loop-i.i-iterator + 3) _ _ _ _ _ c.loop-i.invariant.read steps.0.1 steps.0.0 does);
      begun = λ b. c.in_ok-add_line.ensures.begun (c.loop-i.invariant.begun b);
    }

pub returns-in_err-add_line-clause-does : goal.returns-in_err-add_line-clause-does
returns-in_err-add_line-clause-does g c =
    let p = err_from_is_err_and c.from_residual.result c.from_residual.ensures.1 in
    let k = g.C.Spelled.rule in
    let before = state_of g.C.Spelled.form c.loop-i.receiver in
    let left = left_of (enumerate_source c.loop-i.i-iterator) in
    let fault = c.in_err-add_line.field-0.0 in
    let steps = c.in-Some.ensures.steps in
    let number = enumerate_count c.loop-i.i-iterator + 3 in
    let wrong = subst (λ n. Outcome k n before c.in-Some.line.now (Err (blame_of fault))) (ap (λ n. n + 3) steps.1) c.in_err-add_line.ensures.does in
    rw (p.1, p.2)
    (so_blamed k 3 _ _ number before left (blame_of fault) c.loop-i.invariant.read
    (blame_is k number before left _ _ (blame_of fault) steps.0.1 (λ e _. omega (arith, steps.0.0, ap length e)) wrong))
