use Rattle.std.proofs.Common.{Err, ap, arith}
use Rattle.std.proofs.lemmas.Result.{err_from_is_err_and}
use Rattle.reading.specs.Lines.{blame_of}
use Rattle.reading.proofs.Running.{short_text, bad_heads, good_heads}
use Rattle.reading.proofs.Single.{one_answer}
use Rattle.reading.proofs.whole.read_new.Goals as goal

pub returns-then-text-gt-MOST_BYTES : goal.returns-then-text-gt-MOST_BYTES
returns-then-text-gt-MOST_BYTES g c = record { reads = record { long = λ _. ap (λ e. Err (blame_of e)) c.at.ensures; short = λ h. absurd (omega arith) }; begun = tt; one = one_answer }

pub returns-in_err-receiver : goal.returns-in_err-receiver
returns-in_err-receiver g c =
    let p = err_from_is_err_and c.from_residual.result c.from_residual.ensures.1 in
    let k = g.C.Spelled.rule in
    let form = g.C.Spelled.form in
    rw (p.1, p.2) (record {
      reads = short_text k _ _ (omega arith) (bad_heads g.C.Channel k form _ _ _ _ _ c.in_err-receiver.field-0.0 c.cut_line.ensures c.cut_line-2.ensures c.in_err-receiver.ensures.does);
      begun = tt;
      one = one_answer;
    })

pub returns-in_err-read_places : goal.returns-in_err-read_places
returns-in_err-read_places g c =
    let p = err_from_is_err_and c.from_residual-in_err-read_places.result c.from_residual-in_err-read_places.ensures.1 in
    let k = g.C.Spelled.rule in
    let form = g.C.Spelled.form in
    rw (p.1, p.2) (record {
      reads =
          short_text k _ _ (omega arith)
          (good_heads k form _ _ _ _ _ c.in_ok-receiver.receiver _ c.cut_line.ensures c.cut_line-2.ensures c.in_ok-receiver.ensures.does c.in_err-read_places.ensures.does);
      begun = tt;
      one = one_answer;
    })

pub returns : goal.returns
returns g c =
    let k = g.C.Spelled.rule in
    let form = g.C.Spelled.form in
    record {
      reads =
          short_text k _ _ (omega arith)
          (good_heads k form _ _ _ _ _ c.in_ok-receiver.receiver _ c.cut_line.ensures c.cut_line-2.ensures c.in_ok-receiver.ensures.does c.in_ok-read_places.ensures.does);
      begun = c.in_ok-read_places.ensures.begun c.in_ok-receiver.ensures.begun;
      one = one_answer;
    }
