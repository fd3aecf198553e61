use Rattle.std.proofs.Common.{◌++◌, codes, refl, ap, ◌∙◌, inr}
use Rattle.std.specs.Fmt.{signed_decimal}
use Rattle.std.proofs.lemmas.Result.{err_from_is_err_and}
use Rattle.forms.specs.Forms.{table_form, entry_text, listed}
use Rattle.forms.proofs.Bodies.{only_table, table_said}
use Rattle.forms.specs.Telling.{kept, past_number}
use Rattle.forms.proofs.read.read_table.Goals as goal

pub returns-in_err-memory : goal.returns-in_err-memory
returns-in_err-memory c =
    let p = err_from_is_err_and c.from_residual-in_err-memory.result c.from_residual-in_err-memory.ensures.1 in
    rw p.1 (only_table _ (λ n m es l e.
    let a = past_number c.in_ok-noise.noise n (codes ") (memory ") _ _ _ (inr refl) (inr refl) c.in_ok-noise.ensures l.0 e in
    c.in_err-memory.ensures m (listed entry_text es) l.1 a.1))

pub returns-in_err-entries : goal.returns-in_err-entries
returns-in_err-entries c =
    let p = err_from_is_err_and c.from_residual-in_err-entries.result c.from_residual-in_err-entries.ensures.1 in
    rw p.1 (only_table _ (λ n m es l e.
    let a = past_number c.in_ok-noise.noise n (codes ") (memory ") _ _ _ (inr refl) (inr refl) c.in_ok-noise.ensures l.0 e in
    let b = past_number c.in_ok-memory.memory m (codes ") (entries") _ _ _ (inr refl) (inr refl) c.in_ok-memory.ensures l.1 a.1 in
    c.in_err-entries.ensures es l.2 l.3 b.1))

pub returns : goal.returns
returns c =
    let n = c.in_ok-noise.noise in
    let m = c.in_ok-memory.memory in
    let a = c.in_ok-noise.ensures in
    let b = c.in_ok-memory.ensures in
    let k = c.in_ok-entries.ensures in
    record {
      form = table_form n m k.pieces;
      head_is = refl;
      text_is = a.0 ∙ ap (λ l. signed_decimal n ++ (codes ") (memory " ++ l)) (b.0 ∙ ap (λ l. signed_decimal m ++ (codes ") (entries" ++ l)) k.text_is);
      lawful = (a.1, b.1, k.all_lawful, k.some);
      says = table_said n m _ _ _ k.pieces (kept n a.1) (kept m b.1) k.front;
    }
