use Rattle.std.proofs.lemmas.Result.{err_from_is_err_and}
use Rattle.forms.specs.Telling.{no_entry}
use Rattle.forms.proofs.pieces.EntryPiece.read.Goals as goal

pub returns-in_err-check_end-2 : goal.returns-in_err-check_end-2
returns-in_err-check_end-2 c =
    let p = err_from_is_err_and c.from_residual-in_err-check_end-2.result c.from_residual-in_err-check_end-2.ensures.1 in
    rw p.1 (no_entry _ c.in_ok-entry.entry _ c.in_ok-entry.ensures c.in_err-check_end-2.ensures c.in_default.ensures)
