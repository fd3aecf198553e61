use Rattle.std.proofs.Common.{◌≡◌, ◌<◌, length, get_or, sym, ◌∙◌, inl, inr, arith, rules}
use Rattle.std.proofs.lemmas.Slice.Eq.{slice_eq-Decides}
use Rattle.std.proofs.lemmas.Result.{err_from_is_err_and}
use Rattle.std.proofs.lemmas.Bool.Decides.{not_from_Decides, Decides-eqb, nat_tests}
use Rattle.prefix.specs.Prefix.{items}
use Rattle.forms.proofs.Lists.{got_none, got_more, no_next, no_end_here, all_read, shorter}
use Rattle.forms.specs.Words.{split_first, no_first}
use Rattle.forms.proofs.list.read_list.Goals as goal
use Rattle.forms.proofs.list.read_list.Goals.{in_default, in_default-2, else-not-is_empty-via-then-not-is_empty+else-eq, else-not-is_empty-via-else-not-is_empty}

pub loop-rest-init : goal.loop-rest-init
loop-rest-init g c = got_none g.P.Piece.written g.P.Piece.lawful g.row.N c.args.text.now _ (search rules)

pub returns-in_err-piece : goal.returns-in_err-piece
returns-in_err-piece g c =
    let p = err_from_is_err_and c.from_residual.result c.from_residual.ensures.1 in
    let rest = c.loop-rest.rest.now in
    rw p.1 (no_next g.P.Piece.written g.P.Piece.lawful g.met.P.Piece.told g.row.N _ rest _ _ c.loop-rest.invariant (split_first rest 32 (search rules) (search rules)) c.in_err-piece.ensures)

pub loop-rest-smaller : goal.loop-rest-smaller
loop-rest-smaller g c = shorter c.loop-rest.rest.now _ _ (search rules) c.in_ok-piece.ensures.0

pub loop-rest-preserved : goal.loop-rest-preserved
loop-rest-preserved g c =
    let rest = c.loop-rest.rest.now in
    got_more g.P.Piece.written g.P.Piece.lawful g.row.N _ rest _ _ _ _ _ c.loop-rest.invariant (split_first rest 32 (search rules) (search rules)) c.in_ok-piece.ensures c.push.ensures

pub returns-then-eq : goal.returns-then-eq
returns-then-eq g c =
    let some : 0 < length (items c.loop-rest.pieces) = grind (arith, nat_tests) in
    all_read g.P.Piece.written g.P.Piece.lawful g.row.N _ _ _ c.loop-rest.invariant some ((slice_eq-Decides Decides-eqb _ _ _ c.eq.ensures).0 c.if-eq.true ∙ c.as_slice-then-not-is_empty.ensures)

pub returns-else-not-is_empty : goal.returns-else-not-is_empty
returns-else-not-is_empty g c =
    let rest = c.loop-rest.rest.now in
    let no-space : get_or rest 0 0 ≡ 32 → ⊥ = λ e. elim c.if-rest-lt1.branch [ in_default w ↦ no_first rest (search rules) e | in_default-2 w ↦ search rules ] in
    no_end_here g.P.Piece.written g.P.Piece.lawful g.met.P.Piece.told g.row.N _ rest _ c.loop-rest.invariant c.requires no-space
    (elim c.else-not-is_empty.branch [
      | else-not-is_empty-via-then-not-is_empty+else-eq w ↦ inr (λ e. not_from_Decides _ (slice_eq-Decides Decides-eqb _ _ _ w.eq.ensures) w.if-eq.false (e ∙ sym w.as_slice-then-not-is_empty.ensures))
      | else-not-is_empty-via-else-not-is_empty w ↦ inl (grind (arith, nat_tests))
    ])
