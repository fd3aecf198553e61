use Rattle.std.proofs.Common.{◌≡◌, ◌+◌, ◌*◌, ◌≤◌, ◌∷◌, ◌++◌, length, take}
use Rattle.std.specs.List.{flat_map}
use Rattle.writing.proofs.put.put_pieces.Given as goal

abbrev pub invariant-loop-piece : goal.invariant-loop-piece
invariant-loop-piece g l = record {
  text : l.draft ≡ l.initial.draft ++ flat_map (λ y. 32 ∷ g.P.Put.text y) (take l.piece-index l.pieces);
  short : length (flat_map (λ y. 32 ∷ g.P.Put.text y) (take l.piece-index l.pieces)) ≤ (g.P.Put.most + 1) * l.piece-index;
}
