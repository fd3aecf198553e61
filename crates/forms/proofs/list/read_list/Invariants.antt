use Rattle.std.proofs.Common.{length}
use Rattle.prefix.specs.Prefix.{items}
use Rattle.forms.proofs.Lists.{Got}
use Rattle.forms.proofs.list.read_list.Given as goal

abbrev pub invariant-loop-rest : goal.invariant-loop-rest
invariant-loop-rest g l = Got g.P.Piece.written g.P.Piece.lawful g.row.N l.text (items l.pieces) l.rest

abbrev pub decreases-loop-rest : goal.decreases-loop-rest
decreases-loop-rest g l = length l.rest
