use Rattle.std.proofs.Common.{◌+◌}
use Rattle.std.specs.Iterator.Adapters.{enumerate_source, enumerate_count}
use Rattle.text.specs.Lines.{left_of}
use Rattle.reading.specs.Received.{state_of, Begun}
use Rattle.reading.proofs.Running.{SoFar}
use Rattle.reading.proofs.places.read_places.Given as goal

abbrev pub invariant-loop-i : goal.invariant-loop-i
invariant-loop-i g l = record {
  read : SoFar g.C.Spelled.rule 3 (state_of g.C.Spelled.form l.initial.receiver) l.text (enumerate_count l.i-iterator + 3) (state_of g.C.Spelled.form l.receiver) (left_of (enumerate_source l.i-iterator));
  begun : Begun l.initial.receiver → Begun l.receiver;
}
