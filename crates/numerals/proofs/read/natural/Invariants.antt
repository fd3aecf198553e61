use Rattle.numerals.proofs.Reading.{ReadTo}
use Rattle.numerals.proofs.read.natural.Given as goal

abbrev pub invariant-loop-b : goal.invariant-loop-b
invariant-loop-b l = ReadTo l.text l.b-index l.n
