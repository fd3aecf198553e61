use Rattle.trellis.specs.Lists.{Holds}
use Rattle.sweep.specs.Burst.{symbols, answer_at}
use Rattle.sweep.proofs.full.meets.Columns.fill_answers.Given as goal

-- The answers before the index are written.
abbrev pub invariant-loop-index : goal.invariant-loop-index
invariant-loop-index g l =
    let o = g.J.Joining.operations in
    let b = l.self.trellis.now in
    Holds o.none l.answer-items (symbols g.C.Channel.meaning b) 0 l.index (answer_at o g.J.Joining.worth_of g.C.Channel.meaning b)
