use Rattle.std.proofs.Common.{◌≡◌, take}
use Rattle.runs.specs.Obeying.{Ran}
use Rattle.runs.proofs.run.run.Given as goal

abbrev pub invariant-loop-call : goal.invariant-loop-call
invariant-loop-call g l =
    let m = g.C.Channel.meaning l.initial.receiver.channel in
    (l.receiver.channel ≡ l.initial.receiver.channel)
    × (Ran m (take l.call-index l.list) l.initial.receiver.burst l.receiver.burst)
