use Rattle.std.proofs.Common.{◌≡◌, map, take}
use Rattle.runs.specs.Obeying.{Ran}
use Rattle.runs.specs.declared.call.Call.TheVariants.{Add}
use Rattle.runs.proofs.run.add_all.Given as goal

abbrev pub invariant-loop-place : goal.invariant-loop-place
invariant-loop-place g l =
    let m = g.C.Channel.meaning l.initial.receiver.channel in
    (l.receiver.channel ≡ l.initial.receiver.channel)
    × (Ran m (map Add (take l.place-index l.places)) l.initial.receiver.burst l.receiver.burst)
