use Rattle.std.proofs.Common.{◌≡◌, take}
use Rattle.runs.specs.Law.{one_said, other_said}
use Rattle.runs.specs.Obeying.{Hears}
use Rattle.runs.proofs.hear.hear.Given as goal

abbrev pub invariant-loop-i : goal.invariant-loop-i
invariant-loop-i g l =
    let m = g.C.Channel.meaning l.initial.one.channel in
    let m' = g.D.Channel.meaning l.initial.other.channel in
    (l.one.channel ≡ l.initial.one.channel)
    × (l.other.channel ≡ l.initial.other.channel)
    × (Hears m (take l.i l.list) l.initial.one.burst l.one.burst l.initial.bytes l.bytes (one_said l.i l.heard))
    × (Hears m' (take l.i l.list) l.initial.other.burst l.other.burst l.initial.other_bytes l.other_bytes (other_said l.i l.heard))
