use Rattle.std.proofs.Common.{◌∙◌}
use Rattle.runs.proofs.Running.{added_next}
use Rattle.runs.proofs.run.add_all.Goals as goal

pub loop-place-preserved : goal.loop-place-preserved
loop-place-preserved g c =
    let m = g.C.Channel.meaning c.args.receiver.now.channel in
    let b = c.args.receiver.now.burst in
    let inv = c.loop-place.invariant in
    let said = simp inv.0 at c.ask.ensures.ran in (
      c.ask.ensures.channel ∙ inv.0,
      added_next m c.args.places.now c.loop-place.place-index c.place-item.result c.place-item.is c.loop-place-test.true b
          c.loop-place.receiver.burst c.ask.new.receiver.burst inv.1 said,
    )
