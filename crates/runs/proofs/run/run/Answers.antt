use Rattle.std.proofs.Common.{◌∙◌}
use Rattle.runs.proofs.Running.{ran_next}
use Rattle.runs.proofs.run.run.Goals as goal

pub loop-call-preserved : goal.loop-call-preserved
loop-call-preserved g c =
    let m = g.C.Channel.meaning c.args.receiver.now.channel in
    let b = c.args.receiver.now.burst in
    let inv = c.loop-call.invariant in
    let said = simp inv.0 at c.ask.ensures.ran in (
      c.ask.ensures.channel ∙ inv.0,
      ran_next m c.args.list.now c.loop-call.call-index c.call-item.result c.call-item.is c.loop-call-test.true b c.loop-call.receiver.burst
          c.ask.new.receiver.burst inv.1 said,
    )
