use Rattle.sweep.proofs.Own.{own_windows}
use Rattle.sweep.proofs.full.meets.Columns.fill_answers.Goals as goal

pub returns-clause-own : goal.returns-clause-own
returns-clause-own g c =
    let b = c.args.self.now.trellis.now in
    own_windows g.J.Joining.operations g.J.Joining.worth_of (g.C.Channel.meaning b.channel) b.places g.met.J.Joining.laws (g.met.C.Channel.lawful b.channel)
