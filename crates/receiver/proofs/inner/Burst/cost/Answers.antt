use Rattle.std.proofs.Common.{◌∙◌}
use Rattle.receiver.proofs.Reading.{cost_is}
use Rattle.receiver.proofs.inner.Burst.cost.Goals as goal

pub returns : goal.returns
returns g c sound =
    c.as_cost.ensures
    ∙ cost_is c.args.self.now c.requires.kept c.requires.fresh (g.C.Channel.meaning c.args.channel.now) sound c.args.place c.args.symbol
    c.meet.result c.requires.place c.requires.symbol c.meet.ensures
