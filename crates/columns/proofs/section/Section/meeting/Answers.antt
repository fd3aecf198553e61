use Rattle.std.proofs.Common.{arith}
use Rattle.columns.proofs.Onward.{met_by, met_within}
use Rattle.columns.proofs.section.Section.meeting.Goals as goal

pub returns : goal.returns
returns g c =
    let here = c.args.self.now in record {
      met = λ q b shapes bounded within low la.
          met_by (g.C.Channel.meaning here.channel.now) q here.shape shapes here.place.now here.column.now c.weigh.result
          c.weigh.ensures c.args.later.now b within low bounded c.extend-sums.result c.extend-sums.ensures
          c.args.symbol la c.least_through.result c.least_through.ensures;
      within =
          met_within here.shape here.column.now c.weigh.result c.extend-sums.result c.args.later.now c.weigh.ensures.small
          c.extend-sums.ensures c.args.symbol c.least_through.result (omega arith) c.least_through.ensures;
    }
