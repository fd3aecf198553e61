use Rattle.std.proofs.Common.{◌≡◌, ℕ, ◌<◌, get_or, rules}
use Rattle.columns.specs.Pairs.{least_onward}
use Rattle.columns.proofs.Onward.{backstepped_by, backstepped_within}
use Rattle.columns.proofs.section.Section.backstep.Goals as goal

pub returns : goal.returns
returns g c =
    let here = c.args.self.now in
    let worked : (s : ℕ) → s < here.shape.states → get_or c.filled.result s 0 ≡ least_onward here.shape.symbols here.shape.states c.weigh-weights.result c.args.later.now s =
    λ s lt. let h = c.filled.ensures.front 0 s lt in search rules in record {
      backstepped = λ q b shapes within low.
          backstepped_by (g.C.Channel.meaning here.channel.now) q here.shape shapes here.place.now here.column.now c.weigh-weights.result
          c.weigh-weights.ensures c.args.later.now b within low c.filled.result worked;
      within =
          backstepped_within here.shape c.weigh-weights.result c.args.later.now c.filled.result c.weigh-weights.ensures.small c.filled.ensures.long
          worked (c.filled.ensures.others 0);
    }
