use Rattle.std.proofs.Common.{◌∙◌}
use Rattle.agreement.proofs.Agreeing.{made_least, made_costs}
use Rattle.agreement.proofs.Fitting.{room_alone}
use Rattle.agreement.proofs.sweep_costs.Goals as goal

pub returns : goal.returns
returns g c =
    let m = g.C.Channel.meaning c.args.channel.now in
    let lawful = g.met.C.Channel.lawful c.args.channel.now in
    let places = c.args.places.now in
    let swept = c.sweep.ensures in
    record {
      swept = record { refusal = swept.refusal; fronts = swept.forward; backs = swept.backward; meets = swept.answers };
      room = λ fit. swept.refusal ∙ room_alone m places _ _ _ fit;
      least = made_least m lawful places _ _ _ _ _ swept.refusal swept.answers;
      costs = made_costs m lawful places _ _ _ _ _ swept.refusal swept.answers;
    }
