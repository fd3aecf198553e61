use Rattle.std.proofs.Common.{ℕ, ◌^◌, sym, ◌∙◌, ap₂, arith}
use Rattle.channel.proofs.Sizes.{short_memory}
use Rattle.burst.proofs.Sizes.{few_histories}
use Rattle.recursions.proofs.Depths.{states_grow}
use Rattle.columns.proofs.shape.Shape.count.Goals as goal

pub overflow_cast-saturating_sub : goal.overflow_cast-saturating_sub
overflow_cast-saturating_sub g c =
    let lawful = g.met.C.Channel.lawful c.args.channel.now in
    omega (arith, short_memory _ lawful)

pub pow-requires : goal.pow-requires
pow-requires g c =
    let m = g.C.Channel.meaning c.args.channel.now in
    let lawful = g.met.C.Channel.lawful c.args.channel.now in
    let kind = c.alphabet.ensures ∙ sym (g.met.C.Channel.kind c.args.channel.now) in
    let power = ap₂ (λ (s e : ℕ). s ^ e) kind c.saturating_sub.ensures in
    omega (arith, power, states_grow m lawful c.args.depth m.memory c.requires, few_histories m lawful)
