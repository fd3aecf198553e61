use Rattle.std.proofs.Common.{◌*◌, ◌≤◌, sym, ◌∙◌, mul-le-mul, arith}
use Rattle.channel.proofs.Sizes.{two_symbols, four_symbols}
use Rattle.burst.proofs.Sizes.{some_histories}
use Rattle.recursions.proofs.Depths.{allowed_keeps, states_within_histories}
use Rattle.recursions.proofs.Trellises.{some_states}
use Rattle.columns.proofs.shape.Shape.of.Goals as goal

pub invariant_of-result : goal.invariant_of-result
invariant_of-result g c =
    let m = g.C.Channel.meaning c.args.channel.now in
    let q = c.args.depth in
    let lawful = g.met.C.Channel.lawful c.args.channel.now in
    let kind = c.alphabet.ensures ∙ sym (g.met.C.Channel.kind c.args.channel.now) in
    let two = two_symbols m lawful in
    let four = four_symbols m lawful in
    let keeps = allowed_keeps m q c.requires in
    let few : c.count.result ≤ 16 = omega arith in
    let limited : c.alphabet.result ≤ 4 = omega arith in
    let pairs : c.count.result * c.alphabet.result ≤ 16 * 4 = mul-le-mul few limited in
    let within = states_within_histories m lawful q c.requires in
    let some = some_states m lawful q in
    record { some = omega arith; limited = limited; inhabited = omega arith; few = few; pairs = pairs; remembered = omega (arith, some_histories m lawful); narrow = c.histories.ensures.few; within = omega arith }
