use Rattle.std.proofs.Common.{◌≡◌, ℕ, ◌-◌, ◌^◌, sym, ◌∙◌, ap₂, arith}
use Rattle.channel.specs.Meaning.{Meaning}
use Rattle.burst.specs.Histories.{histories}
use Rattle.channel.proofs.Sizes.{short_memory}
use Rattle.burst.proofs.Sizes.{few_histories}
use Rattle.burst.proofs.memory.histories.Goals as goal

power : (m : Meaning) (symbols memory : ℕ) → symbols ≡ m.symbols → memory ≡ m.memory → symbols ^ (memory - 1) ≡ histories m
power m symbols memory s l = ap₂ (λ (a b : ℕ). a ^ (b - 1)) s l

pub overflow_cast-memory : goal.overflow_cast-memory
overflow_cast-memory g c =
    let lawful = g.met.C.Channel.lawful c.args.channel.now in
    omega (arith, short_memory _ lawful)

pub pow-requires : goal.pow-requires
pow-requires g c =
    let m = g.C.Channel.meaning c.args.channel.now in
    let lawful = g.met.C.Channel.lawful c.args.channel.now in
    let kind = g.met.C.Channel.kind c.args.channel.now in
    omega (arith, power m _ _ (c.alphabet.ensures ∙ sym kind) c.memory.ensures, few_histories _ lawful)

pub returns : goal.returns
returns g c =
    let m = g.C.Channel.meaning c.args.channel.now in
    let lawful = g.met.C.Channel.lawful c.args.channel.now in
    let kind = g.met.C.Channel.kind c.args.channel.now in
    let value : c.pow.result ≡ histories m = c.pow.ensures ∙ power m _ _ (c.alphabet.ensures ∙ sym kind) c.memory.ensures in
    record { value = value; few = omega (arith, value, few_histories _ lawful) }
