use Rattle.std.proofs.Common.{sym, ◌∙◌, arith}
use Rattle.channel.proofs.Sizes.{short_memory, windows_are}
use Rattle.channel.proofs.Channel.windows.Goals as goal

pub overflow_cast-memory : goal.overflow_cast-memory
overflow_cast-memory g c = omega (arith, c.memory.ensures, short_memory _ (g.met.Self.Channel.lawful c.args.self.now))

pub pow-requires : goal.pow-requires
pow-requires g c =
    let m = g.Self.Channel.meaning c.args.self.now in
    let lawful = g.met.Self.Channel.lawful c.args.self.now in
    omega (arith, windows_are m _ _ (c.alphabet.ensures ∙ sym (g.met.Self.Channel.kind c.args.self.now)) c.memory.ensures, lawful.few_windows)

pub returns : goal.returns
returns g c =
    c.pow.ensures ∙ windows_are (g.Self.Channel.meaning c.args.self.now) _ _ (c.alphabet.ensures ∙ sym (g.met.Self.Channel.kind c.args.self.now)) c.memory.ensures
