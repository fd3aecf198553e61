use Rattle.std.proofs.Common.{ℕ, sym, ap, ◌∙◌}
use Rattle.burst.specs.Places.{priors_allowed}
use Rattle.receiver.proofs.receiver.Receiver.takes_priors.Goals as goal

pub returns : goal.returns
returns g c =
    c.allowed.ensures
    ∙ ap (λ (s : ℕ). priors_allowed s c.args.priors) (c.alphabet.ensures ∙ sym (g.met.C.Channel.kind c.args.self.now.channel))
