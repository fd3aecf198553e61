use Rattle.std.proofs.Common.{ℕ, [], ◌∷◌, subst}
use Rattle.receiver.specs.Standing.{standing}
use Rattle.runs.specs.Obeying.{Ran}
use Rattle.runs.specs.declared.call.Call.TheVariants.{Depth}
use Rattle.runs.proofs.Running.{given_by}
use Rattle.runs.proofs.run.renewed.Goals as goal

pub returns-clause-stands : goal.returns-clause-stands
returns-clause-stands g c =
    let m = g.D.Channel.meaning c.args.channel in
    let made = c.new-receiver.ensures in
    let deep = simp made.channel at c.ask.ensures in
    let all = simp deep.channel at c.add_all.ensures in
    let b₁ = c.new-receiver.result.burst in
    let b₂ = c.ask.new.receiver.burst in
    let deepened = subst (λ (q : ℕ). Ran m (Depth q ∷ []) b₁ b₂) c.depth.ensures deep.ran in
    given_by m (standing c.args.from.now.burst) c.places.result.now b₁ b₂ c.add_all.new.receiver.burst made.stands deepened c.places.ensures
    all.ran
