use Rattle.receiver.proofs.Settling.{kept_bounded}
use Rattle.receiver.proofs.receiver.Receiver.settle.Goals as goal

pub returns-clause-worked : goal.returns-clause-worked
returns-clause-worked g c =
    let self = c.args.self.now in
    c.settle.ensures.worked self.sound.shaped (kept_bounded self.burst self.kept)
