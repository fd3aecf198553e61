use Rattle.receiver.proofs.Deepening.{IsStart, deepen_sound}
use Rattle.receiver.proofs.inner.Burst.deepen.Goals as goal

pub returns-clause-sound : goal.returns-clause-sound
returns-clause-sound c =
    let is : IsStart c.start.result = record { cells = c.start.ensures.cells; within = c.start.ensures.within; survivors = c.start.ensures.survivors } in
    deepen_sound c.args.self.now c.args.depth c.args.shape c.start.result is c.requires
