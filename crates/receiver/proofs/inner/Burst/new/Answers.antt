use Rattle.std.proofs.Common.{refl}
use Rattle.receiver.proofs.Deepening.{IsStart, new_sound}
use Rattle.receiver.proofs.inner.Burst.new.Goals as goal

pub returns-clause-sound : goal.returns-clause-sound
returns-clause-sound c =
    let is : IsStart c.start.result = record { cells = c.start.ensures.cells; within = c.start.ensures.within; survivors = c.start.ensures.survivors } in
    new_sound _ c.args.depth c.args.shape c.start.result is refl
