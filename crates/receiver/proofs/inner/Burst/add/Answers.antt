use Rattle.receiver.proofs.Adding.{add_sound}
use Rattle.receiver.proofs.inner.Burst.add.Goals as goal

pub returns-clause-sound : goal.returns-clause-sound
returns-clause-sound c = add_sound c.args.self.now c.args.place c.requires.kept c.requires.room
