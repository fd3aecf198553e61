use Rattle.receiver.proofs.Altering.{alter_done, alter_sound}
use Rattle.receiver.proofs.inner.Burst.alter.Goals as goal

pub returns-clause-altered : goal.returns-clause-altered
returns-clause-altered c =
    alter_done c.args.self.now c.args.full c.args.k c.args.place c.requires.kept c.requires.held c.after_change-self.result c.after_change-self.ensures

pub returns-clause-sound : goal.returns-clause-sound
returns-clause-sound c =
    alter_sound c.args.self.now c.args.full c.args.k c.args.place c.requires.kept c.requires.held c.after_change-self.result c.after_change-self.ensures
