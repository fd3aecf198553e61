use Rattle.receiver.proofs.Altering.{cut_sound}
use Rattle.receiver.proofs.inner.Burst.cut.Goals as goal

pub returns-clause-sound : goal.returns-clause-sound
returns-clause-sound c = cut_sound c.args.self.now c.args.n c.requires.kept c.requires.held c.after_cut-self.result c.after_cut-self.ensures
