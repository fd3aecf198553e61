use Rattle.forms.proofs.Bodies.{whole_line}
use Rattle.forms.proofs.read.read_as.Goals as goal

pub returns : goal.returns
returns c = whole_line _ _ c.args.head _ c.requires c.read_body.ensures
