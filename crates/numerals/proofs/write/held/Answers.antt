use Rattle.std.proofs.Common.{◌∙◌}
use Rattle.std.proofs.lemmas.List.{take_all}
use Rattle.numerals.proofs.write.held.Goals as goal

pub returns : goal.returns
returns c = c.of.ensures ∙ take_all 20 c.args.text.now c.requires
