use Rattle.std.proofs.lemmas.Slice.Eq.{strip_prefix_is}
use Rattle.std.proofs.lemmas.Bool.Decides.{Decides-eqb}
use Rattle.forms.proofs.Options.{told_as_result}
use Rattle.forms.proofs.word.expect.Goals as goal

pub returns : goal.returns
returns c =
    told_as_result c.strip_prefix.result _ c.ok_or.result _ _ c.ok_or.ensures.value
    (strip_prefix_is Decides-eqb c.args.text.now c.args.mark.now c.strip_prefix.result c.strip_prefix.ensures.cases)
