use Rattle.std.proofs.Common.{refl, subst}
use Rattle.reading.specs.Places.{Hands}
use Rattle.reading.proofs.place.place_of.Goals as goal

pub returns : goal.returns
returns c = record { sample = refl; priors = subst (λ l. Hands l c.handed_priors.result) c.priors.ensures c.handed_priors.ensures }
