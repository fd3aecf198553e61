use Rattle.std.proofs.Common.{ap}
use Rattle.burst.specs.declared.place.Place.{Place}
use Rattle.burst.specs.declared.priors.Priors.{Priors}
use Rattle.sweep.specs.Pins.{place_pinned}
use Rattle.sweep.proofs.pins.pinned_place.Goals as goal

pub returns : goal.returns
unfolding place_pinned
returns c = let made : Priors → Place = λ p. record { sample = c.args.place.sample; priors = p } in ap made c.pinned_priors.ensures
