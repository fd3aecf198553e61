use Rattle.std.proofs.Common.{◌<◌, length, subst, ◌∙◌, arith}
use Rattle.std.proofs.lemmas.List.{get_or_default}
use Rattle.receiver.specs.Sound.{Fits}
use Rattle.receiver.proofs.Places.{place_of}
use Rattle.receiver.proofs.receiver.Receiver.place.Goals as goal

pub returns-clause-fits : goal.returns-clause-fits
returns-clause-fits g c =
    let self = c.args.self.now in
    let b = self.burst in
    let within : c.args.k < length b.places = omega (arith, c.requires, self.kept.sized.places, self.kept.sized.few) in
    subst (Fits (g.C.Channel.meaning self.channel)) (place_of b c.args.k c.requires ∙ get_or_default b.places c.args.k _ _ within)
    (self.sound.fits c.args.k c.requires)
