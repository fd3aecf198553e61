-- The worked counts follow from the definitions by computing.
use Rattle.std.proofs.Common.{refl}
use Rattle.trellis.specs.Elements.{answer_element}
use Rattle.trellis.specs.Sequences.{join_below, over_all, along}
use Rattle.sweep.specs.Pins.{place_pinned}
use Rattle.count.specs.Worked.{CountsWorked}

pub counts_worked : CountsWorked
unfolding answer_element over_all along join_below place_pinned
counts_worked = record { all = (refl, refl); all_then = (refl, refl); pinned = (refl, refl); pinned_then = (refl, refl) }
