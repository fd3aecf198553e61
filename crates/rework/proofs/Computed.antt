-- The worked bursts follow from the definitions by computing.
use Rattle.std.proofs.Common.{refl}
use Rattle.trellis.specs.Sequences.{join_below}
use Rattle.recursions.specs.Answers.{trace}
use Rattle.recursions.specs.Backward.{last_column, backstep, backward_of}
use Rattle.recursions.specs.Firsts.{first_under}
use Rattle.recursions.specs.Forward.{step, forward}
use Rattle.rework.specs.Worked.{Reworked}

pub reworked : Reworked
unfolding join_below trace last_column backstep backward_of first_under step forward
reworked = record {
  counts = (refl, refl, refl);
  costs_later = record { first = (refl, refl); second = (refl, refl) };
  costs_again = record { first = (refl, refl); second = (refl, refl) };
  costs_shallow = record { first = (refl, refl); second = (refl, refl) };
  shown_later = refl;
  shown_shallow = refl;
}
