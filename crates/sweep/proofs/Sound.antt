-- The trellis of all histories is sound, and shifts.
use Rattle.std.proofs.Common.{List, refl, arith}
use Rattle.std.proofs.lemmas.Nat.{mod_below}
use Rattle.cost.specs.declared.Cost.{Cost}
use Rattle.channel.specs.Meaning.{Meaning, Lawful}
use Rattle.joining.specs.Laws.{Operations, Laws}
use Rattle.trellis.specs.Trellis.{Sound}
use Rattle.trellis.specs.Shifts.{Shifts}
use Rattle.burst.specs.declared.place.Place.{Place}
use Rattle.burst.specs.Histories.{histories}
use Rattle.burst.specs.Sequences.{full_trellis}
use Rattle.burst.proofs.Sizes.{some_histories}

module _ {J : Type 0} (o : Operations J) (worth : Cost → J) (m : Meaning) (places : List Place) where
  pub full_sound : Laws o → Lawful m → Sound (full_trellis o worth m places)
  full_sound laws lawful =
      let some = some_histories m lawful in
      record { laws = laws; starts = omega (arith, some); stays = λ s a ls la. mod_below _ (histories m) (omega (arith, some)) }

  pub full_shifts : Shifts (full_trellis o worth m places)
  full_shifts s a ls la = refl
