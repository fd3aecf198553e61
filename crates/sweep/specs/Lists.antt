-- What stands in the lists after a sweep: their fronts written column by column and the rest as it was; after a refusal all as it was.
use Rattle.std.specs.Prelude.{◌≡◌, ℕ, ◌+◌, List, length, Ok, Err, Result}
use Rattle.cost.specs.declared.Cost.{Cost}
use Rattle.channel.specs.Meaning.{Meaning}
use Rattle.joining.specs.Laws.{Operations}
use Rattle.trellis.specs.Elements.{forward_element_of, backward_element_of, answer_element}
use Rattle.trellis.specs.Lists.{Filled}
use Rattle.burst.specs.declared.place.Place.{Place}
use Rattle.burst.specs.declared.refusal.Refusal.{Refusal}
use Rattle.burst.specs.Histories.{histories}
use Rattle.burst.specs.Sequences.{full_trellis}

abbrev pub Stands : {J : Type 0} → Result (Unit {0}) Refusal → J → List J → List J → ℕ → ℕ → (ℕ → ℕ → J) → Type 0
Stands (Ok done) blank before after columns width element = Filled blank before after columns width element
Stands (Err e) blank before after columns width element = after ≡ before

module _ {J : Type 0} (o : Operations J) (worth : Cost → J) (m : Meaning) (places : List Place) (r : Result (Unit {0}) Refusal) (before after : List J) where
  -- a column of histories for each place and one more: what leads to the history
  abbrev pub ForwardStands : Type 0
  ForwardStands = Stands r o.none before after (length places + 1) (histories m) (forward_element_of (full_trellis o worth m places))

  -- likewise: what leads on from the history
  abbrev pub BackwardStands : Type 0
  BackwardStands = Stands r o.none before after (length places + 1) (histories m) (backward_element_of (full_trellis o worth m places) (length places))

  -- a row of symbols for each place: what has the symbol there
  abbrev pub AnswersStand : Type 0
  AnswersStand = Stands r o.none before after (length places) m.symbols (answer_element (full_trellis o worth m places) (length places))
