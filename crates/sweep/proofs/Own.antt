-- Under any joining the worth of a sequence is by its own windows.
use Rattle.std.proofs.Common.{◌≡◌, ℕ, zero, suc, ◌+◌, ◌-◌, ◌*◌, ◌≤◌, List, [], ◌∷◌, ◌++◌, reverse, get_or, take, sym, refl, ap, ◌∙◌, ap₂, arith, take-suc}
use Rattle.std.proofs.lemmas.List.{take_all, reverse-append}
use Rattle.cost.specs.declared.Cost.{Cost}
use Rattle.channel.specs.Meaning.{Meaning, Lawful, cost_of}
use Rattle.channel.specs.Windows.{window_number}
use Rattle.joining.specs.Laws.{Operations, Laws}
use Rattle.trellis.specs.Sequences.{Sequence, reach, along}
use Rattle.trellis.proofs.Ends.{sequence_front, along_end}
use Rattle.burst.specs.declared.place.Place.{Place}
use Rattle.burst.specs.Places.{prior_cost}
use Rattle.burst.specs.Own.{own_window}
use Rattle.burst.specs.Sequences.{place_at, full_trellis}
use Rattle.burst.proofs.Own.{history_is}
use Rattle.sweep.specs.Own.{follow_below, own_worth, OwnWindows}

module _ {J : Type 0} (o : Operations J) (worth : Cost → J) (m : Meaning) (places : List Place) (laws : Laws o) (lawful : Lawful m) where
  -- the front of a sequence
  front : (k : ℕ) (seq : List ℕ) → Sequence m.symbols k seq → (n : ℕ) → n ≤ k
      → along (full_trellis o worth m places) 0 0 (take n seq) ≡ follow_below o n (own_worth o worth m places seq)
  unfolding follow_below along
  front k seq sequence zero le = refl
  front k seq sequence (suc n) le =
      let a : ℕ = get_or seq n 0 in
      let before : List ℕ = take n seq in
      let ahead = sequence_front m.symbols k n seq sequence (omega arith) in
      let more : take (suc n) seq ≡ before ++ (a ∷ []) = take-suc seq n 0 (omega (arith, sequence.long)) in
      let whole : suc (m.memory - 1) ≡ m.memory = omega (arith, lawful.remembers) in
      let window : a + m.symbols * reach (full_trellis o worth m places) 0 before ≡ own_window m seq n =
      ap (λ h. a + m.symbols * h) (history_is o worth m places lawful n before ahead)
      ∙ ap₂ (λ l past. window_number m.symbols (take l past)) whole (sym (ap reverse more ∙ reverse-append before (a ∷ []))) in
      ap (along (full_trellis o worth m places) 0 0) more
      ∙ along_end (full_trellis o worth m places) laws 0 0 n before a (omega (arith, ahead.long))
      ∙ ap₂ (λ x w. o.follow x (o.follow (worth (cost_of m (place_at places n).sample w)) (worth (prior_cost (place_at places n).priors a))))
      (front k seq sequence n (omega arith)) window

  pub own_windows : OwnWindows o worth m places
  own_windows = record {
    history = history_is o worth m places lawful;
    worths = λ k seq sequence.
        ap (along (full_trellis o worth m places) 0 0) (sym (take_all k seq (omega (arith, sequence.long))))
        ∙ front k seq sequence k (omega arith);
  }
