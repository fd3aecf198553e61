-- What stands in a receiver that a text is read into.
use Rattle.std.specs.Prelude.{◌≡◌, ℕ, ◌⊎◌, List, [], Some, None, Ok, Err, Result, MatchResult}
use Rattle.channel.specs.Meaning.{Meaning}
use Rattle.channel.specs.declared.Channel.{Ghosts}
use Rattle.burst.specs.Refusals.{number_of}
use Rattle.burst.specs.declared.refusal.Refusal.{Refusal}
use Rattle.receiver.specs.Bursts.{places_of}
use Rattle.receiver.specs.Standing.{depth_refusal}
use Rattle.receiver.specs.declared.receiver.Receiver.{Receiver}
use Rattle.forms.specs.Forms.{Form}
use Rattle.forms.specs.Lines.{priors_in}
use Rattle.forms.specs.declared.line.PlaceLine.{PlaceLine}
use Rattle.text.specs.declared.fault.Cause.{Cause}
use Rattle.text.specs.declared.fault.Fault.{Fault}
use Rattle.text.specs.declared.fault.Layer.TheVariants.{Receiver as ByReceiver}
use Rattle.text.specs.Faults.{layer_of, number_of as cause_number}
use Rattle.kinds.specs.Rules.{Rule, told_by}
use Rattle.reading.specs.Lines.{Does, Outcome, blame_of}
use Rattle.reading.specs.Steps.{State, bare, ready, a_place, after_heads}
use Rattle.reading.specs.Texts.{IsReady, ReadsFrom, ReadsText}

-- the line of its channel, its depth and its places
abbrev pub state_of : {C : Type 0} {G : Ghosts C} → (C → Form) → Receiver C G → State
state_of form w = ready (form w.channel) w.burst.depth (places_of w.burst)

-- no forward column is worked and every backward column is stale but the last
pub record Begun {C : Type 0} {G : Ghosts C} (w : Receiver C G) : Type 0 where
  pub forward : w.burst.marks.forward ≡ 0
  pub backward : w.burst.marks.backward ≡ w.burst.count

-- a call leaves it so
abbrev pub StaysBegun : {C : Type 0} {G : Ghosts C} → Receiver C G → Receiver C G → Type 0
StaysBegun before after = Begun before → Begun after

-- a receiver of a channel at a depth, without places, or the refusal of the depth
pub record Received {C : Type 0} {G : Ghosts C} (m : Meaning) (channel : C) (depth : ℕ) (w : Receiver C G) : Type 0 where
  pub channel_is : w.channel ≡ channel
  pub allowed : depth_refusal m depth ≡ None
  pub depth_is : w.burst.depth ≡ depth
  pub none : places_of w.burst ≡ []
  pub begun : Begun w

abbrev pub Receives : {C : Type 0} {G : Ghosts C} → Meaning → C → ℕ → Result (Receiver C G) Refusal → Type 0
Receives m channel depth (Ok w) = Received m channel depth w
Receives m channel depth (Err e) = depth_refusal m depth ≡ Some (number_of e)

-- the same, where the first line is blamed for the refusal of the depth that it gives
abbrev pub ReceivesFirst : {C : Type 0} {G : Ghosts C} → Meaning → C → ℕ → Result (Receiver C G) Fault → Type 0
ReceivesFirst m channel depth r =
    MatchResult r (λ w. Received m channel depth w)
    (λ fault. (fault.line ≡ 1) × (layer_of fault.cause ≡ ByReceiver) × (depth_refusal m depth ≡ Some (cause_number fault.cause)))

-- what a place line does where both heads stand
abbrev pub AddsPlace : {C X : Type 0} {G : Ghosts C} → Rule → (C → Form) → ℕ → PlaceLine → Receiver C G → Receiver C G → Result X Cause → Type 0
AddsPlace k form n p before after r =
    let does = after_heads k n (form before.channel) before.burst.depth (places_of before.burst) (a_place p.sample.first p.sample.second (priors_in p)) in
    MatchResult r (λ _. does ≡ Ok (state_of form after)) (λ e. does ≡ Err (record { line = n; told = told_by e }))

-- the lines from the third on, from what stands in the receiver before them to what stands in it after, or to the line that is blamed
abbrev pub ReadsPlaces : {C X : Type 0} {G : Ghosts C} → Rule → (C → Form) → List ℕ → Receiver C G → Receiver C G → Result X Fault → Type 0
ReadsPlaces k form text before after (Ok x) = ReadsFrom k 3 (state_of form before) text (Ok (state_of form after))
ReadsPlaces k form text before after (Err e) = ReadsFrom k 3 (state_of form before) text (Err (blame_of e))

-- the first two lines: both are taken, or the first is blamed, or the second
abbrev pub ReadsHeads : {C : Type 0} {G : Ghosts C} → Rule → (C → Form) → List ℕ → List ℕ → Result (Receiver C G) Fault → Type 0
ReadsHeads k form first second (Ok w) = (s : State) × Does k 1 bare first (Ok s) × Does k 2 s second (Ok (state_of form w))
ReadsHeads k form first second (Err e) =
    Outcome k 1 bare first (Err (blame_of e))
    ⊎ ((s : State) × Does k 1 bare first (Ok s) × (IsReady s → ⊥) × Outcome k 2 s second (Err (blame_of e)))

-- a receiver of a text, or its first fault
abbrev pub ReadsNew : {C : Type 0} {G : Ghosts C} → Rule → (C → Form) → List ℕ → Result (Receiver C G) Fault → Type 0
ReadsNew k form text (Ok w) = ReadsText k text (Ok (state_of form w))
ReadsNew k form text (Err e) = ReadsText k text (Err (blame_of e))

-- a text read into a receiver, or its first fault and the receiver as it was
abbrev pub Reads : {C X : Type 0} {G : Ghosts C} → Rule → (C → Form) → List ℕ → Receiver C G → Receiver C G → Result X Fault → Type 0
Reads k form text before after (Ok x) = ReadsText k text (Ok (state_of form after))
Reads k form text before after (Err e) = ReadsText k text (Err (blame_of e)) × (after ≡ before)
