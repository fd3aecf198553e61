-- A place that is added where both heads stand.
use Rattle.std.proofs.Common.{◌≡◌, ℕ, Bool, true, cond, not, ◌&&◌, leb, List, [], ◌∷◌, ◌++◌, length, ℤ, Some, None, Ok, Err, MatchBool, Option, Result, sym, ap, ◌∙◌, subst, inr, arith, length-take, eq-eqb}
use Rattle.std.proofs.lemmas.List.{length_push}
use Rattle.std.proofs.lemmas.Bool.Decides.{nat_tests}
use Rattle.channel.specs.Meaning.{Meaning, taken}
use Rattle.channel.specs.Refusals.{first_of}
use Rattle.channel.specs.declared.Channel.{Ghosts}
use Rattle.burst.specs.Places.{priors_allowed}
use Rattle.burst.specs.declared.place.Place.{Place}
use Rattle.receiver.specs.Bursts.{places_of}
use Rattle.receiver.specs.Changes.{Added}
use Rattle.receiver.specs.Standing.{add_refusal}
use Rattle.receiver.specs.declared.receiver.Receiver.{Receiver}
use Rattle.forms.specs.Forms.{Form}
use Rattle.forms.specs.Lines.{priors_in, IsForm}
use Rattle.forms.specs.declared.line.Line.{Line}
use Rattle.forms.specs.declared.line.Line.TheVariants.{Place as APlace}
use Rattle.forms.specs.declared.line.PlaceLine.{PlaceLine}
use Rattle.forms.specs.declared.prior.Prior.{Prior}
use Rattle.text.specs.declared.fault.Cause.{Cause}
use Rattle.text.specs.declared.fault.Layer.TheVariants.{Text as ByText, Receiver as ByReceiver}
use Rattle.kinds.specs.Rules.{Rule, told_by}
use Rattle.reading.specs.Lines.{At}
use Rattle.reading.specs.Places.{all_fit, priors_of, place_of, place_refusal, Hands}
use Rattle.reading.specs.Received.{state_of, Begun, AddsPlace}
use Rattle.reading.specs.Steps.{ready, blamed, unless, received, a_place, after_heads}
use Rattle.reading.proofs.Numbering.{handed_allowed}
use Rattle.reading.proofs.Sayings.{does_say, says_place}

-- the refusal by its three conditions
abbrev by : Bool → Bool → Bool → Option ℕ
by full heard allowed = first_of ((full, 3) ∷ ((not heard, 4) ∷ ((not allowed, 5) ∷ [])))

passed : (full heard allowed : Bool) → by full heard allowed ≡ None → allowed ≡ true
passed full heard allowed h = grind (arith, nat_tests)

-- what is handed on is refused as what is written
pub same_refusal :
    (m : Meaning) (count : ℕ) (p : Place) (x y : ℤ) (ps : List Prior) → p.sample ≡ record { first = x; second = y } → Hands ps p.priors
    → add_refusal m count p ≡ place_refusal m count x y ps
same_refusal m count p x y ps e h =
    ap (λ z. by (leb 128 count) (taken m z) (priors_allowed m.symbols p.priors)) e
    ∙ ap (λ b. by (leb 128 count) (taken m (record { first = x; second = y })) b) (handed_allowed m.symbols ps p.priors h)

first : (a b : Bool) → (a && b) ≡ true → a ≡ true
first a b h = grind (arith, nat_tests)

-- what is taken is what is written
pub same_place :
    (m : Meaning) (count : ℕ) (p : Place) (x y : ℤ) (ps : List Prior) → p.sample ≡ record { first = x; second = y } → Hands ps p.priors
    → place_refusal m count x y ps ≡ None → p ≡ place_of x y ps
same_place m count p x y ps e h none =
    let fit : all_fit ps ≡ true = first (all_fit ps) (priors_allowed m.symbols (priors_of ps))
    (passed (leb 128 count) (taken m (record { first = x; second = y })) (all_fit ps && priors_allowed m.symbols (priors_of ps)) none) in
    let is : p.priors ≡ priors_of ps = subst (λ b. MatchBool b (p.priors ≡ priors_of ps) (p.priors.numbers ≡ 65535 ∷ (65535 ∷ (65535 ∷ (65535 ∷ []))))) fit h in
    λ j. record { sample = e j; priors = is j }

-- what a place line does
taken_place :
    (k : Rule) (n : ℕ) (f : Form) (q : ℕ) (places : List Place) (x y : ℤ) (ps : List Prior) → length ps ≡ k.symbols → place_refusal (k.meaning f) (length places) x y ps ≡ None
    → after_heads k n f q places (a_place x y ps) ≡ Ok (ready f q (places ++ (place_of x y ps ∷ [])))
taken_place k n f q places x y ps e none =
    ap (λ b. cond b (unless (received (place_refusal (k.meaning f) (length places) x y ps)) n (Ok (ready f q (places ++ (place_of x y ps ∷ []))))) (blamed n ByText 12)) (eq-eqb (length ps) k.symbols e)
    ∙ ap (λ o. unless (received o) n (Ok (ready f q (places ++ (place_of x y ps ∷ []))))) none

refused_place :
    (k : Rule) (n : ℕ) (f : Form) (q : ℕ) (places : List Place) (x y : ℤ) (ps : List Prior) (number : ℕ) → length ps ≡ k.symbols
    → place_refusal (k.meaning f) (length places) x y ps ≡ Some number → after_heads k n f q places (a_place x y ps) ≡ Err (record { line = n; told = (ByReceiver, number) })
refused_place k n f q places x y ps number e some =
    ap (λ b. cond b (unless (received (place_refusal (k.meaning f) (length places) x y ps)) n (Ok (ready f q (places ++ (place_of x y ps ∷ []))))) (blamed n ByText 12)) (eq-eqb (length ps) k.symbols e)
    ∙ ap (λ o. unless (received o) n (Ok (ready f q (places ++ (place_of x y ps ∷ []))))) some

counted : {C : Type 0} {G : Ghosts C} (w : Receiver C G) → length (places_of w.burst) ≡ w.burst.count
counted w = simp length-take (omega arith)

-- what is handed to the receiver, and its answer
pub record Handed {C : Type 0} {G : Ghosts C} (k : Rule) (form : C → Form) (m : Meaning) (before : Receiver C G) (line : PlaceLine) (p : Place) : Type 0 where
  pub means : m ≡ k.meaning (form before.channel)
  pub many : length (priors_in line) ≡ k.symbols
  pub sample : p.sample ≡ line.sample
  pub priors : Hands (priors_in line) p.priors

refusal_is :
    {C : Type 0} {G : Ghosts C} (k : Rule) (form : C → Form) (m : Meaning) (before : Receiver C G) (line : PlaceLine) (p : Place) (o : Option ℕ) → Handed k form m before line p
    → o ≡ add_refusal m before.burst.count p
    → place_refusal (k.meaning (form before.channel)) (length (places_of before.burst)) line.sample.first line.sample.second (priors_in line) ≡ o
refusal_is k form m before line p o h e =
    let x = line.sample.first in
    let y = line.sample.second in
    ap (λ l. place_refusal l (length (places_of before.burst)) x y (priors_in line)) (sym h.means)
    ∙ ap (λ c. place_refusal m c x y (priors_in line)) (counted before)
    ∙ sym (same_refusal m before.burst.count p x y (priors_in line) h.sample h.priors)
    ∙ sym e

pub adds_place :
    {C : Type 0} {G : Ghosts C} (k : Rule) (form : C → Form) (n : ℕ) (m : Meaning) (before after : Receiver C G) (line : PlaceLine) (p : Place) → Handed k form m before line p
    → None ≡ add_refusal m before.burst.count p → after.channel ≡ before.channel → Added before.burst after.burst p
    → after_heads k n (form before.channel) before.burst.depth (places_of before.burst) (a_place line.sample.first line.sample.second (priors_in line)) ≡ Ok (state_of form after)
adds_place k form n m before after line p h e same a =
    let x = line.sample.first in
    let y = line.sample.second in
    let ps = priors_in line in
    let f = form before.channel in
    let none = refusal_is k form m before line p None h e in
    let is : p ≡ place_of x y ps = same_place (k.meaning f) (length (places_of before.burst)) p x y ps h.sample h.priors none in
    let f-is : form after.channel ≡ f = ap form same in
    let q-is : after.burst.depth ≡ before.burst.depth = ap (λ s. s.depth) a.stands in
    let ps-is : places_of after.burst ≡ places_of before.burst ++ (place_of x y ps ∷ []) = ap (λ s. s.places) a.stands ∙ ap (λ z. places_of before.burst ++ (z ∷ [])) is in
    let state : state_of form after ≡ ready f before.burst.depth (places_of before.burst ++ (place_of x y ps ∷ [])) = cc in
    taken_place k n f before.burst.depth (places_of before.burst) x y ps h.many none ∙ ap Ok (sym state)

pub refuses_place :
    {C : Type 0} {G : Ghosts C} (k : Rule) (form : C → Form) (n : ℕ) (m : Meaning) (before : Receiver C G) (line : PlaceLine) (p : Place) (number : ℕ) → Handed k form m before line p
    → Some number ≡ add_refusal m before.burst.count p
    → after_heads k n (form before.channel) before.burst.depth (places_of before.burst) (a_place line.sample.first line.sample.second (priors_in line))
    ≡ Err (record { line = n; told = (ByReceiver, number) })
refuses_place k form n m before line p number h e =
    refused_place k n (form before.channel) before.burst.depth (places_of before.burst) line.sample.first line.sample.second (priors_in line) number h.many
    (refusal_is k form m before line p (Some number) h e)

pub still_begun :
    {C : Type 0} {G : Ghosts C} (before after : Receiver C G) (p : Place) → Added before.burst after.burst p → Begun before → Begun after
still_begun before after p a b =
    record {
      forward = ap (λ s. s.forward) a.stands ∙ b.forward;
      backward =
          ap (λ s. s.backward) a.stands
          ∙ sym (sym (counted after) ∙ ap (λ s. length s.places) a.stands ∙ length_push (places_of before.burst) p);
    }

-- a place line where both heads stand
pub place_done :
    {C X : Type 0} {G : Ghosts C} (k : Rule) (form : C → Form) (n : ℕ) (text : List ℕ) (line : Line) (i : IsForm text line) (p : PlaceLine) (before after : Receiver C G) (r : Result X Cause)
    → line ≡ APlace p → AddsPlace k form n p before after r → At k n (state_of form before) text (λ _. state_of form after) r
place_done k form n text line i p before after (Ok x) e h =
    does_say k n (state_of form before) text line i (a_place p.sample.first p.sample.second (priors_in p)) (Ok (state_of form after)) (says_place text line i p e).0 h
place_done k form n text line i p before after (Err c) e h =
    inr (inr (does_say k n (state_of form before) text line i (a_place p.sample.first p.sample.second (priors_in p)) (Err (record { line = n; told = told_by c })) (says_place text line i p e).0 h))
