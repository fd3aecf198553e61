-- Places that fit pass the checks of a sweep, and a sweep that is not refused has few places.
use Rattle.std.proofs.Common.{◌≡◌, ℕ, suc, ◌<◌, ◌≤◌, Bool, true, false, cond, not, ◌&&◌, List, [], ◌∷◌, length, Some, None, Option, refl, ap, ◌∙◌, ap₂, arith}
use Rattle.std.proofs.lemmas.Bool.{ltb-false, le-ltb, cond-false}
use Rattle.channel.specs.Meaning.{Meaning, taken}
use Rattle.burst.specs.Places.{priors_allowed}
use Rattle.burst.specs.Sequences.{place_at}
use Rattle.burst.specs.declared.place.Place.{Place}
use Rattle.sweep.specs.Checks.{each_passes, sweep_refusal}
use Rattle.agreement.specs.Refusals.{AllFit, room_refusal}

pub all_pass : (test : Place → Bool) (places : List Place) → ((k : ℕ) → k < length places → test (place_at places k) ≡ true) → each_passes test places ≡ true
all_pass test [] each = refl
all_pass test (p ∷ later) each = ap₂ ◌&&◌ (each 0 (omega arith)) (all_pass test later (λ k lt. each (suc k) (omega arith)))

-- the first check passes where none is named
first_passes : (b : Bool) (n : ℕ) (later : Option ℕ) → None ≡ cond b (Some n) later → b ≡ false
first_passes true n later e = let no : ◌≡◌ {A = ℕ} 0 1 = cc in absurd (omega arith)
first_passes false n later e = refl

module _ (m : Meaning) (places : List Place) (forward backward answers : ℕ) where
  pub few_places : None ≡ sweep_refusal m places forward backward answers → length places ≤ 128
  few_places accepted = ltb-false 128 (length places) (first_passes _ 3 _ accepted)

  pub room_alone : AllFit m places → sweep_refusal m places forward backward answers ≡ room_refusal m (length places) forward backward answers
  unfolding room_refusal
  room_alone fit =
      cond-false _ _ _ (le-ltb 128 (length places) fit.few)
      ∙ cond-false _ _ _ (ap not (all_pass (λ p. taken m p.sample) places (λ k lt. (fit.each k lt).sample)))
      ∙ cond-false _ _ _ (ap not (all_pass (λ p. priors_allowed m.symbols p.priors) places (λ k lt. (fit.each k lt).priors)))
