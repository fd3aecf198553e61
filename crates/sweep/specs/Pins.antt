-- Pinning a place to a value: the priors of the other values become barred.
use Rattle.std.specs.Prelude.{◌≡◌, ℕ, ◌≤◌, Bool, true, false, cond, not, ◌&&◌, ◌||◌, List, [], ◌∷◌, length, Ok, Err, Option, Result, ◌==◌, nat_lt, slice_set, refl}
use Rattle.std.proofs.Common.{lit≤}
use Rattle.channel.specs.Refusals.{first_of}
use Rattle.burst.specs.declared.place.Place.{Place}
use Rattle.burst.specs.declared.priors.Priors.{Priors}
use Rattle.burst.specs.declared.refusal.Refusal.{Refusal}
use Rattle.burst.specs.Numbers.{four_small}
use Rattle.burst.specs.Places.{prior_at, priors_allowed}
use Rattle.burst.specs.Sequences.{place_at}

-- a prior after pinning: barred if its value is another symbol than the pinned one, else as it was
abbrev pub prior_pinned : ℕ → ℕ → Priors → ℕ → ℕ
prior_pinned symbols value p a = cond (nat_lt a symbols && not (a == value)) 65535 (prior_at p a)

-- which is a number of 16 bits again
pub pinned_small : (b : Bool) (p : Priors) (a : ℕ) → cond b 65535 (prior_at p a) ≤ 65535
pinned_small true p a = lit≤ tt
pinned_small false p a = p.small a

abbrev pub priors_pinned : ℕ → ℕ → Priors → Priors
priors_pinned symbols value p = record {
  numbers = prior_pinned symbols value p 0 ∷ (prior_pinned symbols value p 1 ∷ (prior_pinned symbols value p 2 ∷ (prior_pinned symbols value p 3 ∷ [])));
  four = refl;
  small = four_small _ _ _ _ (pinned_small _ p 0) (pinned_small _ p 1) (pinned_small _ p 2) (pinned_small _ p 3);
}

-- the record of a place, its priors pinned and its sample kept
unfoldable pub place_pinned : ℕ → ℕ → Place → Place
place_pinned symbols value p = record { sample = p.sample; priors = priors_pinned symbols value p.priors }

-- the value is a symbol, and barred
abbrev pub barred_at : ℕ → ℕ → Priors → Bool
barred_at symbols value p = nat_lt value symbols && prior_at p value == 65535

-- The checks in the order of their numbers. The first looks at the place only if there is one.
abbrev pub pin_refusal : ℕ → List Place → ℕ → ℕ → Option ℕ
pin_refusal symbols places place value =
    let p = (place_at places place).priors in
    first_of
    ((nat_lt place (length places) && (not (priors_allowed symbols p) || barred_at symbols value p), 5)
    ∷ (not (nat_lt place (length places)), 6)
    ∷ (not (nat_lt value symbols), 8)
    ∷ [])

-- What stands afterwards: the one record pinned and all others kept; after a refusal, all kept.
abbrev pub PinStands : Result (Unit {0}) Refusal → ℕ → List Place → List Place → ℕ → ℕ → Type 0
PinStands (Ok done) symbols before after place value = after ≡ slice_set before place (place_pinned symbols value (place_at before place))
PinStands (Err e) symbols before after place value = after ≡ before
