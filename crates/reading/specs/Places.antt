-- The place that a line says, and its refusal.
use Rattle.std.specs.Prelude.{◌≡◌, ℕ, ◌≤◌, min, Bool, true, false, not, ◌&&◌, List, [], ◌∷◌, ℤ, pos, negsuc, MatchBool, Option, nat_le, nat_lt, slice_index_or, refl}
use Rattle.std.proofs.Common.{zero-le, arith, lit≤}
use Rattle.channel.specs.Meaning.{Meaning, taken}
use Rattle.channel.specs.Refusals.{first_of}
use Rattle.burst.specs.Numbers.{four_small}
use Rattle.burst.specs.Places.{priors_allowed}
use Rattle.burst.specs.declared.place.Place.{Place}
use Rattle.burst.specs.declared.priors.Priors.{Priors}
use Rattle.forms.specs.declared.prior.Prior.{Prior}
use Rattle.forms.specs.declared.prior.Prior.TheVariants.{Number, Barred}

-- a written prior is barred, or a number from 0 to 65,534
abbrev pub prior_fits : Prior → Bool
prior_fits Barred = true
prior_fits (Number (pos n)) = nat_lt n 65535
prior_fits (Number (negsuc n)) = false

abbrev pub all_fit : List Prior → Bool
all_fit [] = true
all_fit (p ∷ ps) = prior_fits p && all_fit ps

-- the number of a prior that fits: 65,535 if it is barred
abbrev pub number_of_prior : Prior → ℕ
number_of_prior Barred = 65535
number_of_prior (Number (pos n)) = min n 65535
number_of_prior (Number (negsuc n)) = 0

pub prior_number_small : (p : Prior) → number_of_prior p ≤ 65535
prior_number_small Barred = lit≤ tt
prior_number_small (Number (pos n)) = omega arith
prior_number_small (Number (negsuc n)) = zero-le

-- the priors of the values 0 to 3: those written, and 0 for the values after them
abbrev pub written : List Prior → ℕ → Prior
written ps a = slice_index_or ps a (Number (pos 0))

abbrev pub priors_of : List Prior → Priors
priors_of ps = record {
  numbers = number_of_prior (written ps 0) ∷ (number_of_prior (written ps 1) ∷ (number_of_prior (written ps 2) ∷ (number_of_prior (written ps 3) ∷ [])));
  four = refl;
  small =
      four_small (number_of_prior (written ps 0)) (number_of_prior (written ps 1)) (number_of_prior (written ps 2)) (number_of_prior (written ps 3))
      (prior_number_small (written ps 0)) (prior_number_small (written ps 1)) (prior_number_small (written ps 2)) (prior_number_small (written ps 3));
}

abbrev pub place_of : ℤ → ℤ → List Prior → Place
place_of x y ps = record { sample = record { first = x; second = y }; priors = priors_of ps }

-- Its refusal, with so many places held: these are 128; the sample is not taken; a written prior does not fit, or the priors break their rule.
abbrev pub place_refusal : Meaning → ℕ → ℤ → ℤ → List Prior → Option ℕ
place_refusal m count x y ps =
    first_of
    ((nat_le 128 count, 3)
    ∷ ((not (taken m (place_of x y ps).sample), 4)
    ∷ ((not (all_fit ps && priors_allowed m.symbols (place_of x y ps).priors), 5) ∷ [])))

-- the priors that are handed on: those written if all fit, otherwise four barred ones, which no number of symbol values allows
abbrev pub Hands : List Prior → Priors → Type 0
Hands ps p = MatchBool (all_fit ps) (p ≡ priors_of ps) (p.numbers ≡ 65535 ∷ (65535 ∷ (65535 ∷ (65535 ∷ []))))
