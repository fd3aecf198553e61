-- The priors of a place: as numbers, as costs, and the rule that they keep.
use Rattle.std.specs.Prelude.{ℕ, Bool, cond, not, ◌&&◌, ◌||◌, ◌==◌, nat_lt, slice_index}
use Rattle.cost.specs.declared.Cost.{Cost}
use Rattle.cost.specs.declared.Cost.TheVariants.{Eighths, Barred}
use Rattle.burst.specs.declared.priors.Priors.{Priors}

-- the number of a value's prior, 0 past the four
abbrev pub prior_at : Priors → ℕ → ℕ
prior_at p a = slice_index p.numbers a

-- a prior as a cost: 65,535 means barred
abbrev pub prior_cost : Priors → ℕ → Cost
prior_cost p a = cond (prior_at p a == 65535) Barred (Eighths (prior_at p a))

-- the value is a symbol, or its prior is 0
abbrev pub unused_zero : ℕ → Priors → ℕ → Bool
unused_zero symbols p a = nat_lt a symbols || prior_at p a == 0

-- the value is a symbol that is not barred
abbrev pub open_prior : ℕ → Priors → ℕ → Bool
open_prior symbols p a = nat_lt a symbols && not (prior_at p a == 65535)

-- The rule of priors: those of values that are no symbols are 0, and at least one symbol is not barred.
abbrev pub priors_allowed : ℕ → Priors → Bool
priors_allowed symbols p =
    unused_zero symbols p 0 && unused_zero symbols p 1 && unused_zero symbols p 2 && unused_zero symbols p 3
    && (open_prior symbols p 0 || open_prior symbols p 1 || open_prior symbols p 2 || open_prior symbols p 3)
