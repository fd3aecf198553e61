-- The refusals of calls on places by their numbers.
use Rattle.std.specs.Prelude.{ℕ, Some, None, Ok, Err, Option, Result}
use Rattle.burst.specs.declared.refusal.Refusal.{Refusal}
use Rattle.burst.specs.declared.refusal.Refusal.TheVariants.{TooMany, NotTaken, BadPriors, NoPlace, BadDepth, NoValue, Stale, NoBest, TooShort}

abbrev pub number_of : Refusal → ℕ
number_of TooMany = 3
number_of NotTaken = 4
number_of BadPriors = 5
number_of NoPlace = 6
number_of BadDepth = 7
number_of NoValue = 8
number_of Stale = 9
number_of NoBest = 10
number_of TooShort = 11

-- the number of the refusal that an answer is, or none
abbrev pub refused_by : {X : Type 0} → Result X Refusal → Option ℕ
refused_by (Ok x) = None
refused_by (Err e) = Some (number_of e)
