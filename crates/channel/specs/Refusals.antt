-- Refusals by their numbers, and which of several is named.
use Rattle.std.specs.Prelude.{ℕ, Bool, cond, List, [], ◌∷◌, Some, None, Ok, Err, Option, Result}
use Rattle.channel.specs.declared.refusal.Refusal.{Refusal}
use Rattle.channel.specs.declared.refusal.Refusal.TheVariants.{Size, Range}

-- the number of a refusal of loading
abbrev pub number_of : Refusal → ℕ
number_of Size = 1
number_of Range = 2

-- the number of the refusal that an answer is, or none
abbrev pub refused_by : {X : Type 0} → Result X Refusal → Option ℕ
refused_by (Ok x) = None
refused_by (Err e) = Some (number_of e)

-- the number beside the first condition that holds, or none
abbrev pub first_of : List (Bool × ℕ) → Option ℕ
first_of [] = None
first_of (check ∷ later) = cond check.0 (Some check.1) (first_of later)
