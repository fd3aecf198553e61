-- How many places a burst has, what a best is told as, and a call known by an equation.
use Rattle.std.proofs.Common.{◌≡◌, ℕ, ◌≤◌, List, length, Some, None, Option, sym, refl, subst, arith}
use Rattle.std.proofs.lemmas.List.{length-take-le}
use Rattle.channel.specs.Meaning.{Meaning}
use Rattle.receiver.specs.Bursts.{places_of}
use Rattle.receiver.specs.Settling.{best_cost}
use Rattle.receiver.specs.declared.inner.Burst.{Burst}
use Rattle.runs.specs.Calls.{Reply, best_told}
use Rattle.runs.specs.Obeying.{Obeyed}
use Rattle.runs.specs.declared.call.Call.{Call}

pub places_held : (b : Burst) → length b.places ≡ 128 → b.count ≤ 128 → length (places_of b) ≡ b.count
places_held b long few = length-take-le b.count b.places (omega arith)

-- a best is told as it is
pub best_again : (found : Option ℕ) → found ≡ best_told (best_cost found)
best_again None = refl
best_again (Some n) = refl

-- a call known by an equation
pub obeyed_as :
    {m : Meaning} {call call' : Call} {b b' : Burst} {said : Reply} → call ≡ call' → ((bytes : List ℕ) → Obeyed m call' b b' bytes bytes said) → (bytes : List ℕ)
    → Obeyed m call b b' bytes bytes said
obeyed_as {m = m} {b = b} {b' = b'} {said = said} is obeys bytes = subst (λ (x : Call). Obeyed m x b b' bytes bytes said) (sym is) (obeys bytes)
