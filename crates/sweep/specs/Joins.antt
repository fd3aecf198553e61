-- Joins over the numbers below a number, of what a function gives for each.
use Rattle.std.specs.Prelude.{◌≡◌, ℕ, ◌<◌}
use Rattle.joining.specs.Laws.{Operations}
use Rattle.trellis.specs.Sequences.{join_below}

-- The join below n of what a function gives, where `gives i x` says that it may give x for i: for each f that the function computes, that of f.
pub record JoinsBelow {J : Type 0} (o : Operations J) (n : ℕ) (gives : ℕ → J → Type 0) (joined : J) : Type 0 where
  pub is : (f : ℕ → J) → ((i : ℕ) (x : J) → i < n → gives i x → x ≡ f i) → joined ≡ join_below o n f
