use Rattle.std.proofs.Common.{◌≡◌, ℕ, ◌<◌}
use Rattle.columns.specs.Pairs.{min_below}
use Rattle.columns.proofs.indices.least_below.Given as goal

abbrev pub invariant-loop-i : goal.invariant-loop-i
invariant-loop-i g l = (h : ℕ → ℕ) → ((i r : ℕ) → i < l.n → goal.F-post g l.f i r → r ≡ h i) → l.least ≡ min_below l.i h
