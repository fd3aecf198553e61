use Rattle.std.proofs.Common.{◌≡◌, ◌*◌, ◌≤◌, drop, ◌+ℤ◌, nat_abs}
use Rattle.taps.specs.Rule.{echo, expected}
use Rattle.taps.proofs.price.sum_of_taps.Given as goal

-- The sum so far with what the taps left add is the whole, and each tap adds little.
abbrev pub invariant-loop-i : goal.invariant-loop-i
invariant-loop-i l =
    (nat_abs l.sum ≤ 32768 * l.i)
    × (l.sum +ℤ echo l.i (drop l.i l.taps) l.window ≡ expected l.taps l.window)
