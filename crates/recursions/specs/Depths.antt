-- Depths: how many symbols, its own among them, the trellis of a receiver tells apart at a place.
use Rattle.std.specs.Prelude.{ℕ, zero, suc, ◌-◌, ◌^◌, Bool, cond, ◌&&◌, nat_le}
use Rattle.channel.specs.Meaning.{Meaning}

-- The number of states: one for each choice of the last Q - 1 symbols.
abbrev pub states : Meaning → ℕ → ℕ
states m q = m.symbols ^ (q - 1)

-- A depth is from 1 to the memory, with 16 states at most.
abbrev pub depth_allowed : Meaning → ℕ → Bool
depth_allowed m q = nat_le 1 q && nat_le q m.memory && nat_le (states m q) 16

-- the greatest allowed depth that does not exceed q
abbrev pub allowed_up_to : Meaning → ℕ → ℕ
allowed_up_to m zero = zero
allowed_up_to m (suc q) = cond (depth_allowed m (suc q)) (suc q) (allowed_up_to m q)

-- the largest allowed depth
abbrev pub largest_depth : Meaning → ℕ
largest_depth m = allowed_up_to m m.memory
