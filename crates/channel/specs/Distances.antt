-- The cost of a squared distance: eight times it over the noise, the fraction dropped, and 65,535 at most.
use Rattle.std.specs.Prelude.{ℕ, ◌*◌, ◌/◌, min, Bool, ℤ, pos, ◌-ℤ◌, unsigned_abs}
use Rattle.channel.specs.Samples.{between}

-- the square of the difference of two numbers
abbrev pub square : ℤ → ℤ → ℕ
square a b = unsigned_abs (a -ℤ b) * unsigned_abs (a -ℤ b)

abbrev pub distance_cost : ℕ → ℕ → ℕ
distance_cost noise squared = min (8 * squared / noise) 65535

-- 1 to 1,000,000
abbrev pub in_noise_range : ℤ → Bool
in_noise_range n = between (pos 1) (pos 1000000) n
