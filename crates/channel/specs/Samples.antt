-- Which samples are in range: both numbers from -2048 to 2047.
use Rattle.std.specs.Prelude.{Bool, ◌&&◌, ℤ, pos, neg_ℤ, int_le}
use Rattle.channel.specs.declared.sample.Sample.{Sample}

-- low to high, both included
abbrev pub between : ℤ → ℤ → ℤ → Bool
between low high n = int_le low n && int_le n high

abbrev pub in_range : Sample → Bool
in_range z = between (neg_ℤ (pos 2048)) (pos 2047) z.first && between (neg_ℤ (pos 2048)) (pos 2047) z.second
