-- The rule of the code kind, over the memory and the two masks.
use Rattle.std.specs.Prelude.{ℕ, ◌+◌, ◌-◌, ◌%◌, ◌^◌, Bool, true, false, cond, not, ◌&&◌, [], ◌∷◌, ℤ, pos, negsuc, neg_ℤ, Option, ◌==◌, bit_and, count_ones, unsigned_abs}
use Rattle.channel.specs.Refusals.{first_of}
use Rattle.channel.specs.Samples.{between}
use Rattle.channel.specs.Meaning.{Meaning}

-- a mask is in its range: from 0 to 2^L - 1
abbrev pub mask_in_range : ℕ → ℤ → Bool
mask_in_range memory mask = between (pos 0) (pos (2 ^ memory - 1)) mask

-- 1 if a number has an odd number of ones in binary, otherwise 0
abbrev pub parity : ℕ → ℕ
parity n = count_ones n % 2

-- The coded bit: 1 if the number of ones that mask and window have in common is odd, otherwise 0.
abbrev pub bit_of_mask : ℕ → ℕ → ℕ
bit_of_mask mask window = parity (bit_and mask window)

-- the greater of a number and 0
abbrev pub above_zero : ℤ → ℕ
above_zero (pos n) = n
above_zero (negsuc n) = 0

-- what a coded bit costs beside its sample number n: 0 the greater of n and 0, 1 the greater of -n and 0
abbrev pub cost_of_bit : ℤ → ℕ → ℕ
cost_of_bit number bit = cond (bit == 0) (above_zero number) (above_zero (neg_ℤ number))

-- Every sample in range is taken; no window is barred; the cost is that of both coded bits.
abbrev pub code_meaning : ℕ → ℕ → ℕ → Meaning
code_meaning memory first second = record {
  symbols = 2;
  memory = memory;
  takes = λ z. true;
  bars = λ w. false;
  price = λ z w. cost_of_bit z.first (bit_of_mask first w) + cost_of_bit z.second (bit_of_mask second w);
}

-- The checks of loading: a memory of one to eight, then both masks in range.
abbrev pub load_refusal : ℤ → ℤ → ℤ → Option ℕ
load_refusal memory first second =
    first_of
    ((not (between (pos 1) (pos 8) memory), 1)
    ∷ (not (mask_in_range (unsigned_abs memory) first && mask_in_range (unsigned_abs memory) second), 2)
    ∷ [])
