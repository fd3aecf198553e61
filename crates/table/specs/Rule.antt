-- The rule of the table kind, over the memory, the entries and the noise.
use Rattle.std.specs.Prelude.{ℕ, ◌+◌, ◌^◌, Bool, true, not, ◌&&◌, List, [], ◌∷◌, length, ℤ, pos, Option, ◌==◌, unsigned_abs}
use Rattle.channel.specs.Refusals.{first_of}
use Rattle.channel.specs.declared.sample.Sample.{Sample}
use Rattle.channel.specs.Samples.{between}
use Rattle.channel.specs.Distances.{square, distance_cost, in_noise_range}
use Rattle.channel.specs.Meaning.{Meaning}
use Rattle.table.specs.declared.entry.Entry.{Entry}
use Rattle.table.specs.declared.entry.Entry.TheVariants.{Barred, Expected}
use Rattle.table.specs.Entries.{each_in_range, entry_at, barred}

-- The squared distance of a sample from an entry: the square of the first number minus the first expected one, plus the square of the second minus
-- the second. A barred entry has none, and its 0 is never asked for.
abbrev pub distance : Sample → Entry → ℕ
distance z Barred = 0
distance z (Expected first second) = square z.first first + square z.second second

-- Every sample in range is taken; a window is barred if its entry is; the cost is that of the distance from its entry.
abbrev pub table_meaning : ℕ → List Entry → ℕ → Meaning
table_meaning memory entries noise = record {
  symbols = 4;
  memory = memory;
  takes = λ z. true;
  bars = λ w. barred (entry_at entries w);
  price = λ z w. distance_cost noise (distance z (entry_at entries w));
}

-- a memory of one to four, and an entry for each window
abbrev pub allowed_size : ℤ → ℕ → Bool
allowed_size memory count = between (pos 1) (pos 4) memory && count == 4 ^ unsigned_abs memory

-- The checks of loading: a memory of one to four and an entry for each window, then each entry and the noise in range.
abbrev pub load_refusal : ℤ → List Entry → ℤ → Option ℕ
load_refusal memory entries noise =
    first_of
    ((not (allowed_size memory (length entries)), 1)
    ∷ (not (each_in_range entries && in_noise_range noise), 2)
    ∷ [])
