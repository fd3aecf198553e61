-- The rule of the taps kind, over the taps and the noise.
use Rattle.std.specs.Prelude.{ℕ, ◌+◌, Bool, false, cond, not, ◌&&◌, List, [], ◌∷◌, length, ℤ, pos, ◌+ℤ◌, neg_ℤ, Option, ◌==◌, nat_le, unsigned_abs}
use Rattle.std.specs.List.{list_all}
use Rattle.channel.specs.Refusals.{first_of}
use Rattle.channel.specs.Samples.{between}
use Rattle.channel.specs.Windows.{symbol_at}
use Rattle.channel.specs.Distances.{square, distance_cost, in_noise_range}
use Rattle.channel.specs.Meaning.{Meaning}

-- a tap is in its range: from -512 to 511
abbrev pub tap_in_range : ℤ → Bool
tap_in_range tap = between (neg_ℤ (pos 512)) (pos 511) tap

-- each tap of the list is in its range
abbrev pub each_in_range : List ℤ → Bool
each_in_range taps = list_all tap_in_range taps

-- a tap times its symbol, where 0 counts as -1 and 1 as +1
abbrev pub symbol_times : ℤ → ℕ → ℤ
symbol_times tap symbol = cond (symbol == 0) (neg_ℤ tap) tap

-- The taps from place i on, each times the symbol as many places back.
abbrev pub echo : ℕ → List ℤ → ℕ → ℤ
echo i [] window = pos 0
echo i (t ∷ ts) window = symbol_times t (symbol_at 2 window i) +ℤ echo (i + 1) ts window

-- The expected number: the sum of tap i times the symbol i places back.
abbrev pub expected : List ℤ → ℕ → ℤ
expected taps window = echo 0 taps window

-- Only samples whose second number is 0 are taken; no window is barred; the cost is that of the distance from the expected number.
abbrev pub taps_meaning : List ℤ → ℕ → Meaning
taps_meaning taps noise = record {
  symbols = 2;
  memory = length taps;
  takes = λ z. (unsigned_abs z.second == 0);
  bars = λ w. false;
  price = λ z w. distance_cost noise (square z.first (expected taps w));
}

-- The checks of loading: one to eight taps, then each tap and the noise in range.
abbrev pub load_refusal : List ℤ → ℤ → Option ℕ
load_refusal taps noise =
    first_of
    ((not (nat_le 1 (length taps) && nat_le (length taps) 8), 1)
    ∷ (not (each_in_range taps && in_noise_range noise), 2)
    ∷ [])
