-- A sequence's own windows: what histories and totals are, said of its symbols.
use Rattle.std.specs.Prelude.{◌≡◌, ℕ, zero, suc, ◌-◌, List, reverse, take, slice_index}
use Rattle.cost.specs.Arithmetic.{plus}
use Rattle.cost.specs.declared.Cost.{Cost}
use Rattle.cost.specs.declared.Cost.TheVariants.{Eighths}
use Rattle.channel.specs.Meaning.{Meaning, Lawful, cost_of}
use Rattle.channel.specs.Windows.{window_number}
use Rattle.trellis.specs.Sequences.{Sequence, reach}
use Rattle.burst.specs.Places.{prior_cost}
use Rattle.burst.specs.Sequences.{place_at, cost_trellis, total}
use Rattle.burst.specs.declared.place.Place.{Place}

-- f 0 + .. + f (n - 1)
unfoldable pub sum_below : ℕ → (ℕ → Cost) → Cost
sum_below zero f = Eighths 0
sum_below (suc n) f = plus (sum_below n f) (f n)

-- the number of the last so many symbols of a sequence, the newest first; symbols before place 0 are 0 and add nothing
abbrev pub last_symbols : Meaning → ℕ → List ℕ → ℕ
last_symbols m count seq = window_number m.symbols (take count (reverse seq))

-- the window of a sequence at place k: its last L symbols up to that of place k
abbrev pub own_window : Meaning → List ℕ → ℕ → ℕ
own_window m seq k = last_symbols m m.memory (take (suc k) seq)

-- what a sequence costs at place k: the sample under its own window, and the prior of its own symbol
abbrev pub own_cost : Meaning → List Place → List ℕ → ℕ → Cost
own_cost m places seq k = plus (cost_of m (place_at places k).sample (own_window m seq k)) (prior_cost (place_at places k).priors (slice_index seq k))

-- The history that a sequence leaves is the number of its last L - 1 symbols.
abbrev pub HistoryIsTheLastSymbols : Type 0
HistoryIsTheLastSymbols =
    (m : Meaning) → Lawful m → (places : List Place) (k : ℕ) (seq : List ℕ) → Sequence m.symbols k seq
    → reach (cost_trellis m places) 0 seq ≡ last_symbols m (m.memory - 1) seq

-- So its total is the sum of what it costs at each place.
abbrev pub TotalIsByOwnWindows : Type 0
TotalIsByOwnWindows =
    (m : Meaning) → Lawful m → (places : List Place) (k : ℕ) (seq : List ℕ) → Sequence m.symbols k seq
    → total m places seq ≡ sum_below k (own_cost m places seq)
