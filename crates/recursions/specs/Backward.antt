-- The backward columns: each worked from the column after it, with the weights of the forward histories.
use Rattle.std.specs.Prelude.{ℕ, zero, suc, ◌-◌, List, map, length, slice_index_or}
use Rattle.std.specs.List.{range_with_len}
use Rattle.cost.specs.Arithmetic.{plus}
use Rattle.cost.specs.declared.Cost.{Cost}
use Rattle.cost.specs.declared.Cost.TheVariants.{Eighths, Barred}
use Rattle.channel.specs.Meaning.{Meaning}
use Rattle.joining.specs.Costs.{cost_operations}
use Rattle.trellis.specs.Sequences.{join_below}
use Rattle.burst.specs.Sequences.{place_at}
use Rattle.burst.specs.declared.place.Place.{Place}
use Rattle.recursions.specs.Depths.{states}
use Rattle.recursions.specs.Forward.{Cell, weight, next, forward}

-- a backward column's cost of a state
abbrev pub cost_at : List Cost → ℕ → Cost
cost_at column s = slice_index_or column s Barred

-- the last column: 0 for every state
unfoldable pub last_column : Meaning → ℕ → List Cost
last_column m q = map (λ s. Eighths 0) (range_with_len 0 (states m q))

-- what it costs from a state on by a symbol: its weight, and what the later column has for the next state
abbrev pub onward : Meaning → ℕ → Place → List Cell → List Cost → ℕ → ℕ → Cost
onward m q place column later s a = plus (weight m place column s a) (cost_at later (next m q s a))

-- The column before: the least over the symbols, with the forward column of its place.
unfoldable pub backstep : Meaning → ℕ → Place → List Cell → List Cost → List Cost
backstep m q place column later =
    map (λ s. join_below cost_operations m.symbols (onward m q place column later s)) (range_with_len 0 (states m q))

-- Column k, with so many places to come.
unfoldable pub backward_of : Meaning → ℕ → List Place → ℕ → ℕ → List Cost
backward_of m q places zero k = last_column m q
backward_of m q places (suc left) k =
    backstep m q (place_at places k) (forward m q places k) (backward_of m q places left (suc k))

-- Column k of a list of places.
abbrev pub backward : Meaning → ℕ → List Place → ℕ → List Cost
backward m q places k = backward_of m q places (length places - k) k
