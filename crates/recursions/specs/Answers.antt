-- What is read off the columns: the costs of values, the best and the shown sequence.
use Rattle.std.specs.Prelude.{ℕ, zero, suc, List, [], ◌∷◌, ◌++◌, length, Some, None, Option}
use Rattle.cost.specs.Arithmetic.{plus}
use Rattle.cost.specs.declared.Cost.{Cost}
use Rattle.channel.specs.Meaning.{Meaning}
use Rattle.joining.specs.Costs.{cost_operations}
use Rattle.trellis.specs.Sequences.{join_below}
use Rattle.burst.specs.Sequences.{place_at}
use Rattle.burst.specs.declared.place.Place.{Place}
use Rattle.recursions.specs.Depths.{states}
use Rattle.recursions.specs.Firsts.{first_under, same_cost}
use Rattle.recursions.specs.Forward.{Cell, cell_at, via, next, forward}
use Rattle.recursions.specs.Backward.{cost_at, backward}

-- what a symbol costs where a forward and the next backward column meet: the least over all states
abbrev pub meeting : Meaning → ℕ → Place → List Cell → List Cost → ℕ → Cost
meeting m q place column later a =
    join_below cost_operations (states m q) (λ s. plus (via m place column s a) (cost_at later (next m q s a)))

-- The cost of a value at a place.
abbrev pub value_cost : Meaning → ℕ → List Place → ℕ → ℕ → Cost
value_cost m q places k a = meeting m q (place_at places k) (forward m q places k) (backward m q places (suc k)) a

-- the least cost of a forward column
abbrev pub least_of : Meaning → ℕ → List Cell → Cost
least_of m q column = join_below cost_operations (states m q) (λ s. (cell_at column s).cost)

-- The best: the least of the last forward column.
abbrev pub best : Meaning → ℕ → List Place → Cost
best m q places = least_of m q (forward m q places (length places))

-- the first state with the least cost of a column
abbrev pub first_least : Meaning → ℕ → List Cell → Option ℕ
first_least m q column = first_under (states m q) (λ s. same_cost (cell_at column s).cost (least_of m q column))

-- the symbols that lead to the survivor's state, then its own symbol; none without a survivor
abbrev pub trace_by : (ℕ → List ℕ) → Option (ℕ × ℕ) → List ℕ
trace_by earlier None = []
trace_by earlier (Some pair) = earlier pair.0 ++ (pair.1 ∷ [])

-- The symbols back along survivors from a state of column k.
unfoldable pub trace : Meaning → ℕ → List Place → ℕ → ℕ → List ℕ
trace m q places zero s = []
trace m q places (suc k) s = trace_by (trace m q places k) (cell_at (forward m q places (suc k)) s).survivor

-- from the state, if there is one
abbrev pub trace_from : Meaning → ℕ → List Place → Option ℕ → List ℕ
trace_from m q places None = []
trace_from m q places (Some s) = trace m q places (length places) s

-- The shown sequence: back along survivors from the first state that has the best.
abbrev pub shown : Meaning → ℕ → List Place → List ℕ
shown m q places = trace_from m q places (first_least m q (forward m q places (length places)))
