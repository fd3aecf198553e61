-- The forward columns: each worked from the column before, with a history and a survivor for each state.
use Rattle.std.specs.Prelude.{ℕ, zero, suc, ◌+◌, ◌*◌, ◌/◌, ◌%◌, Bool, cond, ◌&&◌, List, map, Some, None, Option, ◌==◌, slice_index_or}
use Rattle.std.specs.List.{range_with_len}
use Rattle.cost.specs.Arithmetic.{plus, barred}
use Rattle.cost.specs.declared.Cost.{Cost}
use Rattle.cost.specs.declared.Cost.TheVariants.{Eighths, Barred}
use Rattle.channel.specs.Meaning.{Meaning}
use Rattle.joining.specs.Costs.{cost_operations}
use Rattle.trellis.specs.Sequences.{join_below}
use Rattle.burst.specs.Histories.{histories}
use Rattle.burst.specs.Places.{prior_cost}
use Rattle.burst.specs.Sequences.{place_at, window_cost}
use Rattle.burst.specs.declared.place.Place.{Place}
use Rattle.recursions.specs.Depths.{states}
use Rattle.recursions.specs.Firsts.{first_under, same_cost}

-- What a forward column has for a state.
pub record Cell : Type 0 where
  -- A, the least cost of what leads to the state
  pub cost : Cost
  -- h, the history that the survivor leaves
  pub history : ℕ
  -- the state and the symbol that the least came by
  pub survivor : Option (ℕ × ℕ)

-- a column's cell of a state; past its end one that no definition asks for
abbrev pub cell_at : List Cell → ℕ → Cell
cell_at column s = slice_index_or column s (record { cost = Barred; history = 0; survivor = None })

-- Column 0: state 0 costs nothing and the others are barred; each history is the state itself.
abbrev pub start_cell : ℕ → Cell
start_cell s = record { cost = cond (s == 0) (Eighths 0) Barred; history = s; survivor = None }

-- The weight of a symbol in a state at a place: the channel's cost of the window with the state's history, plus the symbol's prior.
abbrev pub weight : Meaning → Place → List Cell → ℕ → ℕ → Cost
weight m place column s a = plus (window_cost m place (cell_at column s).history a) (prior_cost place.priors a)

-- the state after a state and a symbol
abbrev pub next : Meaning → ℕ → ℕ → ℕ → ℕ
next m q s a = (a + m.symbols * s) % states m q

-- what it costs to come by a state and a symbol
abbrev pub via : Meaning → Place → List Cell → ℕ → ℕ → Cost
via m place column s a = plus (cell_at column s).cost (weight m place column s a)

-- the least over all pairs of a state and a symbol whose next state is t
abbrev pub least_into : Meaning → ℕ → Place → List Cell → ℕ → Cost
least_into m q place column t =
    join_below cost_operations (states m q) (λ s. join_below cost_operations m.symbols (λ a.
    cond (next m q s a == t) (via m place column s a) Barred))

-- The pairs count by their states and then by their symbols: the pair of s and a is number a + M · s.
abbrev pub pair_of : Meaning → ℕ → ℕ × ℕ
pair_of m p = (p / m.symbols, p % m.symbols)

-- the pair p leads to t and costs c
abbrev pub leads_to : Meaning → ℕ → Place → List Cell → ℕ → Cost → ℕ → Bool
leads_to m q place column t c p = p % states m q == t && same_cost (via m place column (p / m.symbols) (p % m.symbols)) c

-- the pair of a number, if there is one
abbrev pub pair_if : Meaning → Option ℕ → Option (ℕ × ℕ)
pair_if m None = None
pair_if m (Some p) = Some (pair_of m p)

-- The survivor of t: the first pair that leads to t and costs the least; none where that is barred.
abbrev pub survivor_into : Meaning → ℕ → Place → List Cell → ℕ → Cost → Option (ℕ × ℕ)
survivor_into m q place column t c =
    cond (barred c) None (pair_if m (first_under (states m q * m.symbols) (leads_to m q place column t c)))

-- The new history: the survivor's symbol becomes the newest of its state's history; without a survivor the state itself.
abbrev pub history_into : Meaning → List Cell → ℕ → Option (ℕ × ℕ) → ℕ
history_into m column t None = t
history_into m column t (Some pair) = (pair.1 + m.symbols * (cell_at column pair.0).history) % histories m

-- the cell of t, given the least
abbrev pub cell_of : Meaning → ℕ → Place → List Cell → ℕ → Cost → Cell
cell_of m q place column t c = record {
  cost = c;
  history = history_into m column t (survivor_into m q place column t c);
  survivor = survivor_into m q place column t c;
}

-- The column after one place more.
unfoldable pub step : Meaning → ℕ → Place → List Cell → List Cell
step m q place column = map (λ t. cell_of m q place column t (least_into m q place column t)) (range_with_len 0 (states m q))

-- Column k of a list of places.
unfoldable pub forward : Meaning → ℕ → List Place → ℕ → List Cell
forward m q places zero = map start_cell (range_with_len 0 (states m q))
forward m q places (suc k) = step m q (place_at places k) (forward m q places k)
