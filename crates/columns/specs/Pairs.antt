-- Pairs of a state and a symbol: the pair of s and a is number a + M · s, so that they count by their states and then by their symbols.
use Rattle.std.specs.Prelude.{◌≡◌, ℕ, zero, suc, ◌+◌, ◌*◌, ◌/◌, ◌%◌, ◌<◌, min, List, slice_index}
use Rattle.cost.specs.Arithmetic.{plus}
use Rattle.cost.specs.declared.Cost.{Cost}
use Rattle.channel.specs.Meaning.{Meaning, cost_of}
use Rattle.burst.specs.Places.{prior_cost}
use Rattle.burst.specs.declared.place.Place.{Place}
use Rattle.columns.specs.Cells.{entry_at}
use Rattle.columns.specs.Numbers.{as_cost, Within}
use Rattle.columns.specs.declared.column.Column.{Column}
use Rattle.columns.specs.declared.shape.Shape.{Shape}

-- how many pairs there are
abbrev pub pairs : Shape → ℕ
pairs shape = shape.states * shape.symbols

-- what the symbol of a pair costs after the stored history of its state
abbrev pub pair_weight : Meaning → ℕ → Place → Column → ℕ → Cost
pair_weight m symbols place column p =
    plus (cost_of m place.sample (p % symbols + symbols * (entry_at column (p / symbols)).history)) (prior_cost place.priors (p % symbols))

-- the numbers are what each pair costs, and each is small or barred
pub record Weighed (m : Meaning) (shape : Shape) (place : Place) (column : Column) (weights : List ℕ) : Type 0 where
  pub value : (p : ℕ) → p < pairs shape → as_cost (slice_index weights p) ≡ pair_weight m shape.symbols place column p
  pub small : (p : ℕ) → p < 64 → Within 131069 (slice_index weights p)

-- the sum of two stored costs, which stops at the number that stands for barred
abbrev pub sum : ℕ → ℕ → ℕ
sum x y = min (x + y) 4294967295

-- what it costs to come by a pair: the cost of its state, and its weight
abbrev pub pair_sum : ℕ → Column → List ℕ → ℕ → ℕ
pair_sum symbols column weights p = sum (entry_at column (p / symbols)).cost (slice_index weights p)

-- the sums are those of each pair
abbrev pub Extended : Shape → Column → List ℕ → List ℕ → Type 0
Extended shape column weights sums = (p : ℕ) → p < pairs shape → slice_index sums p ≡ pair_sum shape.symbols column weights p

-- the least of f 0, .., f (n - 1); of nothing the number that stands for barred
unfoldable pub min_below : ℕ → (ℕ → ℕ) → ℕ
min_below zero f = 4294967295
min_below (suc n) f = min (min_below n f) (f n)

-- a pair's number, and what the later column has for its next state
abbrev pub onward_sum : ℕ → List ℕ → List ℕ → ℕ → ℕ
onward_sum states numbers later p = sum (slice_index numbers p) (slice_index later (p % states))

-- the least over the symbols of a state
abbrev pub least_onward : ℕ → ℕ → List ℕ → List ℕ → ℕ → ℕ
least_onward symbols states weights later s = min_below symbols (λ a. onward_sum states weights later (a + symbols * s))

-- the least over the states that a symbol leads on from
abbrev pub least_through : ℕ → ℕ → List ℕ → List ℕ → ℕ → ℕ
least_through symbols states sums later a = min_below states (λ s. onward_sum states sums later (a + symbols * s))
