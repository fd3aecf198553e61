-- The answers of a least-cost sweep read as costs: least totals, and at full depth the receiver's costs.
use Rattle.std.specs.Prelude.{◌≡◌, ℕ, ◌+◌, ◌*◌, ◌<◌, List, length, nat_eq, slice_index, slice_index_or}
use Rattle.cost.specs.declared.Cost.{Cost}
use Rattle.channel.specs.Meaning.{Meaning}
use Rattle.joining.specs.LeastCosts.{least_cost}
use Rattle.joining.specs.declared.LeastCost.{LeastCost}
use Rattle.trellis.specs.Least.{IsLeast}
use Rattle.burst.specs.Sequences.{total}
use Rattle.burst.specs.declared.place.Place.{Place}
use Rattle.recursions.specs.Answers.{value_cost}
use Rattle.columns.specs.Numbers.{as_cost}

-- the answer for the value a at the place k as a cost: 4,294,967,295 is barred, any other number is so many eighths
abbrev pub total_at : Meaning → List LeastCost → ℕ → ℕ → Cost
total_at m answers k a = as_cost (slice_index_or answers (k * m.symbols + a) (least_cost 4294967295)).number

-- Each answer is the least total of all sequences with its value at its place, and barred exactly if none of them is admitted.
unfoldable pub LeastTotals : Meaning → List Place → List LeastCost → Type 0
LeastTotals m places answers =
    (k a : ℕ) → k < length places → a < m.symbols
    → IsLeast m.symbols (length places) (λ sequence. nat_eq a (slice_index sequence k)) (total m places) (total_at m answers k a)

-- Each answer is the cost of its value at its place by the recursions at the depth q.
unfoldable pub ValueCosts : Meaning → ℕ → List Place → List LeastCost → Type 0
ValueCosts m q places answers = (k a : ℕ) → k < length places → a < m.symbols → total_at m answers k a ≡ value_cost m q places k a
