-- Picking the first least of the pairs that lead to a state.
use Rattle.std.proofs.Common.{ℕ, ◌+◌, ◌*◌, ◌<◌, ◌≤◌, List, mul-le-mul_left, arith}
use Rattle.columns.specs.Arrivals.{Picked}
use Rattle.columns.specs.Pairs.{pairs}
use Rattle.columns.specs.declared.shape.Shape.{Shape}

-- the pairs into a state are pairs
pub way_below : (shape : Shape) (t j : ℕ) → t < shape.states → j < shape.symbols → t + shape.states * j < pairs shape
way_below shape t j lt lj =
    let more : j + 1 ≤ shape.symbols = omega arith in
    let room : shape.states * (j + 1) ≤ shape.states * shape.symbols = mul-le-mul_left shape.states more in
    omega arith

pub picked_below : (shape : Shape) (sums : List ℕ) (t ways p : ℕ) → ways ≤ shape.symbols → t < shape.states → Picked shape.states sums t ways p → p < pairs shape
picked_below shape sums t ways p few lt picked =
    omega (arith, way_below shape t picked.way lt (omega (arith, picked.few)), picked.place)
