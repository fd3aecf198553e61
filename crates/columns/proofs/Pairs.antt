-- The state and the symbol of a pair.
use Rattle.std.proofs.Common.{ℕ, ◌+◌, ◌*◌, ◌/◌, ◌<◌, ◌≤◌, mul_comm, div-lt_iff_lt-mul, mul-le-mul_left, arith}
use Rattle.columns.specs.Pairs.{pairs}
use Rattle.columns.specs.declared.shape.Shape.{Shape}

pub state_below : (shape : Shape) (p : ℕ) → p < pairs shape → p / shape.symbols < shape.states
state_below shape p below = (div-lt_iff_lt-mul (omega (arith, shape.some))).1 below

pub state_of_lem : (shape : Shape) (p : ℕ) → p < pairs shape → p / shape.symbols < 16
state_of_lem shape p below = omega (arith, state_below shape p below, shape.few)

-- the pair of a state and a symbol is one of the pairs
pub pair_below : (shape : Shape) (s a : ℕ) → s < shape.states → a < shape.symbols → a + shape.symbols * s < pairs shape
pair_below shape s a ls la =
    let more : s + 1 ≤ shape.states = omega arith in
    let room : shape.symbols * (s + 1) ≤ shape.symbols * shape.states = mul-le-mul_left shape.symbols more in
    omega (arith, mul_comm shape.symbols shape.states)

pub pair_fits : (shape : Shape) (s a : ℕ) → s < shape.states → a < shape.symbols → a + shape.symbols * s < 64
pair_fits shape s a ls la = omega (arith, pair_below shape s a ls la, shape.pairs)
