-- Sums and weights of stored numbers are the rule's, over the cells that a stored column has.
use Rattle.std.proofs.Common.{◌≡◌, ℕ, ◌+◌, ◌*◌, ◌/◌, ◌%◌, ◌<◌, ◌≤◌, List, get_or, sym, ap, ◌∙◌, subst, ap₂, div-lt_iff_lt-mul, arith}
use Rattle.cost.specs.declared.Cost.TheVariants.{Barred}
use Rattle.cost.specs.Arithmetic.{plus}
use Rattle.channel.specs.Meaning.{Meaning, cost_of}
use Rattle.burst.specs.Places.{prior_cost}
use Rattle.burst.specs.declared.place.Place.{Place}
use Rattle.recursions.specs.Depths.{states}
use Rattle.recursions.specs.Forward.{Cell, cell_at, weight, via}
use Rattle.recursions.specs.Backward.{cost_at}
use Rattle.recursions.proofs.Locality.{counted_at}
use Rattle.columns.specs.Numbers.{as_cost, Within}
use Rattle.columns.specs.Cells.{entry_at, stored_cell, cells_of, costs_of, CellsWithin}
use Rattle.columns.specs.Pairs.{pairs, pair_weight, pair_sum, Weighed, Extended}
use Rattle.columns.specs.Shapes.{Shapes}
use Rattle.columns.specs.declared.column.Column.{Column}
use Rattle.columns.specs.declared.shape.Shape.{Shape}
use Rattle.columns.proofs.Every as every
use Rattle.columns.proofs.Numbers.{sum_as_cost, sum_within}

-- a state's cell
pub cell_at_lem : (n : ℕ) (column : Column) (s : ℕ) → s < n → cell_at (cells_of n column) s ≡ stored_cell (entry_at column s)
unfolding cells_of
cell_at_lem n column s lt = counted_at (λ i. stored_cell (entry_at column i)) n s _ lt

-- a state's cost in a backward column
pub cost_at_lem : (n : ℕ) (costs : List ℕ) (s : ℕ) → s < n → cost_at (costs_of n costs) s ≡ as_cost (get_or costs s 0)
unfolding costs_of
cost_at_lem n costs s lt = counted_at (λ i. as_cost (get_or costs i 0)) n s Barred lt

-- as many pairs as the rule has
pub pairs_are : (m : Meaning) (q : ℕ) (shape : Shape) → Shapes m q shape → pairs shape ≡ states m q * m.symbols
pairs_are m q shape shapes = ap₂ (λ (n k : ℕ). n * k) shapes.states shapes.symbols

-- a sum adds one weight at most
pub sum_bounded : (shape : Shape) (column : Column) (weights sums : List ℕ) → ((p : ℕ) → p < 64 → Within 131069 (get_or weights p 0))
    → Extended shape column weights sums
    → (b : ℕ) → CellsWithin b column → b ≤ 40000000 → (p : ℕ) → p < pairs shape → Within (b + 131069) (get_or sums p 0)
sum_bounded shape column weights sums small summed b within low p lt =
    subst (Within (b + 131069)) (sym (summed p lt))
    (sum_within b 131069 _ _ (every.cell_within b column within (p / shape.symbols)) (small p (omega (arith, shape.pairs))) (omega arith))

module _ (m : Meaning) (q : ℕ) (shape : Shape) (shapes : Shapes m q shape) (place : Place) (column : Column) (weights : List ℕ)
    (weighed : Weighed m shape place column weights) where
  abbrev cells : List Cell
  cells = cells_of (states m q) column

  some : 1 ≤ m.symbols
  some = omega (arith, shapes.symbols, shape.some)

  pub state_within : (p : ℕ) → p < states m q * m.symbols → p / m.symbols < states m q
  state_within p lt = (div-lt_iff_lt-mul some).1 lt

  pair_within : (p : ℕ) → p < states m q * m.symbols → p < pairs shape
  pair_within p lt = omega (arith, pairs_are m q shape shapes)

  -- the weight of a pair
  pub weights_are : (p : ℕ) → p < states m q * m.symbols → as_cost (get_or weights p 0) ≡ weight m place cells (p / m.symbols) (p % m.symbols)
  weights_are p lt =
      weighed.value p (pair_within p lt)
      ∙ ap (λ (k : ℕ). pair_weight m k place column p) shapes.symbols
      ∙ ap (λ (h : ℕ). plus (cost_of m place.sample (p % m.symbols + m.symbols * h)) (prior_cost place.priors (p % m.symbols)))
      (sym (ap (λ (c : Cell). c.history) (cell_at_lem (states m q) column (p / m.symbols) (state_within p lt))))

  pub weights_within : (p : ℕ) → p < states m q * m.symbols → Within 131069 (get_or weights p 0)
  weights_within p lt = weighed.small p (omega (arith, pair_within p lt, shape.pairs))

  module _ (b : ℕ) (within : CellsWithin b column) (low : b ≤ 40000000) (sums : List ℕ)
      (summed : Extended shape column weights sums) where
    sum_is : (p : ℕ) → p < states m q * m.symbols → get_or sums p 0 ≡ pair_sum m.symbols column weights p
    sum_is p lt =
        summed p (pair_within p lt) ∙ ap (λ (k : ℕ). pair_sum k column weights p) shapes.symbols

    cost_within : (p : ℕ) → p < states m q * m.symbols → Within b (entry_at column (p / m.symbols)).cost
    cost_within p lt = every.cell_within b column within (p / m.symbols)

    -- what it costs to come by a pair
    pub sums_are : (p : ℕ) → p < states m q * m.symbols → as_cost (get_or sums p 0) ≡ via m place cells (p / m.symbols) (p % m.symbols)
    sums_are p lt =
        ap as_cost (sum_is p lt)
        ∙ sum_as_cost b 131069 _ _ (cost_within p lt) (weights_within p lt) (omega arith)
        ∙ ap₂ plus (sym (ap (λ (c : Cell). c.cost) (cell_at_lem (states m q) column (p / m.symbols) (state_within p lt)))) (weights_are p lt)

    pub sums_within : (p : ℕ) → p < states m q * m.symbols → Within (b + 131069) (get_or sums p 0)
    sums_within p lt = sum_bounded shape column weights sums weighed.small summed b within low p (pair_within p lt)

    pub sums_fit : (p : ℕ) → p < states m q * m.symbols → get_or sums p 0 ≤ 4294967295
    sums_fit p lt = omega (arith, sum_is p lt)
