-- A worked backward column is the rule's step back, and what is read where columns meet is the rule's cost.
use Rattle.std.proofs.Common.{◌≡◌, ℕ, ◌+◌, ◌*◌, ◌/◌, ◌%◌, ◌<◌, ◌≤◌, List, length, get_or, sym, ap, ◌∙◌, subst, ap₂, inl, inr, mod-lt, mul_comm, arith}
use lib.Arith.{digits_div, digits_mod}
use Rattle.std.proofs.lemmas.Bool.{cases_lt}
use Rattle.cost.specs.declared.Cost.{Cost}
use Rattle.cost.specs.Arithmetic.{plus}
use Rattle.channel.specs.Meaning.{Meaning}
use Rattle.burst.specs.declared.place.Place.{Place}
use Rattle.joining.specs.Costs.{cost_operations}
use Rattle.trellis.specs.Sequences.{join_below}
use Rattle.trellis.proofs.Below.{below_cong}
use Rattle.recursions.specs.Depths.{states}
use Rattle.recursions.specs.Forward.{Cell, weight, via, next}
use Rattle.recursions.specs.Backward.{cost_at, onward, backstep}
use Rattle.recursions.proofs.Locality.{counted_same}
use Rattle.columns.specs.Numbers.{as_cost, Within}
use Rattle.columns.specs.Cells.{cells_of, costs_of, CostsWithin, CellsWithin}
use Rattle.columns.specs.Pairs.{sum, onward_sum, least_onward, least_through, Weighed, Extended}
use Rattle.columns.specs.Shapes.{Shapes}
use Rattle.columns.specs.Worked.{Backstepped, Met}
use Rattle.columns.specs.declared.column.Column.{Column}
use Rattle.columns.specs.declared.shape.Shape.{Shape}
use Rattle.columns.proofs.Every.{cost_within, sixteen_within}
use Rattle.columns.proofs.Minima.{min_as, min_within}
use Rattle.columns.proofs.Numbers.{sum_as_cost, sum_within, within_top}
use Rattle.columns.proofs.Pairs.{pair_below, pair_fits}
use Rattle.columns.proofs.Sums.{cost_at_lem, pairs_are, sum_bounded, weights_are, weights_within, sums_are, sums_within}

-- the state and the symbol of a pair
pair_state : (m : Meaning) (s a : ℕ) → a < m.symbols → (a + m.symbols * s) / m.symbols ≡ s
pair_state m s a la =
    let turned : a + m.symbols * s ≡ s * m.symbols + a = omega (arith, mul_comm m.symbols s) in
    ap (λ (p : ℕ). p / m.symbols) turned ∙ digits_div s la

pair_symbol : (m : Meaning) (s a : ℕ) → a < m.symbols → (a + m.symbols * s) % m.symbols ≡ a
pair_symbol m s a la =
    let turned : a + m.symbols * s ≡ s * m.symbols + a = omega (arith, mul_comm m.symbols s) in
    ap (λ (p : ℕ). p % m.symbols) turned ∙ digits_mod s la

module _ (m : Meaning) (q : ℕ) (shape : Shape) (shapes : Shapes m q shape) (later : List ℕ) (b d : ℕ) (within : CostsWithin b later) (low : d + b < 4294967295)
    (numbers : List ℕ) (f : ℕ → ℕ → Cost)
    (are : (p : ℕ) → p < states m q * m.symbols → as_cost (get_or numbers p 0) ≡ f (p / m.symbols) (p % m.symbols))
    (small : (p : ℕ) → p < states m q * m.symbols → Within d (get_or numbers p 0)) where
  pair_of : (s a : ℕ) → s < states m q → a < m.symbols → a + m.symbols * s < states m q * m.symbols
  pair_of s a ls la =
      subst (λ (k : ℕ). a + k * s < states m q * m.symbols) shapes.symbols
      (omega (arith, pair_below shape s a (omega (arith, shapes.states)) (omega (arith, shapes.symbols)), pairs_are m q shape shapes))

  -- what goes on from a pair stands for its cost and that of its next state
  pub onward_is : (s a : ℕ) → s < states m q → a < m.symbols
      → as_cost (onward_sum (states m q) numbers later (a + m.symbols * s)) ≡ plus (f s a) (cost_at (costs_of (states m q) later) (next m q s a))
  onward_is s a ls la =
      let p : ℕ = a + m.symbols * s in
      let there : p % states m q < states m q = mod-lt p (omega arith) in
      sum_as_cost d b _ _ (small p (pair_of s a ls la)) (cost_within b later within (p % states m q)) low
      ∙ ap₂ plus (are p (pair_of s a ls la) ∙ ap₂ f (pair_state m s a la) (pair_symbol m s a la)) (sym (cost_at_lem (states m q) later (p % states m q) there))

-- what goes on from a pair within bounds
pub onward_bounded : (shape : Shape) (numbers later : List ℕ) (b d : ℕ) → CostsWithin b later → d + b < 4294967295 → (p : ℕ) → Within d (get_or numbers p 0)
    → Within (d + b) (onward_sum shape.states numbers later p)
onward_bounded shape numbers later b d within low p small = sum_within d b _ _ small (cost_within b later within (p % shape.states)) low

-- sums stop at the number that stands for barred
sum_fits : (x y : ℕ) → sum x y ≤ 4294967295
sum_fits x y = omega arith

-- whole columns from their costs
costs_by : (m : Meaning) (q : ℕ) (place : Place) (cells : List Cell) (later : List Cost) (costs : List ℕ)
    → ((s : ℕ) → s < states m q → as_cost (get_or costs s 0) ≡ join_below cost_operations m.symbols (onward m q place cells later s))
    → costs_of (states m q) costs ≡ backstep m q place cells later
unfolding costs_of backstep
costs_by m q place cells later costs same =
    counted_same (λ s. as_cost (get_or costs s 0)) (λ s. join_below cost_operations m.symbols (onward m q place cells later s)) (states m q) same

module _ (m : Meaning) (q : ℕ) (shape : Shape) (shapes : Shapes m q shape) (place : Place) (column : Column) (weights : List ℕ)
    (weighed : Weighed m shape place column weights) (later : List ℕ) (b : ℕ) (within : CostsWithin b later) where
  module _ (low : b ≤ 40000000) (costs : List ℕ)
      (worked : (s : ℕ) → s < shape.states → get_or costs s 0 ≡ least_onward shape.symbols shape.states weights later s) where
    -- in the sizes of the meaning
    worked_of : (s : ℕ) → s < states m q → get_or costs s 0 ≡ least_onward m.symbols (states m q) weights later s
    worked_of s ls =
        worked s (omega (arith, shapes.states))
        ∙ ap₂ (λ (k n : ℕ). least_onward k n weights later s) shapes.symbols shapes.states

    cost_of_lem : (s : ℕ) → s < states m q
        → as_cost (get_or costs s 0) ≡ join_below cost_operations m.symbols (onward m q place (cells_of (states m q) column) (costs_of (states m q) later) s)
    cost_of_lem s ls =
        ap as_cost (worked_of s ls)
        ∙ min_as m.symbols _ (λ a la. sum_fits _ _)
        ∙ below_cong cost_operations m.symbols _ _ (λ a la.
        onward_is m q shape shapes later b 131069 within (omega arith) weights (weight m place (cells_of (states m q) column))
        (weights_are m q shape shapes place column weights weighed) (weights_within m q shape shapes place column weights weighed) s a ls la)

    pub backstepped_by : Backstepped m q place column later costs
    backstepped_by = costs_by m q place (cells_of (states m q) column) (costs_of (states m q) later) costs cost_of_lem

  module _ (low : b ≤ 20000000) (bounded : CellsWithin b column) (sums : List ℕ)
      (summed : Extended shape column weights sums) (a : ℕ) (la : a < shape.symbols) (r : ℕ)
      (read : r ≡ least_through shape.symbols shape.states sums later a) where
    read_of : r ≡ least_through m.symbols (states m q) sums later a
    read_of = read ∙ ap₂ (λ (k n : ℕ). least_through k n sums later a) shapes.symbols shapes.states

    symbol_of : a < m.symbols
    symbol_of = omega (arith, shapes.symbols)

    pub met_by : Met m q place column later a r
    met_by =
        ap as_cost read_of
        ∙ min_as (states m q) _ (λ s ls. sum_fits _ _)
        ∙ below_cong cost_operations (states m q) _ _ (λ s ls.
        onward_is m q shape shapes later b (b + 131069) within (omega arith) sums (via m place (cells_of (states m q) column))
        (sums_are m q shape shapes place column weights weighed b bounded (omega arith) sums summed)
        (sums_within m q shape shapes place column weights weighed b bounded (omega arith) sums summed) s a ls symbol_of)

-- a column worked back adds one weight at most
pub backstepped_within : (shape : Shape) (weights later costs : List ℕ) → ((p : ℕ) → p < 64 → Within 131069 (get_or weights p 0)) → length costs ≡ 16
    → ((s : ℕ) → s < shape.states → get_or costs s 0 ≡ least_onward shape.symbols shape.states weights later s)
    → ((s : ℕ) → shape.states ≤ s → s < 16 → get_or costs s 0 ≡ 4294967295)
    → (b : ℕ) → CostsWithin b later → b ≤ 40000000 → CostsWithin (b + 131069) costs
backstepped_within shape weights later costs small long worked barred b within low =
    sixteen_within (b + 131069) costs long (λ s lt.
    elim (cases_lt s shape.states) [
      | inl there ↦
          let turned : 131069 + b ≡ b + 131069 = omega arith in
          subst (Within (b + 131069)) (sym (worked s there))
          (min_within (b + 131069) shape.symbols _ (λ a la.
          subst (λ (k : ℕ). Within k (onward_sum shape.states weights later (a + shape.symbols * s))) turned
          (onward_bounded shape weights later b 131069 within (omega arith) (a + shape.symbols * s) (small _ (pair_fits shape s a there la)))))
      | inr past ↦ within_top (b + 131069) (get_or costs s 0) (barred s past lt)
    ])

-- what is read where columns meet adds up both bounds and one weight
pub met_within : (shape : Shape) (column : Column) (weights sums later : List ℕ) → ((p : ℕ) → p < 64 → Within 131069 (get_or weights p 0))
    → Extended shape column weights sums
    → (a r : ℕ) → a < shape.symbols → r ≡ least_through shape.symbols shape.states sums later a
    → (b : ℕ) → CellsWithin b column → CostsWithin b later → b ≤ 20000000 → Within (b + 131069 + b) r
met_within shape column weights sums later small summed a r la read b bounded within low =
    subst (Within (b + 131069 + b)) (sym read)
    (min_within (b + 131069 + b) shape.states _ (λ s ls.
    onward_bounded shape sums later b (b + 131069) within (omega arith) (a + shape.symbols * s)
    (sum_bounded shape column weights sums small summed b bounded (omega arith) _ (pair_below shape s a ls la))))
