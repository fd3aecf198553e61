use Rattle.std.proofs.Common.{◌≡◌, ℕ, ◌<◌, ◌≤◌, Bool, true, false, eqb, MatchOption, None, Some, Option, sym, arith, rules}
use Rattle.std.proofs.lemmas.Iterator.{first_from_Range}
use Rattle.recursions.specs.Firsts.{first_under}
use Rattle.recursions.proofs.Firsts.{first_is, first_none}
use Rattle.columns.specs.Cells.{entry_at}
use Rattle.columns.proofs.column.Column.first_with.Goals as goal

-- the first found is the first of the definition
found : (n : ℕ) (passes : ℕ → Bool) (r : Option ℕ)
    → MatchOption r ((k : ℕ) → 0 ≤ k → k < n → passes k ≡ false) (λ i. (0 ≤ i) × (i < n) × (passes i ≡ true) × ((k : ℕ) → 0 ≤ k → k < i → passes k ≡ false))
    → r ≡ first_under n passes
found n passes None none = sym (first_none n passes (λ k lt. none k (omega arith) lt))
found n passes (Some i) is = sym (first_is n i passes is.1 is.2 (λ k lt. is.3 k (omega arith) lt))

pub returns : goal.returns
returns c =
    let passes : ℕ → Bool = λ s. eqb (entry_at c.args.self.now s).cost c.args.cost in
    found c.args.shape.states passes c.find.result
    (first_from_Range _ _ _ _ (λ i. passes i ≡ true) (λ i. passes i ≡ false) c.find.ensures.ran (λ x q k. search rules) (λ x q k. (search rules, search rules)))
