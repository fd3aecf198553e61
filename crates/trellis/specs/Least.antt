-- Joins of costs over sequences: the least of them, reached by one of them unless all are barred.
use Rattle.std.specs.Prelude.{◌≡◌, ℕ, Bool, true, cond, List, ◌≢◌}
use Rattle.cost.specs.declared.Cost.{Cost}
use Rattle.cost.specs.declared.Cost.TheVariants.{Barred}
use Rattle.cost.specs.Arithmetic.{AtMost}
use Rattle.joining.specs.Costs.{cost_operations}
use Rattle.trellis.specs.Trellis.{Trellis}
use Rattle.trellis.specs.Sequences.{Sequence, over_all}

-- c is the least of the costs f of the sequences that pass the test; barred exactly if all of these are barred.
pub record IsLeast (symbols k : ℕ) (passes : List ℕ → Bool) (f : List ℕ → Cost) (c : Cost) : Type 0 where
  pub below : (seq : List ℕ) → Sequence symbols k seq → passes seq ≡ true → AtMost c (f seq)
  pub reached : (c ≢ Barred) → (seq : List ℕ) × Sequence symbols k seq × (passes seq ≡ true) × (f seq ≡ c)
  pub all_barred : c ≡ Barred → (seq : List ℕ) → Sequence symbols k seq → passes seq ≡ true → f seq ≡ Barred
  pub barred_if : ((seq : List ℕ) → Sequence symbols k seq → passes seq ≡ true → f seq ≡ Barred) → c ≡ Barred

-- Among all sequences.
abbrev pub OverAllIsLeast : Type 0
OverAllIsLeast =
    (t : Trellis Cost) → t.operations ≡ cost_operations → (k : ℕ) (f : List ℕ → Cost)
    → IsLeast t.symbols k (λ seq. true) f (over_all t k f)

-- Among those that pass a test.
abbrev pub OverSomeIsLeast : Type 0
OverSomeIsLeast =
    (t : Trellis Cost) → t.operations ≡ cost_operations → (k : ℕ) (passes : List ℕ → Bool) (f : List ℕ → Cost)
    → IsLeast t.symbols k passes f (over_all t k (λ seq. cond (passes seq) (f seq) Barred))
