-- What the least and the sum of costs obey.
use Rattle.std.specs.Prelude.{◌≡◌}
use Rattle.cost.specs.Arithmetic.{plus, least}
use Rattle.cost.specs.declared.Cost.{Cost}
use Rattle.cost.specs.declared.Cost.TheVariants.{Eighths, Barred}

-- The least of several costs is the same in any order and grouping; barred never is the lesser.
pub record LeastIsAMinimum : Type 0 where
  pub commutes : (c d : Cost) → least c d ≡ least d c
  pub associates : (c d e : Cost) → least (least c d) e ≡ least c (least d e)
  pub repeats : (c : Cost) → least c c ≡ c
  pub barred_last : (c : Cost) → least c Barred ≡ c

-- A sum is the same in any order and grouping; barred absorbs it; a cost is added to a least by adding it to both.
pub record PlusIsASum : Type 0 where
  pub commutes : (c d : Cost) → plus c d ≡ plus d c
  pub associates : (c d e : Cost) → plus (plus c d) e ≡ plus c (plus d e)
  pub nothing : (c : Cost) → plus (Eighths 0) c ≡ c
  pub barred_absorbs : (c : Cost) → plus c Barred ≡ Barred
  pub spreads : (c d e : Cost) → plus c (least d e) ≡ least (plus c d) (plus c e)
