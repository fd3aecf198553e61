-- The laws of costs as a joining.
use Rattle.std.proofs.Common.{◌≡◌, refl, ap, arith}
use Rattle.cost.specs.declared.Cost.{Cost}
use Rattle.cost.specs.declared.Cost.TheVariants.{Eighths, Barred}
use Rattle.cost.specs.Arithmetic.{plus, least}
use Rattle.joining.specs.Laws.{Laws}
use Rattle.joining.specs.Costs.{cost_operations}

least_assoc : (x y z : Cost) → least (least x y) z ≡ least x (least y z)
least_assoc (Eighths l) (Eighths m) (Eighths n) = ap Eighths (omega arith)
least_assoc (Eighths l) (Eighths m) Barred = refl
least_assoc (Eighths l) Barred z = refl
least_assoc Barred y z = refl

least_comm : (x y : Cost) → least x y ≡ least y x
least_comm (Eighths m) (Eighths n) = ap Eighths (omega arith)
least_comm (Eighths m) Barred = refl
least_comm Barred (Eighths n) = refl
least_comm Barred Barred = refl

least_barred : (x : Cost) → least x Barred ≡ x
least_barred (Eighths n) = refl
least_barred Barred = refl

plus_assoc : (x y z : Cost) → plus (plus x y) z ≡ plus x (plus y z)
plus_assoc (Eighths l) (Eighths m) (Eighths n) = ap Eighths (omega arith)
plus_assoc (Eighths l) (Eighths m) Barred = refl
plus_assoc (Eighths l) Barred z = refl
plus_assoc Barred y z = refl

plus_nothing : (x : Cost) → plus x (Eighths 0) ≡ x
plus_nothing (Eighths n) = ap Eighths (omega arith)
plus_nothing Barred = refl

nothing_plus : (x : Cost) → plus (Eighths 0) x ≡ x
nothing_plus (Eighths n) = ap Eighths (omega arith)
nothing_plus Barred = refl

plus_barred : (x : Cost) → plus x Barred ≡ Barred
plus_barred (Eighths n) = refl
plus_barred Barred = refl

plus_least : (x y z : Cost) → plus x (least y z) ≡ least (plus x y) (plus x z)
plus_least (Eighths l) (Eighths m) (Eighths n) = ap Eighths (omega arith)
plus_least (Eighths l) (Eighths m) Barred = refl
plus_least (Eighths l) Barred (Eighths n) = refl
plus_least (Eighths l) Barred Barred = refl
plus_least Barred y z = refl

least_plus : (x y z : Cost) → plus (least x y) z ≡ least (plus x z) (plus y z)
least_plus (Eighths l) (Eighths m) (Eighths n) = ap Eighths (omega arith)
least_plus (Eighths l) (Eighths m) Barred = refl
least_plus (Eighths l) Barred (Eighths n) = refl
least_plus (Eighths l) Barred Barred = refl
least_plus Barred y z = refl

pub cost_laws : Laws cost_operations
cost_laws = record {
  join_assoc = least_assoc;
  join_comm = least_comm;
  join_none = least_barred;
  follow_assoc = plus_assoc;
  follow_unit = plus_nothing;
  unit_follow = nothing_plus;
  follow_none = plus_barred;
  none_follow = λ x. refl;
  follow_join = plus_least;
  join_follow = least_plus;
}
