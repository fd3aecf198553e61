-- The laws of the admitted joining, by cases.
use Rattle.std.specs.Prelude.{◌≡◌, Bool, true, false, ◌&&◌, ◌||◌, refl}
use Rattle.std.proofs.Common.{ap}
use Rattle.joining.specs.Laws.{Laws}
use Rattle.joining.specs.Admitting.{admitted, admitted_operations}

or_assoc : (x y z : Bool) → ((x || y) || z) ≡ (x || (y || z))
or_assoc true y z = refl
or_assoc false y z = refl

or_comm : (x y : Bool) → (x || y) ≡ (y || x)
or_comm true true = refl
or_comm true false = refl
or_comm false true = refl
or_comm false false = refl

or_false : (x : Bool) → (x || false) ≡ x
or_false true = refl
or_false false = refl

and_assoc : (x y z : Bool) → ((x && y) && z) ≡ (x && (y && z))
and_assoc true y z = refl
and_assoc false y z = refl

and_true : (x : Bool) → (x && true) ≡ x
and_true true = refl
and_true false = refl

and_false : (x : Bool) → (x && false) ≡ false
and_false true = refl
and_false false = refl

and_or : (x y z : Bool) → (x && (y || z)) ≡ ((x && y) || (x && z))
and_or true y z = refl
and_or false y z = refl

or_and : (x y z : Bool) → ((x || y) && z) ≡ ((x && z) || (y && z))
or_and true y true = refl
or_and true true false = refl
or_and true false false = refl
or_and false y z = refl

pub admitted_laws : Laws admitted_operations
admitted_laws = record {
  join_assoc = λ x y z. ap admitted (or_assoc x.yes y.yes z.yes);
  join_comm = λ x y. ap admitted (or_comm x.yes y.yes);
  join_none = λ x. ap admitted (or_false x.yes);
  follow_assoc = λ x y z. ap admitted (and_assoc x.yes y.yes z.yes);
  follow_unit = λ x. ap admitted (and_true x.yes);
  unit_follow = λ x. refl;
  follow_none = λ x. ap admitted (and_false x.yes);
  none_follow = λ x. refl;
  follow_join = λ x y z. ap admitted (and_or x.yes y.yes z.yes);
  join_follow = λ x y z. ap admitted (or_and x.yes y.yes z.yes);
}
