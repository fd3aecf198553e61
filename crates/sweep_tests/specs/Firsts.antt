-- A joining whose follow is not commutative: which costs come first on some way, leaving out costs of 0.
use Rattle.std.specs.Prelude.{◌%◌, Bool, true, false, cond, ◌&&◌, ◌||◌, ◌==◌}
use Rattle.cost.specs.declared.Cost.{Cost}
use Rattle.cost.specs.declared.Cost.TheVariants.{Eighths, Barred}
use Rattle.joining.specs.Laws.{Operations}
use Rattle.sweep_tests.specs.declared.firsts.Firsts.{Firsts}

abbrev pub firsts : Bool → Bool → Bool → Firsts
firsts plain odd even = record { plain = plain; odd = odd; even = even }

-- there is a way
abbrev pub some : Firsts → Bool
some x = x.plain || (x.odd || x.even)

-- what is first in two parts: that of the former, or that of the latter where the former has none
abbrev pub firsts_operations : Operations Firsts
firsts_operations = record {
  none = firsts false false false;
  unit = firsts true false false;
  join = λ x y. firsts (x.plain || y.plain) (x.odd || y.odd) (x.even || y.even);
  follow = λ x y.
      firsts (x.plain && y.plain) ((x.odd && some y) || (x.plain && y.odd)) ((x.even && some y) || (x.plain && y.even));
}

abbrev pub firsts_worth : Cost → Firsts
firsts_worth (Eighths n) = cond (n == 0) (firsts true false false) (firsts false (n % 2 == 1) (n % 2 == 0))
firsts_worth Barred = firsts false false false
