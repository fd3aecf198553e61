-- The admitted joining: whether there is a way at all.
use Rattle.std.specs.Prelude.{Bool, true, false, ◌&&◌, ◌||◌}
use Rattle.cost.specs.declared.Cost.{Cost}
use Rattle.cost.specs.declared.Cost.TheVariants.{Eighths, Barred}
use Rattle.joining.specs.Laws.{Operations}
use Rattle.joining.specs.declared.Admitted.{Admitted}

abbrev pub admitted : Bool → Admitted
admitted b = record { yes = b }

abbrev pub admitted_operations : Operations Admitted
admitted_operations = record {
  none = admitted false;
  unit = admitted true;
  join = λ x y. admitted (x.yes || y.yes);
  follow = λ x y. admitted (x.yes && y.yes);
}

-- every number is worth yes
abbrev pub admitted_worth : Cost → Admitted
admitted_worth (Eighths n) = admitted true
admitted_worth Barred = admitted false
