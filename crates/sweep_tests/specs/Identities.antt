-- The laws of that joining: each is an identity of tests, part by part.
use Rattle.std.specs.Prelude.{◌≡◌, Bool, true, false, ◌&&◌, ◌||◌, refl}
use Rattle.std.proofs.Common.{arith}
use Rattle.std.proofs.lemmas.Bool.Decides.{nat_tests}
use Rattle.joining.specs.Laws.{Laws}
use Rattle.sweep_tests.specs.Firsts.{some, firsts_operations}
use Rattle.sweep_tests.specs.declared.firsts.Firsts.{Firsts}

same_firsts : (x y : Firsts) → x.plain ≡ y.plain → x.odd ≡ y.odd → x.even ≡ y.even → x ≡ y
same_firsts x y p o e j = record { plain = p j; odd = o j; even = e j }

-- the odd or the even part of three that follow each other
first_of_three : (xp xf yp yf yg zp zf zg : Bool)
    → ((((xf && (yp || (yf || yg))) || (xp && yf)) && (zp || (zf || zg))) || ((xp && yp) && zf))
    ≡ ((xf && ((yp && zp) || (((yf && (zp || (zf || zg))) || (yp && zf)) || ((yg && (zp || (zf || zg))) || (yp && zg)))))
    || (xp && ((yf && (zp || (zf || zg))) || (yp && zf))))
first_of_three xp xf yp yf yg zp zf zg = grind (arith, nat_tests)

or_assoc : (x y z : Bool) → ((x || y) || z) ≡ (x || (y || z))
or_assoc x y z = grind (arith, nat_tests)

or_comm : (x y : Bool) → (x || y) ≡ (y || x)
or_comm x y = grind (arith, nat_tests)

or_false : (x : Bool) → (x || false) ≡ x
or_false x = grind (arith, nat_tests)

and_assoc : (x y z : Bool) → ((x && y) && z) ≡ (x && (y && z))
and_assoc x y z = grind (arith, nat_tests)

and_true : (x : Bool) → (x && true) ≡ x
and_true x = grind (arith, nat_tests)

and_false : (x : Bool) → (x && false) ≡ false
and_false x = grind (arith, nat_tests)

followed_by_unit : (xp xf : Bool) → ((xf && (true || (false || false))) || (xp && false)) ≡ xf
followed_by_unit xp xf = grind (arith, nat_tests)

followed_by_none : (xp xf : Bool) → ((xf && (false || (false || false))) || (xp && false)) ≡ false
followed_by_none xp xf = grind (arith, nat_tests)

and_or : (x y z : Bool) → (x && (y || z)) ≡ ((x && y) || (x && z))
and_or x y z = grind (arith, nat_tests)

or_and : (x y z : Bool) → ((x || y) && z) ≡ ((x && z) || (y && z))
or_and x y z = grind (arith, nat_tests)

-- a part followed by either of two
spread_after : (xp xf yp yf yg zp zf zg : Bool)
    → ((xf && ((yp || zp) || ((yf || zf) || (yg || zg)))) || (xp && (yf || zf)))
    ≡ (((xf && (yp || (yf || yg))) || (xp && yf)) || ((xf && (zp || (zf || zg))) || (xp && zf)))
spread_after xp xf yp yf yg zp zf zg = grind (arith, nat_tests)

spread_before : (xp xf yp yf s zf : Bool)
    → (((xf || yf) && s) || ((xp || yp) && zf)) ≡ (((xf && s) || (xp && zf)) || ((yf && s) || (yp && zf)))
spread_before xp xf yp yf s zf = grind (arith, nat_tests)

even_of_three : (xp xg yp yf yg zp zf zg : Bool)
    → ((((xg && (yp || (yf || yg))) || (xp && yg)) && (zp || (zf || zg))) || ((xp && yp) && zg))
    ≡ ((xg && ((yp && zp) || (((yf && (zp || (zf || zg))) || (yp && zf)) || ((yg && (zp || (zf || zg))) || (yp && zg)))))
    || (xp && ((yg && (zp || (zf || zg))) || (yp && zg))))
even_of_three xp xg yp yf yg zp zf zg = grind (arith, nat_tests)

even_spread_after : (xp xg yp yf yg zp zf zg : Bool)
    → ((xg && ((yp || zp) || ((yf || zf) || (yg || zg)))) || (xp && (yg || zg)))
    ≡ (((xg && (yp || (yf || yg))) || (xp && yg)) || ((xg && (zp || (zf || zg))) || (xp && zg)))
even_spread_after xp xg yp yf yg zp zf zg = grind (arith, nat_tests)

pub firsts_laws : Laws firsts_operations
firsts_laws = record {
  join_assoc = λ x y z. same_firsts _ _ (or_assoc x.plain _ _) (or_assoc x.odd _ _) (or_assoc x.even _ _);
  join_comm = λ x y. same_firsts _ _ (or_comm x.plain y.plain) (or_comm x.odd y.odd) (or_comm x.even y.even);
  join_none = λ x. same_firsts _ _ (or_false x.plain) (or_false x.odd) (or_false x.even);
  follow_assoc = λ x y z. same_firsts _ _
      (and_assoc x.plain y.plain z.plain)
      (first_of_three x.plain x.odd y.plain y.odd y.even z.plain z.odd z.even)
      (even_of_three x.plain x.even y.plain y.odd y.even z.plain z.odd z.even);
  follow_unit = λ x. same_firsts _ _ (and_true x.plain) (followed_by_unit x.plain x.odd) (followed_by_unit x.plain x.even);
  unit_follow = λ x. refl;
  follow_none = λ x. same_firsts _ _ (and_false x.plain) (followed_by_none x.plain x.odd) (followed_by_none x.plain x.even);
  none_follow = λ x. refl;
  follow_join = λ x y z. same_firsts _ _
      (and_or x.plain y.plain z.plain)
      (spread_after x.plain x.odd y.plain y.odd y.even z.plain z.odd z.even)
      (even_spread_after x.plain x.even y.plain y.odd y.even z.plain z.odd z.even);
  join_follow = λ x y z. same_firsts _ _
      (or_and x.plain y.plain z.plain)
      (spread_before x.plain x.odd y.plain y.odd (some z) z.odd)
      (spread_before x.plain x.even y.plain y.even (some z) z.even);
}
