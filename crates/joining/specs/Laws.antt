-- What a joining is: its operations, and the laws that they obey.
use Rattle.std.specs.Prelude.{◌≡◌}

pub record Operations (J : Type 0) : Type 0 where
  -- the join of nothing
  pub none : J
  -- the follow of nothing
  pub unit : J
  -- one or the other
  pub join : J → J → J
  -- one and then the other
  pub follow : J → J → J

-- Join is associative and commutative, and none is neutral. Follow is associative, unit is neutral, it spreads over join from both sides, and it is none if either side is. It need not be commutative.
pub record Laws {J : Type 0} (o : Operations J) : Type 0 where
  pub join_assoc : (x y z : J) → o.join (o.join x y) z ≡ o.join x (o.join y z)
  pub join_comm : (x y : J) → o.join x y ≡ o.join y x
  pub join_none : (x : J) → o.join x o.none ≡ x
  pub follow_assoc : (x y z : J) → o.follow (o.follow x y) z ≡ o.follow x (o.follow y z)
  pub follow_unit : (x : J) → o.follow x o.unit ≡ x
  pub unit_follow : (x : J) → o.follow o.unit x ≡ x
  pub follow_none : (x : J) → o.follow x o.none ≡ o.none
  pub none_follow : (x : J) → o.follow o.none x ≡ o.none
  pub follow_join : (x y z : J) → o.follow x (o.join y z) ≡ o.join (o.follow x y) (o.follow x z)
  pub join_follow : (x y z : J) → o.follow (o.join x y) z ≡ o.join (o.follow x z) (o.follow y z)
