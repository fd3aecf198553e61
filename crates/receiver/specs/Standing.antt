-- What stands in a receiver, and what each call makes of it: its answer, and what stands afterwards.
use Rattle.std.specs.Prelude.{ℕ, ◌+◌, ◌-◌, min, max, Bool, cond, not, ◌&&◌, List, [], ◌∷◌, ◌++◌, length, take, Option, ◌==◌, nat_le, nat_lt, slice_set}
use Rattle.cost.specs.Arithmetic.{barred}
use Rattle.cost.specs.declared.Cost.{Cost}
use Rattle.channel.specs.Meaning.{Meaning, taken}
use Rattle.channel.specs.Refusals.{first_of}
use Rattle.channel.specs.declared.sample.Sample.{Sample}
use Rattle.burst.specs.Places.{priors_allowed}
use Rattle.burst.specs.Sequences.{place_at}
use Rattle.burst.specs.declared.place.Place.{Place}
use Rattle.burst.specs.declared.priors.Priors.{Priors}
use Rattle.recursions.specs.Depths.{depth_allowed, largest_depth}
use Rattle.receiver.specs.Bursts.{places_of}
use Rattle.receiver.specs.declared.inner.Burst.{Burst}
use Rattle.receiver.specs.declared.inner.Marks.{Marks}

pub record Standing : Type 0 where
  pub depth : ℕ
  pub places : List Place
  -- F: forward columns 0 to F are fresh
  pub forward : ℕ
  -- R: backward columns R to K are fresh
  pub backward : ℕ

abbrev pub standing : Burst → Standing
standing b = record { depth = b.depth; places = places_of b; forward = b.marks.forward; backward = b.marks.backward }

-- a new receiver: no places, the largest allowed depth
abbrev pub new_standing : Meaning → Standing
new_standing m = record { depth = largest_depth m; places = []; forward = 0; backward = 0 }

-- Add, with so many places held: these are 128; the sample is not taken; the priors break their rule.
abbrev pub add_refusal : Meaning → ℕ → Place → Option ℕ
add_refusal m count p =
    first_of ((nat_le 128 count, 3) ∷ ((not (taken m p.sample), 4) ∷ ((not (priors_allowed m.symbols p.priors), 5) ∷ [])))

-- one place more; F stays, and R is the new K
abbrev pub added : Standing → Place → Standing
added s p = record { depth = s.depth; places = s.places ++ (p ∷ []); forward = s.forward; backward = length s.places + 1 }

-- Depth: it is not allowed.
abbrev pub depth_refusal : Meaning → ℕ → Option ℕ
depth_refusal m q = first_of ((not (depth_allowed m q), 7) ∷ [])

-- another depth; F is 0, and R is K
abbrev pub deepened : Standing → ℕ → Standing
deepened s q = record { depth = q; places = s.places; forward = 0; backward = length s.places }

-- Retake, with so many places held: the sample is not taken; there is no such place.
abbrev pub retake_refusal : Meaning → ℕ → ℕ → Sample → Option ℕ
retake_refusal m count k z = first_of ((not (taken m z), 4) ∷ ((nat_le count k, 6) ∷ []))

-- Reweigh: the priors break their rule; there is no such place.
abbrev pub reweigh_refusal : Meaning → ℕ → ℕ → Priors → Option ℕ
reweigh_refusal m count k priors = first_of ((not (priors_allowed m.symbols priors), 5) ∷ ((nat_le count k, 6) ∷ []))

-- the depth is full
abbrev pub full_depth : Meaning → ℕ → Bool
full_depth m q = q == m.memory

-- The marks after a change at place k of so many: F is at most k. At full depth R is at least k + 1; otherwise the weights of all backward columns may have
-- changed with the forward histories, and R is K.
abbrev pub marks_after : Bool → ℕ → ℕ → Marks → Marks
marks_after full count k marks = record { forward = min marks.forward k; backward = cond full (max marks.backward (k + 1)) count }

-- another place k
abbrev pub altered : Bool → Standing → ℕ → Place → Standing
altered full s k p = record {
  depth = s.depth;
  places = slice_set s.places k p;
  forward = min s.forward k;
  backward = cond full (max s.backward (k + 1)) (length s.places);
}

-- another sample at place k, its priors kept
abbrev pub retaken : Bool → Standing → ℕ → Sample → Standing
retaken full s k z = altered full s k (record { sample = z; priors = (place_at s.places k).priors })

-- other priors at place k, its sample kept
abbrev pub reweighed : Bool → Standing → ℕ → Priors → Standing
reweighed full s k priors = altered full s k (record { sample = (place_at s.places k).sample; priors = priors })

-- Cut: there are not so many places.
abbrev pub cut_refusal : ℕ → ℕ → Option ℕ
cut_refusal count n = first_of ((nat_lt count n, 6) ∷ [])

-- the last n places removed; F is at most the new K, and R is the new K
abbrev pub shortened : Standing → ℕ → Standing
shortened s n = record {
  depth = s.depth;
  places = take (length s.places - n) s.places;
  forward = min s.forward (length s.places - n);
  backward = length s.places - n;
}

-- settled: F is K, and R is 0
abbrev pub settled : Standing → Standing
settled s = record { depth = s.depth; places = s.places; forward = length s.places; backward = 0 }

-- with so many places held, a column is stale
abbrev pub stale : ℕ → Marks → Bool
stale count marks = not (marks.forward == count && marks.backward == 0)

-- Cost and lean: there is no such place; the value is no symbol; a column is stale.
abbrev pub cost_refusal : Meaning → ℕ → Marks → ℕ → ℕ → Option ℕ
cost_refusal m count marks k a = first_of ((nat_le count k, 6) ∷ ((nat_le m.symbols a, 8) ∷ ((stale count marks, 9) ∷ [])))

-- Symbol: there is no such place; a column is stale; the best is none.
abbrev pub symbol_refusal : ℕ → Marks → Cost → ℕ → Option ℕ
symbol_refusal count marks best k = first_of ((nat_le count k, 6) ∷ ((stale count marks, 9) ∷ ((barred best, 10) ∷ [])))

-- Shown, with room for so many bytes: a column is stale; the best is none; there is not room for every place.
abbrev pub shown_refusal : ℕ → Marks → Cost → ℕ → Option ℕ
shown_refusal count marks best room = first_of ((stale count marks, 9) ∷ ((barred best, 10) ∷ ((nat_lt room count, 11) ∷ [])))
