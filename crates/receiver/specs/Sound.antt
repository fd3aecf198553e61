-- When a burst is sound for a channel's meaning: what is marked fresh is right.
use Rattle.std.specs.Prelude.{◌≡◌, ℕ, ◌<◌, ◌≤◌, Bool, true}
use Rattle.channel.specs.Meaning.{Meaning, Lawful, taken}
use Rattle.burst.specs.Places.{priors_allowed}
use Rattle.burst.specs.Sequences.{place_at}
use Rattle.burst.specs.declared.place.Place.{Place}
use Rattle.recursions.specs.Backward.{backward}
use Rattle.recursions.specs.Depths.{states, depth_allowed}
use Rattle.recursions.specs.Forward.{forward}
use Rattle.columns.specs.Cells.{cells_of, costs_of}
use Rattle.columns.specs.Shapes.{Shapes}
use Rattle.receiver.specs.Bursts.{places_of, forward_at, backward_at}
use Rattle.receiver.specs.Standing.{full_depth}
use Rattle.receiver.specs.declared.inner.Burst.{Burst}

-- the depth is allowed, and the sizes are those of the channel at it
pub record Shaped (m : Meaning) (b : Burst) : Type 0 where
  pub allowed : depth_allowed m b.depth ≡ true
  pub shape : Shapes m b.depth b.shape

-- the channel takes the sample of a place, and its priors keep their rule
pub record Fits (m : Meaning) (p : Place) : Type 0 where
  pub sample : taken m p.sample ≡ true
  pub priors : priors_allowed m.symbols p.priors ≡ true

-- there is room for a place that fits
pub record HasRoom (m : Meaning) (b : Burst) (p : Place) : Type 0 where
  pub room : b.count < 128
  pub place : Fits m p

-- the channel keeps its laws, and whether the depth is full is told rightly
pub record TellsFull (m : Meaning) (b : Burst) (full : Bool) : Type 0 where
  pub lawful : Lawful m
  pub right : full ≡ full_depth m b.depth

pub record Sound (m : Meaning) (b : Burst) : Type 0 where
  pub shaped : Shaped m b
  pub fits : (k : ℕ) → k < b.count → Fits m (place_at (places_of b) k)
  -- the fresh forward columns are those of the recursion over the places that stand
  pub forward : (k : ℕ) → k ≤ b.marks.forward → cells_of (states m b.depth) (forward_at b k) ≡ forward m b.depth (places_of b) k
  -- and so are the fresh backward columns
  pub backward : (k : ℕ) → b.marks.backward ≤ k → k ≤ b.count → costs_of (states m b.depth) (backward_at b k) ≡ backward m b.depth (places_of b) k
