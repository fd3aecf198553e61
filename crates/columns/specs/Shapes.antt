-- The sizes of a channel's trellis at a depth.
use Rattle.std.specs.Prelude.{◌≡◌, ℕ}
use Rattle.channel.specs.Meaning.{Meaning}
use Rattle.burst.specs.Histories.{histories}
use Rattle.recursions.specs.Depths.{states}
use Rattle.columns.specs.declared.shape.Shape.{Shape}

-- The shape is that of the meaning at the depth.
pub record Shapes (m : Meaning) (q : ℕ) (shape : Shape) : Type 0 where
  pub symbols : shape.symbols ≡ m.symbols
  pub states : shape.states ≡ states m q
  pub histories : shape.histories ≡ histories m
