-- The sizes of a sweep: how many symbols, histories and places it has.
use Rattle.std.specs.Prelude.{◌≡◌, ℕ, ◌≤◌}
use Rattle.channel.specs.Meaning.{Meaning}
use Rattle.burst.specs.Histories.{histories}

-- The sizes are those of the channel's meaning, and the places are few.
pub record Sized (m : Meaning) (symbols states places : ℕ) : Type 0 where
  pub symbols_are : symbols ≡ m.symbols
  pub states_are : states ≡ histories m
  pub two_symbols : 2 ≤ symbols
  pub four_symbols : symbols ≤ 4
  pub some_states : 1 ≤ states
  pub few_states : states ≤ 128
  pub few_places : places ≤ 128
