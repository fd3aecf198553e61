-- What a channel means: every definition above channels is written over this record, never over one kind.
use Rattle.std.specs.Prelude.{◌≡◌, ℕ, ◌^◌, ◌≤◌, Bool, cond, ◌&&◌, ◌⊎◌, nat_lt}
use Rattle.cost.specs.declared.Cost.{Cost}
use Rattle.cost.specs.declared.Cost.TheVariants.{Eighths, Barred}
use Rattle.channel.specs.declared.sample.Sample.{Sample}
use Rattle.channel.specs.Samples.{in_range}

pub record Meaning : Type 0 where
  -- the number of symbol values
  pub symbols : ℕ
  -- how many symbols a sample depends on
  pub memory : ℕ
  -- which samples in range it takes
  pub takes : Sample → Bool
  -- which windows are barred, whatever the sample
  pub bars : ℕ → Bool
  -- the eighths that a taken sample costs under a window that is not barred
  pub price : Sample → ℕ → ℕ

-- The number of windows: one for each choice of the symbols that a sample depends on.
abbrev pub windows : Meaning → ℕ
windows m = m.symbols ^ m.memory

-- The sample is in range, and the channel takes it.
abbrev pub taken : Meaning → Sample → Bool
taken m z = in_range z && m.takes z

-- The cost of a sample under a window: barred for a sample that is not taken, past the last window, and where the window is barred.
abbrev pub cost_of : Meaning → Sample → ℕ → Cost
cost_of m z w = cond (taken m z && nat_lt w (windows m)) (cond (m.bars w) Barred (Eighths (m.price z w))) Barred

-- What each channel keeps.
pub record Lawful (m : Meaning) : Type 0 where
  pub two_or_four : (m.symbols ≡ 2) ⊎ (m.symbols ≡ 4)
  pub remembers : 1 ≤ m.memory
  pub few_windows : windows m ≤ 256
  pub bounded : (z : Sample) (w n : ℕ) → cost_of m z w ≡ Eighths n → n ≤ 65535
