-- Histories: the symbols that a sample depends on besides its own, as a number.
use Rattle.std.specs.Prelude.{ℕ, ◌-◌, ◌^◌}
use Rattle.channel.specs.Meaning.{Meaning}

-- how many histories there are
abbrev pub histories : Meaning → ℕ
histories m = m.symbols ^ (m.memory - 1)
