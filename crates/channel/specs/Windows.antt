-- Windows and histories as numbers: the newest symbol weighs 1, the one before it M, the one before that M times M, and so on.
use Rattle.std.specs.Prelude.{ℕ, ◌+◌, ◌*◌, ◌/◌, ◌%◌, ◌^◌, List, [], ◌∷◌}

-- the number of some symbols, the newest first: the newest, plus M times the number of those before it
abbrev pub window_number : ℕ → List ℕ → ℕ
window_number symbols [] = 0
window_number symbols (newest ∷ before) = newest + symbols * window_number symbols before

-- the symbol that stands some places back in a window, 0 for the newest
abbrev pub symbol_at : ℕ → ℕ → ℕ → ℕ
symbol_at symbols window back = window / symbols ^ back % symbols
