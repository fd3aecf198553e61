-- What the expected number is, said of the symbols themselves.
use Rattle.std.specs.Prelude.{◌≡◌, ℕ, ◌<◌, List, [], ◌∷◌, length, ℤ, pos, ◌+ℤ◌}
use Rattle.std.specs.List.{AllByRecursion}
use Rattle.channel.specs.Windows.{window_number}
use Rattle.taps.specs.Rule.{symbol_times, expected}

-- The first tap times the newest symbol, plus the second tap times the symbol before it, and so on.
abbrev pub echo_of : List ℤ → List ℕ → ℤ
echo_of [] symbols = pos 0
echo_of (t ∷ ts) [] = pos 0
echo_of (t ∷ ts) (newest ∷ before) = symbol_times t newest +ℤ echo_of ts before

-- Under the window of any symbols, the newest first and as many as there are taps, the expected number is their echo.
abbrev pub ExpectedIsTheEcho : Type 0
ExpectedIsTheEcho =
    (taps : List ℤ) (symbols : List ℕ) → length symbols ≡ length taps → AllByRecursion (λ a. a < 2) symbols
    → expected taps (window_number 2 symbols) ≡ echo_of taps symbols
