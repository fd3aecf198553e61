-- What a coded bit is, said of the symbols themselves.
use Rattle.std.specs.Prelude.{◌≡◌, ℕ, ◌+◌, ◌%◌, ◌<◌, cond, List, [], ◌∷◌, ◌==◌}
use Rattle.std.specs.List.{AllByRecursion}
use Rattle.channel.specs.Windows.{window_number, symbol_at}
use Rattle.code.specs.Rule.{bit_of_mask}

-- The sum of the symbols that a mask picks, the newest first: the symbol i places back counts if bit i of the mask is set. The first of those given stands at this place.
abbrev pub picked_from : ℕ → ℕ → List ℕ → ℕ
picked_from place mask [] = 0
picked_from place mask (a ∷ before) = cond (symbol_at 2 mask place == 1) a 0 + picked_from (place + 1) mask before

-- Under the window of any symbols, the newest first, the coded bit of any mask is the sum modulo 2 of the symbols that the mask picks.
abbrev pub CodedBitIsTheParity : Type 0
CodedBitIsTheParity =
    (mask : ℕ) (symbols : List ℕ) → AllByRecursion (λ a. a < 2) symbols → bit_of_mask mask (window_number 2 symbols) ≡ picked_from 0 mask symbols % 2
