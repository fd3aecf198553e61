-- The lines of a text, one after another.
use Rattle.std.specs.Prelude.{◌≡◌, ℕ, ◌<◌, List, length, MatchOption, Option}
use Rattle.std.specs.Borrow.{Bor}
use Rattle.text.specs.Cutting.{CutsLine}
use Rattle.text.specs.declared.lines.Lines.{Lines}

-- what is left of the text
abbrev pub left_of : Lines → List ℕ
left_of lines = lines.rest.now

-- the next line is cut from what is left, or nothing is
abbrev pub NextLine : Lines → Option (Bor (List ℕ)) → Lines → Type 0
NextLine before line after =
    MatchOption line ((length (left_of before) ≡ 0) × (after ≡ before))
    (λ l. (0 < length (left_of before)) × CutsLine (left_of before) l.now (left_of after))
