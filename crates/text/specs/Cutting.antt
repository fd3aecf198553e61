-- The lines of a text: each ends with a line feed, but for bytes after the last one.
use Rattle.std.specs.Prelude.{◌≡◌, ℕ, ◌⊎◌, List, [], ◌++◌}
use Rattle.std.specs.List.{AllByRecursion}
use Rattle.forms.specs.Forms.{feed}

-- a byte that is no line feed
abbrev pub NoFeed : ℕ → Type 0
NoFeed c = c ≡ 10 → ⊥

-- a whole line: bytes that are no line feed, and then one
abbrev pub WholeLine : List ℕ → Type 0
WholeLine line = (bytes : List ℕ) × (line ≡ bytes ++ feed) × AllByRecursion NoFeed bytes

-- the first line before the rest of a text: a whole one, or all there is if there is no line feed
abbrev pub FirstLine : List ℕ → List ℕ → Type 0
FirstLine line rest = WholeLine line ⊎ (AllByRecursion NoFeed line × (rest ≡ []))

-- a text is its first line and the rest
pub record CutsLine (text line rest : List ℕ) : Type 0 where
  pub parts : text ≡ line ++ rest
  pub first : FirstLine line rest
