-- What is written into a draft, and handed over from it.
use Rattle.std.specs.Prelude.{◌≡◌, ℕ, ◌+◌, ◌<◌, ◌≤◌, List, ◌++◌, length, drop, Result, MatchResult}

-- a draft that holds so much has room for so many bytes more
abbrev pub Room : ℕ → List ℕ → Type 0
Room n held = length held + n ≤ 28672

-- A text stands at the front of a list, the rest of which is as it was, and its length is answered; or the list is too short, and is as it was.
abbrev pub Stands : {E : Type 0} → List ℕ → List ℕ → List ℕ → Result ℕ E → Type 0
Stands text before after r =
    MatchResult r (λ n. (n ≡ length text) × (length text ≤ length before) × (after ≡ text ++ drop (length text) before))
    (λ _. (length before < length text) × (after ≡ before))
