-- What readings of a sound burst answer.
use Rattle.std.specs.Prelude.{◌≡◌, ℕ, ◌-◌, ◌<◌, List, ◌++◌, take, drop, Some, None, Ok, Err, Option, Result, ◌≢◌, slice_index}
use Rattle.cost.specs.declared.Cost.TheVariants.{Barred}
use Rattle.channel.specs.Meaning.{Meaning, Lawful}
use Rattle.burst.specs.declared.refusal.Refusal.{Refusal}
use Rattle.recursions.specs.Answers.{best, first_least, trace, shown}
use Rattle.recursions.specs.Depths.{states}
use Rattle.recursions.specs.Forward.{cell_at, forward}
use Rattle.burst.specs.Own.{TotalIsByOwnWindows}
use Rattle.recursions.specs.Laws.{BestIsShown, FullDepthRemembers}
use Rattle.receiver.specs.Bursts.{Fresh, places_of}
use Rattle.receiver.specs.Sound.{Sound}
use Rattle.receiver.specs.declared.inner.Burst.{Burst}

-- no state if the best is barred, otherwise the first that has it
abbrev pub LastState : Meaning → Burst → Option ℕ → Type 0
LastState m b None = best m b.depth (places_of b) ≡ Barred
LastState m b (Some s) =
    (best m b.depth (places_of b) ≢ Barred) × (first_least m b.depth (forward m b.depth (places_of b) b.count) ≡ Some s)

-- an answer is so, a refusal says nothing more
abbrev pub Answers : {X : Type 0} → Result X Refusal → (X → Type 0) → Type 0
Answers (Ok x) holds = holds x
Answers (Err e) holds = Unit {0}

-- On the way back from a state of the last column: the symbols that lead to the state at column k, then those written from place k on, are those back along survivors.
abbrev pub Tracing : Burst → ℕ → List ℕ → ℕ → ℕ → Type 0
Tracing b start list k state =
    (m : Meaning) → Lawful m → Sound m b → start < states m b.depth → ((cell_at (forward m b.depth (places_of b) b.count) start).cost ≢ Barred)
    → (state < states m b.depth) × ((cell_at (forward m b.depth (places_of b) k) state).cost ≢ Barred)
    × (trace m b.depth (places_of b) b.count start ≡ trace m b.depth (places_of b) k state ++ take (b.count - k) (drop k list))

-- there is such a place and value, and every column is fresh
pub record Readable (m : Meaning) (b : Burst) (k a : ℕ) : Type 0 where
  pub place : k < b.count
  pub value : a < m.symbols
  pub fresh : Fresh b

-- the shown sequence stands at the front of a list, and the rest of it as it was
pub record Shows (m : Meaning) (b : Burst) (before after : List ℕ) : Type 0 where
  pub list : after ≡ shown m b.depth (places_of b) ++ drop b.count before
  pub symbols : (k : ℕ) → k < b.count → slice_index after k ≡ slice_index (shown m b.depth (places_of b)) k

-- what is left in a list that was lent: after a refusal all of it, otherwise what stands past so many places
abbrev pub Leaves : {X : Type 0} → Result X Refusal → ℕ → List ℕ → List ℕ → Type 0
Leaves (Ok x) count before after = drop count after ≡ drop count before
Leaves (Err e) count before after = after ≡ before

-- What the shown sequence is, said of sequences and totals: at any depth the best is its total, by its own windows; at full depth every history is its state.
pub record ShownIsBest : Type 0 where
  pub best : BestIsShown
  pub own : TotalIsByOwnWindows
  pub full : FullDepthRemembers
