-- Lists that hold columns one after another: element s of column k stands at k · width + s.
use Rattle.std.specs.Prelude.{◌≡◌, ℕ, ◌+◌, ◌*◌, ◌/◌, ◌%◌, ◌<◌, ◌≤◌, List, length, slice_index_or}

-- Column k of a list is that of `element`. (What `slice_index_or` reads past the end of a list is `blank`.)
abbrev pub Column : {J : Type 0} → J → List J → ℕ → ℕ → (ℕ → J) → Type 0
Column blank list width k element = (s : ℕ) → s < width → slice_index_or list (k * width + s) blank ≡ element s

-- So many columns of a list are those of `element`.
abbrev pub Columns : {J : Type 0} → J → List J → ℕ → ℕ → (ℕ → ℕ → J) → Type 0
Columns blank list width columns element = (k : ℕ) → k < columns → Column blank list width k (element k)

-- So many columns are written, and what stands after them is kept.
pub record Filled {J : Type 0} (blank : J) (before after : List J) (columns width : ℕ) (element : ℕ → ℕ → J) : Type 0 where
  pub long : length after ≡ length before
  pub written : Columns blank after width columns element
  pub kept : (i : ℕ) → columns * width ≤ i → slice_index_or after i blank ≡ slice_index_or before i blank

-- The part of a list from one index up to another is that of `element`, each index taken apart into column and state.
abbrev pub Holds : {J : Type 0} → J → List J → ℕ → ℕ → ℕ → (ℕ → ℕ → J) → Type 0
Holds blank list width from to element = (i : ℕ) → from ≤ i → i < to → slice_index_or list i blank ≡ element (i / width) (i % width)

-- From an index on a list is as another.
abbrev pub Keeps : {J : Type 0} → J → List J → List J → ℕ → Type 0
Keeps blank before after from = (i : ℕ) → from ≤ i → slice_index_or after i blank ≡ slice_index_or before i blank
