-- A burst over a channel as a sweep sees it: its sizes, its trellis, the elements that are to be found, and lists of columns that have them.
use Rattle.std.specs.Prelude.{ℕ, ◌+◌, ◌*◌, ◌≤◌, List, length}
use Rattle.cost.specs.declared.Cost.{Cost}
use Rattle.channel.specs.Meaning.{Meaning}
use Rattle.joining.specs.Laws.{Operations}
use Rattle.trellis.specs.Trellis.{Trellis}
use Rattle.trellis.specs.Elements.{forward_element_of, backward_element_of, answer_element}
use Rattle.trellis.specs.Lists.{Column, Columns, Holds}
use Rattle.burst.specs.declared.place.Place.{Place}
use Rattle.burst.specs.Histories.{histories}
use Rattle.burst.specs.Sequences.{full_trellis}

-- a channel and the places
pub record Burst (C : Type 0) : Type 0 where
  pub channel : C
  pub places : List Place

abbrev pub burst_of : {C : Type 0} → C → List Place → Burst C
burst_of channel places = record { channel = channel; places = places }

module _ {C : Type 0} (meaning : C → Meaning) (b : Burst C) where
  -- how many symbols there are
  abbrev pub symbols : ℕ
  symbols = (meaning b.channel).symbols

  -- how many histories there are
  abbrev pub states : ℕ
  states = histories (meaning b.channel)

  -- how many elements a list of columns has: a column of histories for each place and one more
  abbrev pub column_elements : ℕ
  column_elements = (length b.places + 1) * states

  -- how many answers there are
  abbrev pub answer_elements : ℕ
  answer_elements = length b.places * symbols

  -- What a sweep that is not refused can rest on: room in lists of these lengths.
  pub record Roomy (forward backward answers : ℕ) : Type 0 where
    pub forward_room : column_elements ≤ forward
    pub backward_room : column_elements ≤ backward
    pub answers_room : answer_elements ≤ answers

module _ {J C : Type 0} (o : Operations J) (worth : Cost → J) (meaning : C → Meaning) (b : Burst C) where
  -- the trellis of all histories
  abbrev pub trellis_of : Trellis J
  trellis_of = full_trellis o worth (meaning b.channel) b.places

  -- the element of a column and a history: what leads to the history
  abbrev pub forward_at : ℕ → ℕ → J
  forward_at = forward_element_of trellis_of

  -- likewise: what leads on from the history
  abbrev pub backward_at : ℕ → ℕ → J
  backward_at = backward_element_of trellis_of (length b.places)

  -- the answer of a place and a symbol: what has the symbol there
  abbrev pub answer_at : ℕ → ℕ → J
  answer_at = answer_element trellis_of (length b.places)

  -- The list has room for all columns, and those with these elements are written: column k,
  pub record HasColumn (list : List J) (element : ℕ → ℕ → J) (k : ℕ) : Type 0 where
    pub room : column_elements meaning b ≤ length list
    pub written : Column o.none list (states meaning b) k (element k)

  -- all of them,
  pub record HasColumns (list : List J) (element : ℕ → ℕ → J) : Type 0 where
    pub room : column_elements meaning b ≤ length list
    pub written : Columns o.none list (states meaning b) (length b.places + 1) element

  -- or the elements from one index up to another.
  pub record HasElements (list : List J) (element : ℕ → ℕ → J) (from to : ℕ) : Type 0 where
    pub room : column_elements meaning b ≤ length list
    pub written : Holds o.none list (states meaning b) from to element

  abbrev pub HasForwardColumn : List J → ℕ → Type 0
  HasForwardColumn list k = HasColumn list forward_at k

  abbrev pub HasForwardColumns : List J → Type 0
  HasForwardColumns list = HasColumns list forward_at

  abbrev pub HasForwardElements : List J → ℕ → ℕ → Type 0
  HasForwardElements list from to = HasElements list forward_at from to

  abbrev pub HasBackwardColumn : List J → ℕ → Type 0
  HasBackwardColumn list k = HasColumn list backward_at k

  abbrev pub HasBackwardColumns : List J → Type 0
  HasBackwardColumns list = HasColumns list backward_at

  abbrev pub HasBackwardElements : List J → ℕ → ℕ → Type 0
  HasBackwardElements list from to = HasElements list backward_at from to
