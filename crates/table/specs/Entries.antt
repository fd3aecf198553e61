-- The entries of a table: one for each window, barred or two expected numbers from -8191 to 8191.
use Rattle.std.specs.Prelude.{ℕ, Bool, true, false, ◌&&◌, List, [], ◌∷◌, ℤ, pos, neg_ℤ, slice_index_or}
use Rattle.std.specs.List.{list_all}
use Rattle.channel.specs.Samples.{between}
use Rattle.table.specs.declared.entry.Entry.{Entry}
use Rattle.table.specs.declared.entry.Entry.TheVariants.{Barred, Expected}

-- an expected number is in its range
abbrev pub number_in_range : ℤ → Bool
number_in_range n = between (neg_ℤ (pos 8191)) (pos 8191) n

-- an entry is barred, or both its numbers are in their range
abbrev pub entry_in_range : Entry → Bool
entry_in_range Barred = true
entry_in_range (Expected first second) = number_in_range first && number_in_range second

-- each entry of the list is in range
abbrev pub each_in_range : List Entry → Bool
each_in_range entries = list_all entry_in_range entries

-- the entry of a window: the first of the list is that of window 0, the next that of window 1, and so on
abbrev pub entry_at : List Entry → ℕ → Entry
entry_at entries window = slice_index_or entries window Barred

-- an entry is barred
abbrev pub barred : Entry → Bool
barred Barred = true
barred (Expected first second) = false

-- four entries that expect 0 and 0
abbrev pub blank_entries : List Entry
blank_entries =
    Expected (pos 0) (pos 0) ∷ Expected (pos 0) (pos 0) ∷ Expected (pos 0) (pos 0) ∷ Expected (pos 0) (pos 0) ∷ []
