-- What a channel of the table kind holds, and so what it means.
use Rattle.std.specs.Prelude.{◌≡◌, ℕ, List, ℤ, pos, Ok, Err, Result}
use Rattle.channel.specs.declared.refusal.Refusal.{Refusal}
use Rattle.channel.specs.Meaning.{Meaning}
use Rattle.prefix.specs.Prefix.{items}
use Rattle.table.specs.declared.entry.Entry.{Entry}
use Rattle.table.specs.declared.Table.{Table}
use Rattle.table.specs.Rule.{table_meaning}

abbrev pub memory_of : Table → ℕ
memory_of c = c.memory

abbrev pub entries_of : Table → List Entry
entries_of c = items c.entries

abbrev pub noise_of : Table → ℕ
noise_of c = c.noise.number

abbrev pub meaning_of : Table → Meaning
meaning_of c = table_meaning (memory_of c) (entries_of c) (noise_of c)

-- What stands after a load: what was handed in, or after a refusal the channel as it was.
abbrev pub Stands : Result (Unit {0}) Refusal → Table → Table → ℤ → List Entry → ℤ → Type 0
Stands (Ok done) before after memory entries noise =
    (pos (memory_of after) ≡ memory) × (entries_of after ≡ entries) × (pos (noise_of after) ≡ noise)
Stands (Err e) before after memory entries noise = after ≡ before
