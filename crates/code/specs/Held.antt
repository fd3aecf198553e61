-- What a channel of the code kind holds, and so what it means.
use Rattle.std.specs.Prelude.{◌≡◌, ℕ, ℤ, pos, Ok, Err, Result}
use Rattle.channel.specs.declared.refusal.Refusal.{Refusal}
use Rattle.channel.specs.Meaning.{Meaning}
use Rattle.code.specs.Rule.{code_meaning}
use Rattle.code.specs.declared.Code.{Code}

abbrev pub memory_of : Code → ℕ
memory_of c = c.memory

abbrev pub first_mask_of : Code → ℕ
first_mask_of c = c.first

abbrev pub second_mask_of : Code → ℕ
second_mask_of c = c.second

abbrev pub meaning_of : Code → Meaning
meaning_of c = code_meaning (memory_of c) (first_mask_of c) (second_mask_of c)

-- What stands after a load: what was handed in, or after a refusal the channel as it was.
abbrev pub Stands : Result (Unit {0}) Refusal → Code → Code → ℤ → ℤ → ℤ → Type 0
Stands (Ok done) before after memory first second =
    (pos (memory_of after) ≡ memory) × (pos (first_mask_of after) ≡ first) × (pos (second_mask_of after) ≡ second)
Stands (Err e) before after memory first second = after ≡ before
