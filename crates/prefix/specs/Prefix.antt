-- What a prefix holds.
use Rattle.std.specs.Prelude.{ℕ, List, take}
use Rattle.prefix.specs.declared.Prefix.{Prefix}

-- its elements, in order
abbrev pub items : {T : Type 0} {N : ℕ} → Prefix T N → List T
items p = take p.len p.cells
