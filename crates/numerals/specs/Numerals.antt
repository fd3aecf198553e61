-- The text that a numeral holds.
use Rattle.std.specs.Prelude.{ℕ, List}
use Rattle.prefix.specs.Prefix.{items}
use Rattle.numerals.specs.declared.write.Numeral.{Numeral}

abbrev pub text_of : Numeral → List ℕ
text_of n = items n.text
