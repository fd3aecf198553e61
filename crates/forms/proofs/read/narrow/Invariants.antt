use Rattle.std.proofs.Common.{◌≡◌, map, take}
use Rattle.prefix.specs.Prefix.{items}
use Rattle.forms.specs.Lines.{nearest}
use Rattle.forms.proofs.read.narrow.Given as goal

-- What was taken so far is in the list, as far as there is room.
abbrev pub invariant-loop-number : goal.invariant-loop-number
invariant-loop-number l = items l.taps ≡ take 9 (map nearest (take l.number-index l.numbers))
