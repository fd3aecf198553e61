use Rattle.std.proofs.Common.{replicate, take, ap, ◌∙◌}
use Rattle.std.proofs.lemmas.List.{take-replicate}
use native.Mathlib.Nat.{min-le_right}
use Rattle.prefix.proofs.Prefix.repeat.Goals as goal

pub returns : goal.returns
returns g c =
    ap (λ n. take n (replicate g.row.N c.args.element)) c.min.ensures
    ∙ take-replicate _ _ c.args.element (min-le_right c.args.n g.row.N)
