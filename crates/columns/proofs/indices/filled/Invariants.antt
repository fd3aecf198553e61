use Rattle.std.proofs.Common.{ℕ, ◌<◌, get_or}
use Rattle.columns.proofs.indices.filled.Given as goal

-- The elements so far are written.
abbrev pub invariant-loop-i : goal.invariant-loop-i
invariant-loop-i g l = (d : g.row.T.Denot) (k : ℕ) → k < l.i → goal.F-post g l.f k (get_or l.element-items k d)
