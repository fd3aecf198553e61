use Rattle.std.proofs.Common.{◌≡◌, ℕ, ◌<◌, ◌≤◌, Bool, IfSome, Some, None, Option, sym, arith}
use Rattle.recursions.specs.Firsts.{first_under}
use Rattle.recursions.proofs.Firsts.{first_found}
use Rattle.receiver.proofs.Reading.{no_state, some_state}
use Rattle.receiver.proofs.inner.Burst.last_state.Goals as goal

-- the first of sixteen is one of sixteen
small_by : (n : ℕ) (passes : ℕ → Bool) (found : Option ℕ) → n ≤ 16 → found ≡ first_under n passes → IfSome found (λ s. s < 16)
small_by n passes None few is = tt
small_by n passes (Some s) few is = omega (arith, (first_found n s passes (sym is)).below)

pub returns-in_err-best-clause-first : goal.returns-in_err-best-clause-first
returns-in_err-best-clause-first c m sound =
    rw c.from_residual.ensures (no_state c.args.self.now c.requires.kept c.requires.fresh m sound c.in_err-best.ensures)

pub returns-clause-small : goal.returns-clause-small
returns-clause-small c = small_by c.args.self.now.shape.states _ c.first_with.result c.args.self.now.shape.few c.first_with.ensures

pub returns-clause-first : goal.returns-clause-first
returns-clause-first c m sound =
    some_state c.args.self.now c.requires.kept c.requires.fresh m sound c.in_ok-best.best c.first_with.result c.in_ok-best.ensures c.first_with.ensures
