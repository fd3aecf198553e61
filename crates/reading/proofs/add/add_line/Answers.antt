use Rattle.std.proofs.Common.{◌≡◌, ℕ, List, Ok, Err, Result, sym, subst, MatchResult, rules}
use Rattle.std.specs.Result.{IsErrAnd}
use Rattle.text.specs.Faults.{fault_at}
use Rattle.text.specs.declared.fault.Cause.{Cause}
use Rattle.text.specs.declared.fault.Fault.{Fault}
use Rattle.kinds.specs.Rules.{Rule}
use Rattle.reading.specs.Lines.{At, AtLine}
use Rattle.reading.specs.Steps.{State}
use Rattle.reading.proofs.add.add_line.Goals as goal

-- a cause, with the number of its line
numbered :
    {X : Type 0} (k : Rule) (n : ℕ) (s : State) (line : List ℕ) (stands : X → State) (r : Result X Cause) (t : Result X Fault) (gives : Cause → Fault → Type 0)
    → ((e : Cause) (y : Fault) → gives e y → y ≡ fault_at n e) → MatchResult r (λ x. t ≡ Ok x) (λ e. IsErrAnd t (gives e)) → At k n s line stands r → AtLine k n s line stands t
numbered k n s line stands (Ok x) t gives is e h = subst (AtLine k n s line stands) (sym e) h
numbered k n s line stands (Err c) (Err y) gives is e h = subst (λ f. AtLine k n s line stands (Err f)) (sym (is c y e)) h
numbered k n s line stands (Err c) (Ok y) gives is e h = absurd e

pub returns-clause-does : goal.returns-clause-does
returns-clause-does g c = numbered g.C.Spelled.rule c.args.number _ _ _ c.add_said.result c.map_err.result _ (λ e y h. search rules) c.map_err.ensures.cases (c.add_said.ensures.does c.args.number)
