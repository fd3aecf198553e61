-- An option as a result: some value is answered, and none is an error.
use Rattle.std.proofs.Common.{◌≡◌, ℕ, Some, None, Ok, Err, MatchOption, MatchResult, Option, Result, sym, subst, arith}
use Rattle.std.specs.Option.{ok_or}

pub some_of_ok : {T E : Type 0} (o : Option T) (e : E) (x : T) → ok_or o e ≡ Ok x → o ≡ Some x
some_of_ok None e x is = let no : ◌≡◌ {A = ℕ} 0 1 = cc in absurd (omega arith)
some_of_ok (Some y) e x is = cc

pub none_of_err : {T E : Type 0} (o : Option T) (e f : E) → ok_or o e ≡ Err f → o ≡ None
none_of_err None e f is = cc
none_of_err (Some y) e f is = let no : ◌≡◌ {A = ℕ} 0 1 = cc in absurd (omega arith)

pub told_as_result : {T E : Type 0} (o : Option T) (e : E) (r : Result T E) (P : Type 0) (Q : T → Type 0) → r ≡ ok_or o e → MatchOption o P Q → MatchResult r Q (λ _. P)
told_as_result None e r P Q is m = subst (λ r. MatchResult r Q (λ _. P)) (sym is) m
told_as_result (Some x) e r P Q is m = subst (λ r. MatchResult r Q (λ _. P)) (sym is) m
