use Rattle.std.proofs.Common.{◌≡◌, ℕ, List, ◌++◌}
use Rattle.std.proofs.lemmas.Result.{err_from_is_err_and}
use Rattle.forms.specs.declared.head.Head.{Head}
use Rattle.forms.specs.declared.head.Head.TheVariants.{Taps, Table, Code, Depth, Place}
use Rattle.forms.specs.Forms.{opening}
use Rattle.forms.proofs.Bodies.{same_form}
use Rattle.forms.proofs.read.head.Goals as goal

none_opens :
    (line : List ℕ)
    → ((rest : List ℕ) → line ≡ opening Place ++ rest → ⊥)
    → ((rest : List ℕ) → line ≡ opening Depth ++ rest → ⊥)
    → ((rest : List ℕ) → line ≡ opening Taps ++ rest → ⊥)
    → ((rest : List ℕ) → line ≡ opening Table ++ rest → ⊥)
    → ((rest : List ℕ) → line ≡ opening Code ++ rest → ⊥)
    → (h : Head) (rest : List ℕ) → line ≡ opening h ++ rest → ⊥
none_opens line place depth taps table code Taps rest e = taps rest e
none_opens line place depth taps table code Table rest e = table rest e
none_opens line place depth taps table code Code rest e = code rest e
none_opens line place depth taps table code Depth rest e = depth rest e
none_opens line place depth taps table code Place rest e = place rest e

pub returns-in-Ok : goal.returns-in-Ok
returns-in-Ok c = record { opens = c.in-Ok.ensures; told = same_form }

pub returns-in-Ok-expect : goal.returns-in-Ok-expect
returns-in-Ok-expect c = record { opens = c.in-Ok-expect.ensures; told = same_form }

pub returns-in-Ok-expect-2 : goal.returns-in-Ok-expect-2
returns-in-Ok-expect-2 c = record { opens = c.in-Ok-expect-2.ensures; told = same_form }

pub returns-in-Ok-expect-3 : goal.returns-in-Ok-expect-3
returns-in-Ok-expect-3 c = record { opens = c.in-Ok-expect-3.ensures; told = same_form }

pub returns-in_err-rest : goal.returns-in_err-rest
returns-in_err-rest c =
    let p = err_from_is_err_and c.from_residual.result c.from_residual.ensures.1 in
    record {
      opens = rw p.1 (none_opens _ c.in_default.ensures c.in_default-expect.ensures c.in_default-expect-2.ensures c.in_default-expect-3.ensures c.in_err-rest.ensures);
      told = same_form;
    }

pub returns : goal.returns
returns c = record { opens = c.in_ok-rest.ensures; told = same_form }
