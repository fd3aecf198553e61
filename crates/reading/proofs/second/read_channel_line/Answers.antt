use Rattle.std.proofs.Common.{◌≡◌, ℕ, List, ℤ, Ok, Err, Result, sym, ap, ◌∙◌, subst, inr, w32, SFits, rules}
use Rattle.std.specs.Result.{IfOk}
use Rattle.std.proofs.lemmas.Int.{to_z-of_z}
use Rattle.std.proofs.lemmas.Result.{err_from_is_err_and}
use Rattle.channel.specs.Meaning.{Meaning}
use Rattle.channel.specs.declared.Channel.{Ghosts}
use Rattle.receiver.specs.declared.receiver.Receiver.{Receiver}
use Rattle.forms.specs.Forms.{Form}
use Rattle.text.specs.Faults.{number_of}
use Rattle.text.specs.declared.fault.Fault.{Fault}
use Rattle.text.specs.declared.fault.Layer.TheVariants.{Receiver as ByReceiver}
use Rattle.kinds.specs.Rules.{Rule, told_by}
use Rattle.reading.specs.Lines.{Does, Outcome, AtLine, ReadsChannel, blame_of}
use Rattle.reading.specs.Received.{state_of, ReceivesFirst, Begun}
use Rattle.reading.specs.Steps.{Blame, deep, depth_of}
use Rattle.reading.proofs.Sayings.{after_depth_taken, tried_taken, tried_refused}
use Rattle.reading.proofs.second.read_channel_line.Goals as goal

-- the receiver of both, or the depth is blamed
both_heads :
    {C : Type 0} {G : Ghosts C} (k : Rule) (form : C → Form) (z : ℤ) (text : List ℕ) (c : C) (m : Meaning) (q : ℕ) → ReadsChannel k form text (Ok c) → m ≡ k.meaning (form c) → q ≡ depth_of z
    → (r : Result (Receiver C G) Fault) → ReceivesFirst m c q r → AtLine k 2 (deep z) text (state_of form) r
both_heads k form z text c m q h meant is (Ok w) r =
    after_depth_taken k z text h.0 _ h.1 h.2 h.3 h.4 (tried_taken k 1 h.0 z m q form c w (meant ∙ ap k.meaning h.5) is h.5 r)
both_heads k form z text c m q h meant is (Err e) (line, layer, refused) =
    let same : ◌≡◌ {A = Blame} (record { line = 1; told = (ByReceiver, number_of e.cause) }) (blame_of e) = λ i. record { line = sym line i; told = (sym layer i, number_of e.cause) } in
    inr (inr (subst (λ b. Does k 2 (deep z) text (Err b)) same
    (after_depth_taken k z text h.0 _ h.1 h.2 h.3 h.4 (tried_refused k 1 h.0 z m q (number_of e.cause) (meant ∙ ap k.meaning h.5) is refused))))

begun_of : {C : Type 0} {G : Ghosts C} (m : Meaning) (c : C) (q : ℕ) (r : Result (Receiver C G) Fault) → ReceivesFirst m c q r → IfOk r Begun
begun_of m c q (Ok w) r = r.begun
begun_of m c q (Err e) r = tt

pub returns-in_err-channel : goal.returns-in_err-channel
returns-in_err-channel g c =
    let p = err_from_is_err_and c.from_residual.result c.from_residual.ensures.1 in
    let e = c.in_err-channel.field-0.0 in
    let lacks = c.in_err-channel.ensures in
    rw (p.1, p.2) (record {
      does = subst (λ n. Outcome g.C.Spelled.rule 2 (deep c.args.depth) c.args.line.now (Err (record { line = n; told = told_by e.cause }))) (sym lacks.0) (lacks.1 c.args.depth);
      begun = tt;
    })

pub returns : goal.returns
returns g c =
    let z = c.args.depth in
    let channel = c.in_ok-channel.channel in
    let fits : SFits w32 z = search rules in
    record {
      does = both_heads g.C.Spelled.rule g.C.Spelled.form z c.args.line.now channel _ _ c.in_ok-channel.ensures (g.met.C.Spelled.meant channel) (ap depth_of (to_z-of_z w32 z fits)) c.receive_first.result c.receive_first.ensures;
      begun = begun_of (g.C.Channel.meaning channel) channel _ c.receive_first.result c.receive_first.ensures;
    }
