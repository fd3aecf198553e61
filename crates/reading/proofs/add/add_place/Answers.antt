use Rattle.std.proofs.Common.{length, sym, ap, ◌∙◌}
use Rattle.std.proofs.lemmas.Result.{err_from_is_err_and}
use Rattle.reading.proofs.Adding.{Handed, adds_place, refuses_place, still_begun}
use Rattle.reading.proofs.add.add_place.Goals as goal

pub returns-in_err-add : goal.returns-in_err-add
returns-in_err-add g c =
    let p = err_from_is_err_and c.from_residual.result c.from_residual.ensures.1 in
    let k = g.C.Spelled.rule in
    let form = g.C.Spelled.form in
    let before = c.args.receiver.now in
    let handed : Handed k form (g.C.Channel.meaning before.channel) before c.args.place.now c.place_of.result =
    record {
      means = g.met.C.Spelled.meant before.channel;
      many = sym (ap length c.priors.ensures) ∙ c.if-priors-alphabet.false ∙ c.alphabet.ensures ∙ sym g.met.C.Spelled.symbols;
      sample = c.place_of.ensures.sample;
      priors = c.place_of.ensures.priors;
    } in
    rw (p.1, p.2) (record { does = λ n. refuses_place k form n _ before c.args.place.now c.place_of.result _ handed c.in_err-add.ensures.answer; begun = tt })

pub returns : goal.returns
returns g c =
    let k = g.C.Spelled.rule in
    let form = g.C.Spelled.form in
    let before = c.args.receiver.now in
    let after = c.add.new.self in
    let handed : Handed k form (g.C.Channel.meaning before.channel) before c.args.place.now c.place_of.result =
    record {
      means = g.met.C.Spelled.meant before.channel;
      many = sym (ap length c.priors.ensures) ∙ c.if-priors-alphabet.false ∙ c.alphabet.ensures ∙ sym g.met.C.Spelled.symbols;
      sample = c.place_of.ensures.sample;
      priors = c.place_of.ensures.priors;
    } in
    let e = c.in_ok-add.ensures in
    record {
      does = λ n. adds_place k form n _ before after c.args.place.now c.place_of.result handed e.answer e.channel e.stands;
      begun = still_begun before after c.place_of.result e.stands;
    }
