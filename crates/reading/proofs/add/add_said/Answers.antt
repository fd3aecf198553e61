use Rattle.std.proofs.Common.{inr}
use Rattle.reading.specs.Received.{state_of}
use Rattle.reading.specs.Steps.{a_channel}
use Rattle.reading.proofs.Adding.{place_done}
use Rattle.reading.proofs.Sayings.{does_say, says_channel, repeated_is}
use Rattle.reading.proofs.add.add_said.Goals as goal

pub returns-in-Place : goal.returns-in-Place
returns-in-Place g c =
    let i = c.in_ok-line.ensures.reads in
    record {
      does = λ n. place_done g.C.Spelled.rule g.C.Spelled.form n _ _ i c.in-Place.place c.args.receiver.now c.add_place.new.receiver c.add_place.result c.in-Place.is (c.add_place.ensures.does n);
      begun = c.add_place.ensures.begun;
    }

pub returns-in_default : goal.returns-in_default
returns-in_default g c =
    let k = g.C.Spelled.rule in
    let i = c.in_ok-line.ensures.reads in
    let w = says_channel _ _ i c.in_default.not-Depth c.in_default.not-Place in
    record {
      does = λ n. inr (inr (does_say k n (state_of g.C.Spelled.form c.args.receiver.now) _ _ i (a_channel i.form) _ w (repeated_is k n _ i.form _ i.says c.repeated.ensures)));
      begun = tt;
    }
