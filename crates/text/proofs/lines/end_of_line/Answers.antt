use Rattle.std.proofs.Common.{length, inr, arith, sym}
use Rattle.std.proofs.lemmas.List.{take_all, drop_all}
use Rattle.text.proofs.Feeds.{feed_at, no_feed_in}
use Rattle.text.proofs.lines.end_of_line.Goals as goal

pub returns-in-Some-clause-line : goal.returns-in-Some-clause-line
returns-in-Some-clause-line c = feed_at c.args.text.now c.in-Some.feed (sym c.in-Some.ensures)

pub returns-in-None-clause-line : goal.returns-in-None-clause-line
returns-in-None-clause-line c =
    let text = c.args.text.now in
    inr (rw (take_all (length text) text (omega arith)) (no_feed_in text (sym c.in-None.ensures)), drop_all (length text) text (omega arith))
