use Rattle.std.proofs.Common.{arith}
use Rattle.burst.proofs.Own.{total_is_by_own_windows}
use Rattle.recursions.proofs.FullDepth.{full_depth_remembers}
use Rattle.recursions.proofs.Shown.{best_is_shown}
use Rattle.receiver.proofs.Showing.{first_below, first_some, shows}
use Rattle.receiver.proofs.inner.Burst.show.Goals as goal

pub returns-clause-shown : goal.returns-clause-shown
returns-clause-shown c m lawful sound last =
    let b = c.args.self.now in
    shows m b c.requires.kept.sized c.args.start last c.args.list.now c.trace.new.list (omega arith)
    (c.trace.ensures.front m lawful sound (first_below m b c.requires.kept.sized c.args.start last) (first_some m b c.requires.kept.sized c.args.start last))
    c.trace.ensures.rest

pub returns-clause-law : goal.returns-clause-law
returns-clause-law c = record { best = best_is_shown; own = total_is_by_own_windows; full = full_depth_remembers }
