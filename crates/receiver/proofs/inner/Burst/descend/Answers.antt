use Rattle.std.proofs.Common.{◌-◌, refl, arith}
use Rattle.receiver.proofs.Descending.{backward_sized, descended_at}
use Rattle.receiver.proofs.inner.Burst.descend.Goals as goal

pub loop-k-preserved : goal.loop-k-preserved
loop-k-preserved g c =
    let a = c.loop-k.self in (
      descended_at (g.C.Channel.meaning c.args.channel.now) c.args.self.now a c.loop-k.invariant.0 c.loop-k.invariant.1 c.requires.behind
          c.column_before.result c.loop-k.k c.loop-k.invariant.2 c.loop-k-test.true c.column_before.ensures.backstepped c.column_before.ensures.within,
      backward_sized a (c.loop-k.k - 1) c.column_before.result c.loop-k.invariant.1 (omega (arith, c.loop-k.invariant.2, c.loop-k.invariant.1.behind)),
      refl,
    )
