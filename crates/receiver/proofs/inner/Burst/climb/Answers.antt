use Rattle.std.proofs.Common.{◌<◌, refl, arith}
use Rattle.receiver.proofs.Climbing.{forward_sized, climbed_at}
use Rattle.receiver.proofs.inner.Burst.climb.Goals as goal

pub loop-k-preserved : goal.loop-k-preserved
loop-k-preserved g c =
    let a = c.loop-k.self in
    let more : c.loop-k.k < a.count = omega (arith, c.loop-k.invariant.0.rest.count) in (
      climbed_at (g.C.Channel.meaning c.args.channel.now) c.args.self.now a c.loop-k.invariant.0 c.loop-k.invariant.1
          c.next_column.result c.loop-k.k c.loop-k.invariant.2 more c.next_column.ensures.stepped c.next_column.ensures.within
          c.next_column.ensures.survivors,
      forward_sized a c.loop-k.k c.next_column.result c.loop-k.invariant.1 more,
      refl,
    )
