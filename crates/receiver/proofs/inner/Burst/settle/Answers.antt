use Rattle.std.proofs.Common.{refl}
use Rattle.receiver.proofs.Settling.{kept_bounded, left_by, worked_by, kept_by}
use Rattle.receiver.proofs.Soundness.{settled_sound}
use Rattle.receiver.proofs.inner.Burst.settle.Goals as goal

pub returns : goal.returns
returns g c =
    let m = g.C.Channel.meaning c.args.channel.now in
    let b = c.args.self.now in
    let a = c.climb.new.self in
    let z = c.descend.new.self in
    let left = left_by m b a z c.requires c.climb.ensures.climbed c.climb.ensures.done c.descend.ensures.descended c.descend.ensures.done c.descend.ensures.sized in
    let worked =
    worked_by m b a z c.requires c.climb.ensures.climbed c.climb.ensures.done c.descend.ensures.descended c.descend.ensures.done c.descend.ensures.sized
    c.best.result c.best.ensures in
    record {
      count = refl;
      left = left;
      worked = worked;
      kept = kept_by m b a z c.requires c.climb.ensures.climbed c.climb.ensures.done c.descend.ensures.descended c.descend.ensures.done c.descend.ensures.sized;
      sound = λ kept sound. settled_sound m b z c.best.result c.requires left (worked sound.shaped (kept_bounded b kept)) sound;
    }
