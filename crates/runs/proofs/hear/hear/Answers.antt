use Rattle.std.proofs.Common.{◌≡◌, ℕ, ◌<◌, ◌≤◌, length, take, ◌∙◌, subst, le_antisymm, arith}
use Rattle.std.proofs.lemmas.List.{length-take-le, get_or-take}
use native.Mathlib.Nat.{min-le_left, min-le_right}
use Rattle.runs.specs.Law.{one_said, other_said}
use Rattle.runs.specs.Obeying.{Hears}
use Rattle.runs.specs.declared.call.Heard.{Heard}
use Rattle.runs.proofs.Running.{hears_next, said_more}
use Rattle.runs.proofs.hear.hear.Goals as goal

pub loop-i-preserved : goal.loop-i-preserved
loop-i-preserved g c =
    let m = g.C.Channel.meaning c.args.one.now.channel in
    let m' = g.D.Channel.meaning c.args.other.now.channel in
    let inv = c.loop-i.invariant in
    let i = c.loop-i.i in
    let n = c.min-n.result in
    let list = c.args.list.now in
    let heard = c.loop-i.heard in
    let short : n ≤ length list = omega (arith, c.min-n.ensures, min-le_left (length list) (length c.args.heard.now)) in
    let in-n : i < n = omega (arith, c.loop-i-test.true, length-take-le n list short) in
    let in_list : i < length list = omega (arith, in-n, short) in
    let in-heard : i < length heard =
    omega (arith, c.min-n.ensures, min-le_right (length list) (length c.args.heard.now), in-n, c.loop-i.auto.heard) in
    let call = c.call-item.result in
    let is = c.call-item.is ∙ get_or-take n list i call in-n in
    let h : Heard = record { one = c.obey.result; other = c.obey-in-loop-i.result } in
    let says = simp inv.0 at c.obey.ensures.obeyed in
    let says' = simp inv.1 at c.obey-in-loop-i.ensures.obeyed in (
      c.obey.ensures.channel ∙ inv.0,
      c.obey-in-loop-i.ensures.channel ∙ inv.1,
      hears_next m list i call is in_list c.args.one.now.burst c.loop-i.one.burst c.obey.new.receiver.burst
          c.args.bytes.now c.loop-i.bytes c.obey.new.bytes (one_said i heard) _ c.obey.result (said_more (λ (x : Heard). x.one) heard i h in-heard)
          inv.2 says,
      hears_next m' list i call is in_list c.args.other.now.burst c.loop-i.other.burst
          c.obey-in-loop-i.new.receiver.burst c.args.other_bytes.now c.loop-i.other_bytes c.obey-in-loop-i.new.bytes (other_said i heard) _
          c.obey-in-loop-i.result (said_more (λ (x : Heard). x.other) heard i h in-heard) inv.3 says',
    )

pub returns-clause-one : goal.returns-clause-one
returns-clause-one g c =
    let m = g.C.Channel.meaning c.args.one.now.channel in
    let n = c.min-n.result in
    let short : n ≤ length c.args.list.now = omega (arith, c.min-n.ensures, min-le_left (length c.args.list.now) (length c.args.heard.now)) in
    let done : c.loop-i.i ≡ n = le_antisymm c.loop-i.auto.i-end c.loop-i-test.false ∙ length-take-le n c.args.list.now short in
    subst (λ (n : ℕ). Hears m (take n c.args.list.now) c.args.one.now.burst c.loop-i.one.burst c.args.bytes.now c.loop-i.bytes (one_said n c.loop-i.heard)) done
    c.loop-i.invariant.2

pub returns-clause-other : goal.returns-clause-other
returns-clause-other g c =
    let m = g.D.Channel.meaning c.args.other.now.channel in
    let n = c.min-n.result in
    let short : n ≤ length c.args.list.now = omega (arith, c.min-n.ensures, min-le_left (length c.args.list.now) (length c.args.heard.now)) in
    let done : c.loop-i.i ≡ n = le_antisymm c.loop-i.auto.i-end c.loop-i-test.false ∙ length-take-le n c.args.list.now short in
    subst (λ (n : ℕ). Hears m (take n c.args.list.now) c.args.other.now.burst c.loop-i.other.burst c.args.other_bytes.now c.loop-i.other_bytes (other_said n c.loop-i.heard)) done
    c.loop-i.invariant.3
