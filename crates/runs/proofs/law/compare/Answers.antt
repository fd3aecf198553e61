use Rattle.std.proofs.Common.{◌≡◌, ◌≤◌, true, length, take, ap, ◌∙◌, subst, arith}
use Rattle.recursions.specs.Depths.{depth_allowed}
use Rattle.receiver.specs.Sound.{Sound}
use Rattle.receiver.specs.Standing.{Standing, standing, new_standing, settled}
use Rattle.runs.specs.Law.{one_said, other_said}
use Rattle.runs.specs.Runs.{ends, given}
use Rattle.runs.proofs.Comparing.{settled_stands, goes_on, alike_by, always_of_sequences}
use Rattle.runs.proofs.Held.{places_held}
use Rattle.runs.proofs.law.compare.Goals as goal

pub returns : goal.returns
returns g c =
    let m = g.C.Channel.meaning c.args.channel in
    let m' = g.D.Channel.meaning c.args.other in
    let s : Standing = ends m c.args.calls.now (new_standing m) in
    let further = take c.hear-heard.result c.args.further.now in
    let one = c.run.new.receiver in
    let two = c.renewed-two.result in
    let settled-one = c.settle-worked.new.self in
    let settled-two = c.settle-renewed.new.self in
    let made = c.new-one.ensures in
    let ran = simp made.channel at c.run.ensures in
    let stands : standing one.burst ≡ s = ran.ran ∙ ap (ends m c.args.calls.now) made.stands in
    let long = places_held one.burst one.kept.sized.places one.kept.sized.few in
    let settle = simp ran.channel at c.settle-worked.ensures in
    let sound : Sound m settled-one.burst =
    subst (λ (x : g.row.C.Denot). Sound (g.C.Channel.meaning x) settled-one.burst) settle.channel settled-one.sound in
    let after = settled_stands m s one.burst settled-one.burst settled-one.burst stands long c.settle-worked.result settle.count settle.left settle.best in
    let new = c.renewed-two.ensures in
    let stands' : standing two.burst ≡ given m' (settled s) = new.stands ∙ ap (given m') after in
    let long' = places_held two.burst two.kept.sized.places two.kept.sized.few in
    let settle' = simp new.channel at c.settle-renewed.ensures in
    let hears = simp settle.channel at c.hear-heard.ensures.one in
    let hears' = simp settle'.channel at c.hear-heard.ensures.other in
    let said = one_said c.hear-heard.result c.hear-heard.new.heard in
    let said' = other_said c.hear-heard.result c.hear-heard.new.heard in
    let goes =
    goes_on m s one.burst settled-one.burst c.hear-heard.new.one.burst stands long c.settle-worked.result settle.count settle.left settle.best further
    c.args.bytes.now c.hear-heard.new.bytes said hears in
    let goes' =
    goes_on m' (given m' (settled s)) two.burst settled-two.burst c.hear-heard.new.other.burst stands' long' c.settle-renewed.result settle'.count settle'.left
    settle'.best further c.args.other_bytes.now c.hear-heard.new.other_bytes said' hears' in
    let within : s.backward ≤ length s.places =
    subst (λ (x : Standing). x.backward ≤ length x.places) stands (omega (arith, long, one.kept.sized.behind)) in
    let allowed = subst (λ (x : Standing). depth_allowed m x.depth ≡ true) after sound.shaped.allowed in
    record {
      heard = c.hear-heard.ensures.asked;
      worked = goes;
      renewed = goes';
      alike = λ means same.
          alike_by m m' means s settled-one.burst after sound (places_held settled-one.burst settled-one.kept.sized.places settled-one.kept.sized.few) settled-one.kept.sized.few within further
          c.settle-worked.result c.settle-renewed.result said said' c.args.bytes.now c.args.other_bytes.now c.hear-heard.new.bytes
          c.hear-heard.new.other_bytes same goes goes';
      sequences = always_of_sequences m (g.met.C.Channel.lawful c.args.channel) (settled s) allowed;
    }
