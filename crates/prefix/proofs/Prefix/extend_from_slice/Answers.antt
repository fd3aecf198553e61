use Rattle.std.proofs.Common.{◌≡◌, ◌-◌, ◌≤◌, length, take, min, sym, ap, ◌∙◌, arith}
use native.Mathlib.Nat.{min-le_right}
use Rattle.std.proofs.lemmas.List.{length-take-le}
use Rattle.std.proofs.lemmas.Slice.{take-put_mid}
use Rattle.prefix.proofs.Extended.{extended}
use Rattle.prefix.proofs.Prefix.extend_from_slice.Goals as goal

pub returns : goal.returns
returns g c =
    let self = c.args.self.now in
    let len = self.len in
    let cells = self.cells in
    let more = c.args.elements.now in
    let n = c.min-n.result in
    let wrote = c.copy_from_slice.ensures.after in
    let held : length (take len cells) ≡ len = length-take-le len cells (omega (arith, self.room, self.few)) in
    let short : n ≤ length more = omega (arith, c.min-n.ensures, min-le_right (g.row.N - len) (length more)) in
    let is : n ≡ min (g.row.N - length (take len cells)) (length more) = c.min-n.ensures ∙ ap (λ k. min (g.row.N - k) (length more)) (sym held) in
    take-put_mid len _ cells _ _ (omega (arith, ap length wrote, length-take-le n more short)) (omega (arith, self.room, self.few))
    ∙ extended (take len cells) more _ g.row.N n (omega (arith, held, self.few)) is wrote
