use Rattle.std.proofs.Common.{◌≡◌, ℕ, ◌<◌, ◌≤◌, None, rules, ap, ◌∙◌}
use Rattle.columns.specs.Arrivals.{Entered}
use Rattle.columns.specs.Cells.{entry_at}
use Rattle.columns.specs.declared.column.Cell.{Cell}
use Rattle.columns.specs.declared.column.Column.{Column}
use Rattle.columns.proofs.Stepped.{stepped_by, stepped_within, survivors_below}
use Rattle.columns.proofs.section.Section.step.Goals as goal

pub returns : goal.returns
returns g c =
    let here = c.args.self.now in
    let next : Column = record { cells = c.filled.result } in
    let none : Cell = record { cost = 0; history = 0; survivor = None } in
    let entered : (t : ℕ) → t < here.shape.states → Entered here.shape here.column.now c.extend-sums.result t (entry_at next t) =
    λ t lt. let h = c.filled.ensures.front none t lt in search rules in
    let rest : (t : ℕ) → here.shape.states ≤ t → t < 16 → entry_at next t ≡ record { cost = 4294967295; history = 0; survivor = None } =
    λ t past lt. c.filled.ensures.others none t past lt ∙ c.barred.ensures in record {
      stepped = λ q b shapes within low.
          stepped_by (g.C.Channel.meaning here.channel.now) q here.shape shapes here.place.now here.column.now c.weigh.result
          c.weigh.ensures b within low c.extend-sums.result c.extend-sums.ensures next entered;
      within =
          stepped_within here.shape here.column.now c.weigh.result c.weigh.ensures.small c.extend-sums.result c.extend-sums.ensures
          next c.filled.ensures.long entered (λ t past lt. ap (λ (r : Cell). r.cost) (rest t past lt));
      survivors = survivors_below here.shape here.column.now c.extend-sums.result next c.filled.ensures.long entered (λ t past lt. ap (λ (r : Cell). r.survivor) (rest t past lt));
    }
