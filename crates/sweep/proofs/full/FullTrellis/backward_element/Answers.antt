use Rattle.std.proofs.Common.{rules}
use Rattle.sweep.proofs.Elements.{backward_last}
use Rattle.sweep.proofs.Indices.{column_after}
use Rattle.sweep.proofs.full.FullTrellis.backward_element.Goals as goal

pub returns-then-column-self : goal.returns-then-column-self
returns-then-column-self g c = search (rules, backward_last) depth 9

pub lead_on-requires-clause-after : goal.lead_on-requires-clause-after
lead_on-requires-clause-after g c =
    column_after _ _ _ _ _ _ _ _ c.requires.after (search rules) c.self.invariant.some_states (search rules) c.requires.index
