use Rattle.std.proofs.Common.{rules}
use Rattle.sweep.proofs.Elements.{forward_first}
use Rattle.sweep.proofs.Indices.{column_before}
use Rattle.sweep.proofs.full.FullTrellis.forward_element.Goals as goal

pub returns-then-column-eq0 : goal.returns-then-column-eq0
returns-then-column-eq0 g c = search (rules, forward_first) depth 9

pub gather-requires-clause-before : goal.gather-requires-clause-before
gather-requires-clause-before g c =
    column_before _ _ _ _ _ _ _ _ c.requires.before (search rules) c.self.invariant.some_states c.if-column-eq0.false
