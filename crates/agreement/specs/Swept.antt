-- What a least-cost sweep leaves: its refusal, and three lists.
use Rattle.std.specs.Prelude.{◌≡◌, List, length, Result}
use Rattle.channel.specs.Meaning.{Meaning}
use Rattle.joining.specs.LeastCosts.{least_cost_operations, least_cost_worth}
use Rattle.joining.specs.declared.LeastCost.{LeastCost}
use Rattle.burst.specs.Refusals.{refused_by}
use Rattle.burst.specs.declared.place.Place.{Place}
use Rattle.burst.specs.declared.refusal.Refusal.{Refusal}
use Rattle.sweep.specs.Checks.{sweep_refusal}
use Rattle.sweep.specs.Lists.{ForwardStands, BackwardStands, AnswersStand}

-- It is refused exactly as the sweep is by its rule, and each list stands as after the sweep: its front written and the rest kept, after a refusal all kept.
pub record Swept (m : Meaning) (places : List Place) (r : Result (Unit {0}) Refusal) (forward forward' backward backward' answers answers' : List LeastCost) : Type 0 where
  pub refusal : refused_by r ≡ sweep_refusal m places (length forward) (length backward) (length answers)
  pub fronts : ForwardStands least_cost_operations least_cost_worth m places r forward forward'
  pub backs : BackwardStands least_cost_operations least_cost_worth m places r backward backward'
  pub meets : AnswersStand least_cost_operations least_cost_worth m places r answers answers'
