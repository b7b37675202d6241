use Rattle.std.proofs.Common.{◌≡◌, List, map}
use Rattle.std.specs.List.{range_with_len}
use Rattle.gcd_plan.specs.PlanView.{PlanView}
use Rattle.gcd_event.specs.declared.event.Event.{Event}
use Rattle.gcd_machine.specs.Stands.{StandsFor}
use Rattle.gcd_timeline.specs.Standings.{standing_of}
use Rattle.gcd_timeline.proofs.standing.standings_by.Given as goal

abbrev pub invariant-loop-b : goal.invariant-loop-b
invariant-loop-b l = (plan : PlanView) (h : List Event) → StandsFor l.machine plan h → l.standings.items ≡ map (standing_of plan h) (range_with_len 0 l.b)
