use Rattle.std.proofs.Common.{List}
use Rattle.gcd_plan.specs.PlanView.{PlanView}
use Rattle.gcd_event.specs.declared.event.Event.{Event}
use Rattle.gcd_machine.specs.Stands.{StandsFor}
use Rattle.gcd_workers.specs.JobsRuns.{AreTaken}
use Rattle.gcd_workers.proofs.jobs_board.values_of.Given as goal

abbrev pub invariant-loop-number : goal.invariant-loop-number
invariant-loop-number g l = (plan : PlanView) (h : List Event) → StandsFor l.machine plan h → AreTaken plan h l.cells l.number l.values.items
