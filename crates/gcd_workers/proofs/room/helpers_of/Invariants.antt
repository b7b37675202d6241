use Rattle.std.proofs.Common.{◌≡◌, ◌+◌, List, length}
use Rattle.std.specs.Prelude.{All}
use Rattle.std.specs.Vec.Iter.{into_iter_items, into_iter_len}
use Rattle.gcd_plan.specs.PlanView.{PlanView}
use Rattle.gcd_event.specs.declared.event.Event.{Event}
use Rattle.gcd_machine.specs.Stands.{StandsFor}
use Rattle.gcd_steal.specs.Racks.{IsBenchOf}
use Rattle.gcd_steal.specs.declared.bench.Rack.{Rack}
use Rattle.gcd_workers.specs.Teams.{IsHelper}
use Rattle.gcd_workers.proofs.room.helpers_of.Given as goal

abbrev pub invariant-loop-bench : goal.invariant-loop-bench
invariant-loop-bench l = record {
  len : into_iter_len l.bench-iterator ≡ length (into_iter_items l.bench-iterator);
  count : length l.helpers.items + length (into_iter_items l.bench-iterator) ≡ length l.fn.benches.items;
  benches : (rack : Rack) → All (IsBenchOf rack) l.fn.benches.items → All (IsBenchOf rack) (into_iter_items l.bench-iterator);
  helpers : (rack : Rack) (plan : PlanView) (h : List Event) → All (IsBenchOf rack) l.fn.benches.items → StandsFor l.machine plan h → All (IsHelper rack plan h) l.helpers.items;
}
