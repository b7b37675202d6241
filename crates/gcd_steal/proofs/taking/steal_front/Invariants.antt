use Rattle.std.proofs.Common.{◌≡◌}
use Rattle.crossbeam_deque.specs.Handles.{view, IsPassOf, SamePass, stealer_deque}
use Rattle.gcd_steal.proofs.taking.steal_front.Given as goal

abbrev pub invariant-loop : goal.invariant-loop
invariant-loop g l = record {
  same : SamePass l.initial.pass l.pass;
  table : IsPassOf (stealer_deque l.thief) l.pass;
  view_is : view l.pass ≡ view l.initial.pass;
}
