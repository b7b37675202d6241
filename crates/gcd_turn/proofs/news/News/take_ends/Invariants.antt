use Rattle.std.proofs.Common.{◌≡◌, ◌≤◌, ◌-◌, List, filter, length, map}
use Rattle.std.specs.List.{range_with_len}
use Rattle.arrayvec.specs.ArrayVec.{array_vec_len}
use Rattle.gcd_event.specs.declared.event.Event.{Event}
use Rattle.gcd_history.specs.History.{is_live_feed}
use Rattle.gcd_machine.specs.Stands.{StandsFor}
use Rattle.gcd_turn.specs.Turns.{end_of}
use Rattle.gcd_turn.proofs.news.News.take_ends.Given as goal

abbrev pub invariant-loop-src : goal.invariant-loop-src
invariant-loop-src l = record {
  first : l.self-inside.next ≡ 0;
  few : array_vec_len l.self-inside.pieces ≤ l.from;
  within : l.from ≤ length l.plan.objects;
  pieces : (h : List Event) → StandsFor l.machine l.plan h
      → l.self-inside.pieces.items ≡ map end_of (filter (is_live_feed l.plan h) (range_with_len 0 l.from));
}

abbrev pub decreases-loop-src : goal.decreases-loop-src
decreases-loop-src l = length l.plan.objects - l.from
