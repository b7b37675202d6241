use Rattle.std.proofs.Common.{◌≡◌, None, []}
use Rattle.crossbeam_queue.specs.Passes.{view, IsPassOf}
use Rattle.gcd_front.specs.Fronts.{first_mouths}
use Rattle.gcd_front.specs.Notes.{listening}
use Rattle.gcd_front.specs.Queue.{taking}
use Rattle.gcd_front.proofs.front.open_mouths.Given as goal

abbrev pub invariant-loop-sender : goal.invariant-loop-sender
invariant-loop-sender g l = record {
  table : l.seat.table_id ≡ l.notes.shared.table_id;
  seat : l.seat.me ≡ (listening l.fn.seat.me.0.queue l.sender 0 [] None, []);
  pass : IsPassOf l.queue l.pass;
  knows : view l.pass ≡ taking [] l.sender [];
  mouths : l.mouths.items ≡ first_mouths (record { queue = l.queue.table.shared.table_id; notes = l.notes.shared.table_id }) l.sender;
}
