use Rattle.std.proofs.Common.{◌≡◌, slice_index}
use Rattle.gcd_sema.specs.Rooms.{Rise}
use Rattle.gcd_sema.proofs.rooms.bases.Given as goal

abbrev pub invariant-loop-room : goal.invariant-loop-room
invariant-loop-room l = record {
  rise : Rise l.rooms l.bases.items l.room-index;
  last : l.base ≡ slice_index l.bases.items l.room-index;
}
