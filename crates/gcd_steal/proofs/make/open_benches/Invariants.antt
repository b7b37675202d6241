use Rattle.std.proofs.Common.{◌≡◌, [], length}
use Rattle.gcd_steal.specs.Places.{sight}
use Rattle.gcd_steal.specs.Making.{AreOpened}
use Rattle.gcd_steal.proofs.make.open_benches.Given as goal

abbrev pub invariant-loop-number : goal.invariant-loop-number
invariant-loop-number l = record {
  table : l.seat.table_id ≡ l.places.shared.table_id;
  unseen : l.seat.me ≡ (sight l.rack.tokens [] 0, []);
  benches : length l.benches.items ≡ l.number;
  thieves : length l.thieves.items ≡ l.number;
  opened : AreOpened l.places.shared.table_id l.rack l.most l.thieves.items l.benches.items;
}
