use Rattle.std.proofs.Common.{◌≡◌, ℕ, false, length}
use Rattle.gcd_system.specs.Slots.{watched_slot, ended_slot}
use Rattle.gcd_system.proofs.slots.absent_slots.Given as goal

abbrev pub invariant-loop : goal.invariant-loop
invariant-loop l = record {
  all : length l.slots.items ≡ l.counter;
  watched : (feed : ℕ) → watched_slot l.slots.items feed ≡ false;
  ended : (feed : ℕ) → ended_slot l.slots.items feed ≡ false;
}
