use Rattle.std.proofs.Common.{◌≡◌, ◌<◌, true, IfSome}
use Rattle.gcd_outer.specs.declared.limits.TheConstants.{MAX_FEEDS}
use Rattle.gcd_system.specs.Slots.{watched_slot}
use Rattle.gcd_system.proofs.slots.Slots.next_waiting.Given as goal

abbrev pub invariant-loop-feed : goal.invariant-loop-feed
invariant-loop-feed l = record {
  within : IfSome l.found (λ feed. feed < MAX_FEEDS);
  watched : IfSome l.found (λ feed. watched_slot l.self.slots.items feed ≡ true);
}
