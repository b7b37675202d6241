use Rattle.std.proofs.Common.{◌≡◌, ◌<◌, ℕ, true}
use Rattle.gcd_sets.specs.Words.{is_in_words}
use Rattle.gcd_drain.specs.Held.{AreHeldIn}
use Rattle.gcd_drain.proofs.held_chains.HeldChains.hold_all.Given as goal

abbrev pub invariant-loop-o : goal.invariant-loop-o
invariant-loop-o l = record {
  known : AreHeldIn l.known l.self l.tree l.holds;
  all : (k : ℕ) → k < l.o → is_in_words l.known k ≡ true;
}
