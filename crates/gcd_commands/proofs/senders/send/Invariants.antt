use Rattle.std.proofs.Common.{◌≡◌}
use Rattle.gcd_commands.proofs.senders.send.Given as goal

abbrev pub invariant-loop : goal.invariant-loop
invariant-loop g l = l.mouth ≡ l.fn.mouth
