use Rattle.std.proofs.Common.{◌≡◌, map, take}
use Rattle.gcd_history.specs.Intake.{blocks_of_sender}
use Rattle.gcd_commands.specs.Fronts.{value_or_0}
use Rattle.gcd_commands.proofs.front.values_of_sender.Given as goal

abbrev pub invariant-loop-event : goal.invariant-loop-event
invariant-loop-event l = l.made.items ≡ map (λ b. value_or_0 l.values b.0) (blocks_of_sender (take l.event-index l.journal) l.sender)
