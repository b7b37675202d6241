use Rattle.std.proofs.Common.{[]}
use Rattle.gcd_system.specs.Slots.{ReadTells}
use Rattle.gcd_system.proofs.slots.Slots.accept.Given as goal

abbrev pub invariant-loop : goal.invariant-loop
invariant-loop l = ReadTells l.initial.self.slots.items l.self.slots.items []
