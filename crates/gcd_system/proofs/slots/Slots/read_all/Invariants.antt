use Rattle.gcd_system.specs.Slots.{ReadTells}
use Rattle.gcd_system.proofs.slots.Slots.read_all.Given as goal

abbrev pub invariant-loop : goal.invariant-loop
invariant-loop l = ReadTells l.initial.self.slots.items l.self.slots.items l.told
