use Rattle.gcd_builder.specs.Agreement.{AreMore}
use Rattle.gcd_builder.proofs.flags.add_flags.Given as goal

abbrev pub invariant-loop : goal.invariant-loop
invariant-loop l = AreMore l.initial.flags.items l.flags.items l.counter
