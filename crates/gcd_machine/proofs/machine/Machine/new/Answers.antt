use Rattle.gcd_machine.proofs.Steps.Applied.{new_stands, new_shaped}
use Rattle.gcd_machine.proofs.machine.Machine.new.Goals as goal

pub invariant_of-result : goal.invariant_of-result
invariant_of-result c = new_shaped c.in_ok-new.field-0 c.args.plan.now c.in_ok-new.ensures.kept c.new.ensures.valid

pub returns-clause-stands : goal.returns-clause-stands
returns-clause-stands c = new_stands c.in_ok-new.field-0 c.args.plan.now c.in_ok-new.ensures.kept c.new.ensures.valid
