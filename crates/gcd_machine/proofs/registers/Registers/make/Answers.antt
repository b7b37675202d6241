use Rattle.gcd_machine.proofs.Conditions.KeptAtActs.{may_park, may_have_effect}
use Rattle.gcd_machine.proofs.registers.Registers.make.Goals as goal

pub park_in-requires : goal.park_in-requires
park_in-requires c = may_park c.count_act.ensures c.requires

pub have_effect-requires : goal.have_effect-requires
have_effect-requires c = may_have_effect c.count_act.ensures c.park_in.ensures c.requires
