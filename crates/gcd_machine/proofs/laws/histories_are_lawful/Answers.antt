use Rattle.gcd_machine.proofs.Views.Calls.{lawful_stands, plan_stands, valid_stands}
use Rattle.gcd_machine.proofs.laws.histories_are_lawful.Goals as goal

pub returns : goal.returns
returns c = record { lawful = lawful_stands; own = plan_stands; valid = valid_stands }
