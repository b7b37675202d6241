use Rattle.gcd_script.proofs.Reading.{declares_valid}
use Rattle.gcd_script.proofs.laws.scripts_declare_valid_plans.Goals as goal

pub returns : goal.returns
returns c = declares_valid
