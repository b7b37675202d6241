use Rattle.gcd_history.proofs.Public.BlockLaws.{notified_once}
use Rattle.gcd_history.proofs.laws.ends_notify_once.Goals as goal

pub returns : goal.returns
returns c = notified_once
