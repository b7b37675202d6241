use Rattle.gcd_history.proofs.Public.Facts.{free_alike, all_workers_free}
use Rattle.gcd_history.proofs.facts.free_workers_are_alike.Goals as goal

pub returns : goal.returns
returns c = record { alike = free_alike; free = all_workers_free }
