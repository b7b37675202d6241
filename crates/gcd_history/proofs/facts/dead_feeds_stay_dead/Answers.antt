use Rattle.gcd_history.proofs.Public.Facts.{feeds_die, dead_feeds_stay, dead_feeds_are_silent}
use Rattle.gcd_history.proofs.facts.dead_feeds_stay_dead.Goals as goal

pub returns : goal.returns
returns c = record { die = feeds_die; stay = dead_feeds_stay; silent = dead_feeds_are_silent }
