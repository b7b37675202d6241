use Rattle.gcd_history.proofs.Public.TeamLaws.{takings_find_nobody}
use Rattle.gcd_history.proofs.teams.takings_find_nobody.Goals as goal

pub returns : goal.returns
returns c = takings_find_nobody
