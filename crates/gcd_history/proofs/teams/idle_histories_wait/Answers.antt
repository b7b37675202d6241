use Rattle.gcd_history.proofs.Public.TeamLaws.{idle_histories_wait}
use Rattle.gcd_history.proofs.teams.idle_histories_wait.Goals as goal

pub returns : goal.returns
returns c = idle_histories_wait
