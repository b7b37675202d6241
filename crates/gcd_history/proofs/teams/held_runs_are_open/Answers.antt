use Rattle.gcd_history.proofs.Public.TeamLaws.{held_runs_are_open, held_runs_are_apart}
use Rattle.gcd_history.proofs.HeldRuns.Cells.{nothing_is_held_at_quiescence}
use Rattle.gcd_history.proofs.teams.held_runs_are_open.Goals as goal

pub returns : goal.returns
returns c = record { runs = held_runs_are_open; apart = held_runs_are_apart; none = nothing_is_held_at_quiescence }
