use Rattle.gcd_history.proofs.Public.TeamLaws.{cells_wait}
use Rattle.gcd_history.proofs.HeldRuns.Cells.{held_cells_wait, cells_stay, bodies_come_back}
use Rattle.gcd_history.proofs.teams.cells_wait.Goals as goal

pub returns : goal.returns
returns c = record { others = cells_wait; held = held_cells_wait; stays = cells_stay; back = bodies_come_back }
