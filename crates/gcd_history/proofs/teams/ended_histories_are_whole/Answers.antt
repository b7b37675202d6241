use Rattle.gcd_history.proofs.HeldRuns.OwnEvents.{ended_histories_are_whole, ended_histories_grow_by_halt}
use Rattle.gcd_history.proofs.HeldRuns.Holders.{one_workers_histories_are_whole}
use Rattle.gcd_history.proofs.teams.ended_histories_are_whole.Goals as goal

pub returns : goal.returns
returns c = record { ended = ended_histories_are_whole; halt = ended_histories_grow_by_halt; alone = one_workers_histories_are_whole }
