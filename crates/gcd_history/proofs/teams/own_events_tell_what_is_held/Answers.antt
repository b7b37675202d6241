use Rattle.gcd_history.proofs.Public.TeamLaws.{nothing_is_held_first}
use Rattle.gcd_history.proofs.HeldRuns.Holders.{what_is_held_after}
use Rattle.gcd_history.proofs.HeldRuns.OwnEvents.{own_events_tell_what_is_held}
use Rattle.gcd_history.proofs.teams.own_events_tell_what_is_held.Goals as goal

pub returns : goal.returns
returns c = record { begin = nothing_is_held_first; after = what_is_held_after; own = own_events_tell_what_is_held }
