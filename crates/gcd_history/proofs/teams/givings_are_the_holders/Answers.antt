use Rattle.gcd_history.proofs.Public.TeamLaws.{givings_are_the_holders, own_events_are_the_holders, parking_acts_are_blocks}
use Rattle.gcd_history.proofs.HeldRuns.Holders.{comes_home}
use Rattle.gcd_history.proofs.teams.givings_are_the_holders.Goals as goal

pub returns : goal.returns
returns c = record { gives = givings_are_the_holders; acts = own_events_are_the_holders; blocks = parking_acts_are_blocks; home = comes_home }
