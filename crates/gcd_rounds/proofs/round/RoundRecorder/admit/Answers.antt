use Rattle.std.proofs.Common.{refl}
use Rattle.gcd_event.specs.declared.event.Event.TheVariants.{Shut}
use Rattle.gcd_rounds.proofs.round.RoundRecorder.admit.Goals as goal

pub returns-clause-said : goal.returns-clause-said
returns-clause-said g c = record { event = Shut; called = refl; said = c.in_ok-put.ensures.said }
