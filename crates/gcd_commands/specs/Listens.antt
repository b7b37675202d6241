-- The step at which connections begin to be accepted.
use Rattle.std.specs.Prelude.{◌≡◌, true, [], Option, Some, length, option_to_list}
use Rattle.gcd_outer.specs.Outside.{Bytes, Seen}
use Rattle.gcd_outer.specs.Tells.{PollerState}
use Rattle.gcd_commands.specs.Calls.{Listening, PollerFailed}
use Rattle.gcd_commands.specs.declared.stop.Stop.{Stop}
use Rattle.gcd_commands.specs.declared.stop.Stop.TheVariants.{Unread}

-- the poller listens at the address, if there is one; what it told and how often it failed are as before
pub record Listened (poller : Seen PollerState) (address : Option Bytes) : Type 0 where
  pub listening : Listening poller (length (option_to_list address)) (option_to_list address)
  pub answers : poller.tells ≡ true → poller.after.answers ≡ poller.before.answers
  pub watches : poller.tells ≡ true → poller.after.watches ≡ poller.before.watches
  pub faults : poller.after.faults ≡ poller.before.faults

-- it could not listen at the address
pub record FailsToListen (poller : Seen PollerState) (address : Option Bytes) (stop : Stop) : Type 0 where
  pub asked : Bytes
  pub asked_is : address ≡ Some asked
  pub failed : PollerFailed poller
  pub listening : Listening poller 1 []
  pub stop_is : stop ≡ Unread 0
