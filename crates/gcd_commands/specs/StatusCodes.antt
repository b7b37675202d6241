-- The number of each status, and the status of a run that is over.
use Rattle.std.specs.Prelude.{ℕ}
use Rattle.gcd_history.specs.declared.state.State.{State}
use Rattle.gcd_history.specs.declared.state.State.TheVariants.{Drained as RunDrained, Stuck as RunStuck, Misused as RunMisused, Halted as RunHalted, Live as RunLive}
use Rattle.gcd_commands.specs.declared.status.Status.{Status}
use Rattle.gcd_commands.specs.declared.status.Status.TheVariants.{Drained, Stuck, NoCommand, ScriptRefused, Misused, Unread, CutOff, NoMemory, Full, JournalRefused, NoIntake}

-- the number with which the program ends
abbrev pub status_code : Status → ℕ
status_code Drained = 0
status_code Stuck = 1
status_code NoCommand = 2
status_code ScriptRefused = 3
status_code Misused = 4
status_code Unread = 5
status_code CutOff = 6
status_code NoMemory = 7
status_code Full = 8
status_code JournalRefused = 9
status_code NoIntake = 10

-- the status of a run that has come so far: a run is halted where its poller failed, and one that goes on is full
abbrev pub status_of : State → Status
status_of RunDrained = Drained
status_of RunStuck = Stuck
status_of RunMisused = Misused
status_of RunHalted = Unread
status_of RunLive = Full
