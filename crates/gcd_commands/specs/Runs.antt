-- What `run` and `big` do, and what their runs promise.
use Rattle.std.specs.Prelude.{◌≡◌, ◌<◌, ◌+◌, ℕ, List, length, map, Some}
use Rattle.gcd_plan.specs.Limits.{max_events}
use Rattle.gcd_plan.specs.PlanView.{PlanView}
use Rattle.gcd_plan.specs.Validity.{IsPlan}
use Rattle.gcd_event.specs.declared.event.Event.{Event}
use Rattle.gcd_history.specs.Ends.{HasState, IsFull}
use Rattle.gcd_history.specs.declared.state.State.{State}
use Rattle.gcd_history.specs.declared.state.State.TheVariants.{Live}
use Rattle.gcd_outer.specs.Outside.{Bytes, ClockState, Seen}
use Rattle.gcd_outer.specs.Tells.{PollerState}
use Rattle.gcd_script.specs.BigScript.{big_script}
use Rattle.gcd_script.specs.Faults.{IsScriptOf}
use Rattle.gcd_history.specs.Intake.{AcceptsNone}
use Rattle.gcd_loop.specs.Ran.{RunsPlan}
use Rattle.gcd_words.specs.Asked.{RunAsked}
use Rattle.gcd_commands.specs.Calls.{Calls, InputsSeen, PollerFailed, only_loads, failed_listen, with_listen}
use Rattle.gcd_commands.specs.End.{End, ran_end, run_text, large_file, large_text, stop_end}
use Rattle.gcd_commands.specs.Loads.{IsPlanOf, IsReady, StopsReady}
use Rattle.gcd_commands.specs.declared.stop.Stop.{Stop}
use Rattle.gcd_commands.specs.declared.stop.Stop.TheVariants.{Unread, Memory}

-- ## A run

-- the run is over: it is halted, full or quiescent, as its state says
pub record IsOver (most : ℕ) (plan : PlanView) (h : List Event) (state : State) : Type 0 where
  pub state_is : HasState plan h state
  pub full : state ≡ Live → IsFull most plan h

-- A plan has run by so many workers, with at most so many events, and this is the run's whole journal: it is lawful; with one
-- worker each event of a worker is what that worker chooses; of the jobs of outside callers `calls` holds; no Tick is ahead of the
-- clock, and moments waited for are due times; what the poller told stands in it, in order, and a Halt stands in it only if the poller
-- failed (`RunsPlan` says all this); and it is over, in this state.
pub record Ran (poller : Seen PollerState) (clock : Seen ClockState) (plan : PlanView) (workers most : ℕ) (calls : List Event → Type 0)
    (h : List Event) (state : State) : Type 0 where
  pub run : RunsPlan most plan workers calls poller clock h
  pub over : IsOver most plan h state

-- a plan has run over these contents of its files, and this is told of the run, by its journal and its state
pub record TellsRun (poller : Seen PollerState) (clock : Seen ClockState) (plan : PlanView) (workers most : ℕ)
    (calls : List Event → Type 0) (text : State → List Event → Bytes) (end : End) : Type 0 where
  pub h : List Event
  pub state : State
  pub ran : Ran poller clock plan workers most calls h state
  pub end_is : end ≡ ran_end state h (text state h)

-- ## `run`

-- why `run` stops, after these calls: at the script or at a file of it, at the listen, or where memory ran out after that
pub data StopsRun (seen : InputsSeen) (asked : RunAsked) (calls : Calls) (stop : Stop) : Type 0 where
  unready : (n : ℕ) → StopsReady seen.shelf asked.script n stop → calls ≡ only_loads n → StopsRun seen asked calls stop
  at_listen : (plan : PlanView) (contents : List Bytes) (address : Bytes) → IsReady seen.shelf asked.script plan contents
      → asked.listen ≡ Some address → PollerFailed seen.poller → stop ≡ Unread 0 → calls ≡ failed_listen (length plan.files + 1)
      → StopsRun seen asked calls stop
  wanting : (plan : PlanView) (contents : List Bytes) → IsReady seen.shelf asked.script plan contents → stop ≡ Memory
      → calls ≡ with_listen (length plan.files + 1) asked.listen → StopsRun seen asked calls stop

-- what `run` tells after these calls: why it stopped; or its plan ran over the files that were loaded, and what is told is the
-- run's journal, where it is asked for, and its report
pub data RunEnds (seen : InputsSeen) (asked : RunAsked) (calls : Calls) (end : End) : Type 0 where
  stopped : (stop : Stop) → StopsRun seen asked calls stop → stop_end stop ≡ Some end → RunEnds seen asked calls end
  ran : (plan : PlanView) (contents : List Bytes) → IsReady seen.shelf asked.script plan contents
      → calls ≡ with_listen (length plan.files + 1) asked.listen
      → TellsRun seen.poller seen.clock plan asked.workers asked.most AcceptsNone (run_text asked.journal plan contents) end
      → RunEnds seen asked calls end

-- The calls of `run` up to some step: a load of the script; one of each file of its plan, up to some file; a listen, only where
-- one is asked for and all files are loaded.
pub data RunCalls (seen : InputsSeen) (asked : RunAsked) (calls : Calls) : Type 0 where
  of_script : calls ≡ only_loads 1 → RunCalls seen asked calls
  of_file : (plan : PlanView) (f : ℕ) → IsPlanOf seen.shelf asked.script plan → f < length plan.files → calls ≡ only_loads (f + 2)
      → RunCalls seen asked calls
  of_listen : (plan : PlanView) (address : Bytes) → IsPlanOf seen.shelf asked.script plan → asked.listen ≡ Some address
      → calls ≡ failed_listen (length plan.files + 1) → RunCalls seen asked calls
  of_run : (plan : PlanView) → IsPlanOf seen.shelf asked.script plan → calls ≡ with_listen (length plan.files + 1) asked.listen
      → RunCalls seen asked calls

-- ## `big`

-- the large script with so many blocks declares the plan
unfoldable pub IsLargeScript : (count : ℕ) → PlanView → Type 0
IsLargeScript count plan = IsScriptOf (big_script count) plan

-- the plan of the large script with so many blocks, where each file of it holds the large file
pub record IsLarge (count : ℕ) (plan : PlanView) (contents : List Bytes) : Type 0 where
  pub valid : IsPlan plan
  pub script : IsLargeScript count plan
  pub contents_are : contents ≡ map (λ file. large_file) plan.files

-- `big`: its plan ran, with as many events as a run can have
pub record BigEnds (poller : Seen PollerState) (clock : Seen ClockState) (count workers : ℕ) (end : End) : Type 0 where
  pub plan : PlanView
  pub contents : List Bytes
  pub large : IsLarge count plan contents
  pub tells : TellsRun poller clock plan workers max_events AcceptsNone (large_text count plan contents) end
