-- What a command hands on beside what it tells.
use Rattle.std.specs.Prelude.{◌≡◌, ℕ, List, Some, None, take}
use Rattle.gcd_plan.specs.PlanView.{PlanView}
use Rattle.gcd_event.specs.declared.event.Event.{Event}
use Rattle.gcd_machine.specs.Stands.{StandsFor}
use Rattle.gcd_outer.specs.Outside.{Bytes, Seen, ShelfState}
use Rattle.gcd_refinement.specs.MachineView.{MachineView}
use Rattle.gcd_words.specs.Asked.{RunAsked}
use Rattle.gcd_commands.specs.Calls.{InputsSeen, SomeCalls}
use Rattle.gcd_commands.specs.Checks.{StopsCheck}
use Rattle.gcd_commands.specs.End.{End, stop_end}
use Rattle.gcd_commands.specs.Fronts.{StopsFront}
use Rattle.gcd_commands.specs.Loads.{IsPlanOf, SomeLoads}
use Rattle.gcd_commands.specs.Runs.{IsLargeScript, StopsRun}
use Rattle.gcd_commands.specs.declared.found.Found.{Found}
use Rattle.gcd_commands.specs.declared.found.Found.TheVariants.{Nothing, Unread, Script, Journal, Run}
use Rattle.gcd_commands.specs.declared.stop.Stop.{Stop}
use Rattle.gcd_commands.specs.declared.stop.Stop.TheVariants.{Unread as CantRead, Script as ScriptStop, Journal as JournalStop, NoIntake, Memory}

-- what a stop hands on: the line that declares the file that can't be read; the cause of the refusal
abbrev pub found_of : Stop → Found
found_of (CantRead line) = Unread line
found_of (ScriptStop line cause) = Script cause
found_of (JournalStop line cause) = Journal cause
found_of NoIntake = Nothing
found_of Memory = Nothing

-- What is handed on of a command that stopped for one of its causes. The end that it told is that of the stop (`stop_end`): if the script
-- is refused, the end has the line of the stop and the code of the cause that is handed on; if the journal is, the line.
pub record HandsStop (stops : Stop → Type 0) (end : End) (found : Found) : Type 0 where
  pub stop : Stop
  pub why : stops stop
  pub told : stop_end stop ≡ Some end
  pub found_is : found ≡ found_of stop

-- this is the plan, and a machine that stands for it and these events
pub record IsRunOf (plan : PlanView) (h : List Event) (found : Found) : Type 0 where
  pub machine : MachineView
  pub stands : StandsFor machine plan h
  pub found_is : found ≡ Run plan machine

-- what a run hands on: its plan, and a machine that stands for its journal; of a stop its cause
pub data HandsRun (stops : Stop → Type 0) (declares : PlanView → Type 0) (end : End) (found : Found) : Type 0 where
  stopped : HandsStop stops end found → HandsRun stops declares end found
  ran : (plan : PlanView) → declares plan → IsRunOf plan end.journal found → HandsRun stops declares end found

-- this is the plan, and a machine that stands for it and the events of the end, or, if an event of them is the first that is not
-- permitted, for those before it
pub data IsJudgeOf (plan : PlanView) (end : End) (found : Found) : Type 0 where
  lawful : end.at ≡ None → IsRunOf plan end.journal found → IsJudgeOf plan end found
  barred : (index : ℕ) → end.at ≡ Some (index, 2) → IsRunOf plan (take index end.journal) found → IsJudgeOf plan end found

-- what a check hands on: the plan of its script, and a machine that has taken the events that are permitted; of a stop its cause
pub data HandsCheck (stops : Stop → Type 0) (declares : PlanView → Type 0) (end : End) (found : Found) : Type 0 where
  stopped : HandsStop stops end found → HandsCheck stops declares end found
  judged : (plan : PlanView) → declares plan → IsJudgeOf plan end found → HandsCheck stops declares end found

-- ## By command

-- `run`: of a stop a cause for which it stops after the calls that it made
abbrev pub HandsOfRun : InputsSeen → RunAsked → End → Found → Type 0
HandsOfRun seen asked end found =
    HandsRun (λ stop. SomeCalls seen (λ calls. StopsRun seen asked calls stop)) (IsPlanOf seen.shelf asked.script) end found

-- `check`: of a stop a cause for which it stops after the loads that it made
abbrev pub HandsOfCheck : Seen ShelfState → (script journal : Bytes) → End → Found → Type 0
HandsOfCheck shelf script journal end found =
    HandsCheck (λ stop. SomeLoads shelf (λ n. StopsCheck shelf script journal n stop)) (IsPlanOf shelf script) end found

-- `big`: it tells no stop
abbrev pub HandsOfBig : (count : ℕ) → End → Found → Type 0
HandsOfBig count end found = HandsRun (λ stop. ⊥) (IsLargeScript count) end found

-- `front`: of a stop a cause for which it stops after the loads that it made
abbrev pub HandsOfFront : Seen ShelfState → (script : Bytes) → End → Found → Type 0
HandsOfFront shelf script end found =
    HandsRun (λ stop. SomeLoads shelf (λ n. StopsFront shelf script n stop)) (IsPlanOf shelf script) end found
