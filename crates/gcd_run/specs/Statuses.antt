-- What each status of a call says.
use Rattle.std.specs.Prelude.{◌≡◌, ◌+◌, ◌⊎◌, ℕ, List, [], Option, Some, None, length}
use Rattle.gcd_plan.specs.Limits.{max_events}
use Rattle.gcd_plan.specs.PlanView.{PlanView, IntakeView}
use Rattle.gcd_event.specs.declared.event.Event.{Event}
use Rattle.gcd_history.specs.Ends.{HasState}
use Rattle.gcd_history.specs.History.{IsLawful}
use Rattle.gcd_history.specs.Report.{front_text}
use Rattle.gcd_history.specs.declared.state.State.{State}
use Rattle.gcd_history.specs.declared.state.State.TheVariants.{Drained as RunDrained, Stuck as RunStuck, Misused as RunMisused, Halted as RunHalted, Live as RunLive}
use Rattle.gcd_journal.specs.Judged.{IsFirstBarred}
use Rattle.gcd_outer.specs.Outside.{Bytes, SinkFailed, Took, TookFront}
use Rattle.gcd_words.specs.Asked.{Asked, RunAsked, request_of, run, check, big, front}
use Rattle.gcd_history.specs.Intake.{AcceptsOf, AcceptsNone}
use Rattle.gcd_journal.specs.declared.cause.JournalCause.{JournalCause}
use Rattle.gcd_script.specs.Causes.{cause_code}
use Rattle.gcd_script.specs.declared.cause.Cause.{Cause}
use Rattle.gcd_commands.specs.Calls.{Calls, InputsSeen, Made, only_loads, with_listen}
use Rattle.gcd_commands.specs.Checks.{IsJournalAt, StopsCheck}
use Rattle.gcd_commands.specs.End.{End, usage_text, read_fault, refused_end, no_journal_end, no_intake_end, run_text, large_text, lawful_text, unlawful_text}
use Rattle.gcd_run.specs.Ends.{HasStatus, IsWanting, OutsideSeen, WordsEnd}
use Rattle.gcd_commands.specs.Fronts.{HearsSenders, StopsFront, front_workers}
use Rattle.gcd_commands.specs.Loads.{IsPlanOf, IsReady}
use Rattle.gcd_commands.specs.Pages.{KeepsPages}
use Rattle.gcd_commands.specs.Runs.{IsLarge, Ran, StopsRun}
use Rattle.gcd_commands.specs.declared.status.Status.{Status}
use Rattle.gcd_commands.specs.declared.status.Status.TheVariants.{Drained, Stuck, NoCommand, ScriptRefused, Misused, Unread, CutOff, NoMemory, Full, JournalRefused, NoIntake}
use Rattle.gcd_commands.specs.declared.stop.Stop.{Stop}
use Rattle.gcd_commands.specs.declared.stop.Stop.TheVariants.{Unread as CantRead, Script, Journal, NoIntake as LacksIntake}
use Rattle.gcd_run.specs.declared.ended.Ended.{Ended}

-- the words ask for this
abbrev pub Asks : List Bytes → Asked → Type 0
Asks words asked = request_of words ≡ Some asked

-- ## A run

-- `run`: the script is a script of this plan, which is valid, and it and each file of it was loaded once; the journal of the
-- answer is that of the run, which has come to this state, and keeps the pages of strips and block objects; and the sink took the
-- journal, where it is asked for, and the report
pub record RunsScript (outside : OutsideSeen) (words : List Bytes) (result : Ended) (state : State) : Type 0 where
  pub asked : RunAsked
  pub plan : PlanView
  pub contents : List Bytes
  pub asks : Asks words (run asked)
  pub ready : IsReady outside.inputs.shelf asked.script plan contents
  pub made : Made outside.inputs (with_listen (length plan.files + 1) asked.listen)
  pub ran : Ran outside.inputs.poller outside.inputs.clock plan asked.workers asked.most AcceptsNone result.journal.items state
  pub pages : KeepsPages plan contents result.journal.items
  pub at_is : result.at ≡ None
  pub written : Took outside.sink (run_text asked.journal plan contents state result.journal.items)

-- `big`: the same of the large script, with no load
pub record RunsLarge (outside : OutsideSeen) (words : List Bytes) (result : Ended) (state : State) : Type 0 where
  pub count : ℕ
  pub workers : ℕ
  pub plan : PlanView
  pub contents : List Bytes
  pub asks : Asks words (big count workers)
  pub large : IsLarge count plan contents
  pub made : Made outside.inputs (only_loads 0)
  pub ran : Ran outside.inputs.poller outside.inputs.clock plan workers max_events AcceptsNone result.journal.items state
  pub at_is : result.at ≡ None
  pub written : Took outside.sink (large_text count plan contents state result.journal.items)

-- `front`: the same of a script with an intake, with a load of it and of each file of it, beside so many senders; each accepted job is
-- one of theirs, and the sink took a line for each sender, and the end
pub record RunsBeside (outside : OutsideSeen) (words : List Bytes) (result : Ended) (state : State) : Type 0 where
  pub script : Bytes
  pub senders : ℕ
  pub plan : PlanView
  pub contents : List Bytes
  pub intake : IntakeView
  pub value : ℕ → ℕ
  pub asks : Asks words (front script senders)
  pub ready : IsReady outside.inputs.shelf script plan contents
  pub intake_is : plan.intake ≡ Some intake
  pub made : Made outside.inputs (only_loads (length plan.files + 1))
  pub ran : Ran outside.inputs.poller outside.inputs.clock plan front_workers max_events (AcceptsOf senders) result.journal.items state
  pub hears : HearsSenders plan intake senders value result.journal.items
  pub pages : KeepsPages plan contents result.journal.items
  pub at_is : result.at ≡ None
  pub written : Took outside.sink (front_text plan senders value state result.journal.items)

-- a run came to this state
abbrev pub Runs : OutsideSeen → List Bytes → Ended → State → Type 0
Runs outside words result state =
    RunsScript outside words result state ⊎ (RunsLarge outside words result state ⊎ RunsBeside outside words result state)

-- ## A journal

-- `check`: the journal of the answer is the one that was loaded, and it was judged
pub record Judges (outside : OutsideSeen) (words : List Bytes) (result : Ended)
    (judged : PlanView → List Event → Type 0) (at : Option (ℕ × ℕ)) (text : Bytes) : Type 0 where
  pub script : Bytes
  pub journal : Bytes
  pub plan : PlanView
  pub asks : Asks words (check script journal)
  pub plan_is : IsPlanOf outside.inputs.shelf script plan
  pub read : IsJournalAt outside.inputs.shelf journal plan result.journal.items
  pub made : Made outside.inputs (only_loads 2)
  pub is : judged plan result.journal.items
  pub at_is : result.at ≡ at
  pub written : Took outside.sink text

-- each event is permitted at its place, and they have come to this state
pub record IsLawfulTo (state : State) (plan : PlanView) (h : List Event) : Type 0 where
  pub lawful : IsLawful plan h
  pub state_is : HasState plan h state

-- the events are lawful
abbrev pub Lawful : OutsideSeen → List Bytes → Ended → Type 0
Lawful outside words result =
    (state : State) × Judges outside words result (IsLawfulTo state) None (lawful_text (length result.journal.items) state)

-- this event is the first that is not permitted
abbrev pub Unlawful : OutsideSeen → List Bytes → Ended → Type 0
Unlawful outside words result =
    (index : ℕ) × Judges outside words result (λ plan h. IsFirstBarred plan h index) (Some (index, 2)) (unlawful_text index)

-- ## Neither

-- a command stopped for this cause, after these calls
pub data StopsAt (seen : InputsSeen) (words : List Bytes) (calls : Calls) (stop : Stop) : Type 0 where
  of_run : (asked : RunAsked) → Asks words (run asked) → StopsRun seen asked calls stop → StopsAt seen words calls stop
  of_check : (script journal : Bytes) (n : ℕ) → Asks words (check script journal) → calls ≡ only_loads n
      → StopsCheck seen.shelf script journal n stop → StopsAt seen words calls stop
  of_front : (script : Bytes) (senders n : ℕ) → Asks words (front script senders) → calls ≡ only_loads n
      → StopsFront seen.shelf script n stop → StopsAt seen words calls stop

-- a command stopped for this cause, and ended so
pub record Stopped (outside : OutsideSeen) (words : List Bytes) (result : Ended) (stop : Stop) (end : End) : Type 0 where
  pub calls : Calls
  pub made : Made outside.inputs calls
  pub why : StopsAt outside.inputs words calls stop
  pub written : Took outside.sink end.text
  pub journal_is : result.journal.items ≡ []
  pub at_is : result.at ≡ end.at

-- the words name no command, no call was made, and the sink took the usage line
pub record IsUsage (outside : OutsideSeen) (words : List Bytes) (result : Ended) : Type 0 where
  pub no_command : request_of words ≡ None
  pub made : Made outside.inputs (only_loads 0)
  pub written : Took outside.sink usage_text
  pub journal_is : result.journal.items ≡ []
  pub at_is : result.at ≡ None

-- the sink failed in the call: it took a proper prefix of the text that was to be written
pub record IsCutOff (outside : OutsideSeen) (words : List Bytes) (result : Ended) : Type 0 where
  pub end : End
  pub calls : Calls
  pub made : Made outside.inputs calls
  pub reported : WordsEnd outside.inputs words calls end
  pub failed : SinkFailed outside.sink
  pub prefix : TookFront outside.sink end.text
  pub journal_is : result.journal.items ≡ end.journal
  pub at_is : result.at ≡ end.at

-- what each status says
abbrev pub Says : OutsideSeen → List Bytes → Ended → Status → Type 0
Says outside words result Drained = Runs outside words result RunDrained ⊎ Lawful outside words result
Says outside words result Stuck = Runs outside words result RunStuck
Says outside words result NoCommand = IsUsage outside words result
Says outside words result ScriptRefused =
    (line : ℕ) × (cause : Cause) × Stopped outside words result (Script line cause) (refused_end line (cause_code cause))
Says outside words result Misused = Runs outside words result RunMisused
Says outside words result Unread =
    Runs outside words result RunHalted ⊎ ((line : ℕ) × Stopped outside words result (CantRead line) read_fault)
Says outside words result CutOff = IsCutOff outside words result
Says outside words result NoMemory = IsWanting outside.sink result
Says outside words result Full = Runs outside words result RunLive
Says outside words result JournalRefused =
    ((line : ℕ) × (cause : JournalCause) × Stopped outside words result (Journal line cause) (no_journal_end line))
    ⊎ Unlawful outside words result
Says outside words result NoIntake = Stopped outside words result LacksIntake no_intake_end

-- what the status of the answer says
abbrev pub StatusSays : OutsideSeen → List Bytes → Ended → Type 0
StatusSays outside words result = (status : Status) → HasStatus result status → Says outside words result status
