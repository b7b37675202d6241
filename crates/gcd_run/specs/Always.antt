-- What the call has to tell: what a shelf that tells gives of a script, its files and a journal, and what the call then answers
-- and writes, a fault of the outside and out of memory aside.
use Rattle.std.specs.Prelude.{◌≡◌, ◌≢◌, ◌⊎◌, ℕ, nat_lt, if◌then◌else◌, List, [], ◌∷◌, Option, Some, None, Result, Ok, Err, length}
use Rattle.gcd_plan.specs.Limits.{max_events, max_file_bytes, max_script_bytes}
use Rattle.gcd_plan.specs.PlanView.{PlanView, FileView, IntakeView}
use Rattle.gcd_history.specs.declared.state.State.{State}
use Rattle.gcd_history.specs.declared.state.State.TheVariants.{Halted}
use Rattle.gcd_event.specs.declared.event.Event.{Event}
use Rattle.gcd_journal.specs.Journals.{IsJournal, IsRefusedAt}
use Rattle.gcd_journal.specs.Judged.{IsFirstBarred}
use Rattle.gcd_outer.specs.Outside.{Bytes, ShelfFailed, Seen, SinkState, SinkFailed}
use Rattle.gcd_script.specs.Faults.{fault_of, IsScriptOf}
use Rattle.gcd_journal.specs.declared.cause.JournalCause.{JournalCause}
use Rattle.gcd_script.specs.Causes.{cause_code}
use Rattle.gcd_script.specs.declared.cause.Cause.{Cause}
use Rattle.gcd_commands.specs.Checks.{long_journal}
use Rattle.gcd_commands.specs.Loads.{long_file, long_script}
use Rattle.gcd_words.specs.Asked.{RunAsked, request_of, run, check, big, front}
use Rattle.gcd_commands.specs.Calls.{PollerFailed}
use Rattle.gcd_commands.specs.End.{End, lawful_end, read_fault, stop_end, unlawful_end, usage_end}
use Rattle.gcd_run.specs.Ends.{HasStatus, IsWritten, OutsideSeen, ShelfTells, shelf_content}
use Rattle.gcd_commands.specs.StatusCodes.{status_of}
use Rattle.gcd_run.specs.Statuses.{Asks, IsLawfulTo, Runs}
use Rattle.gcd_commands.specs.declared.status.Status.TheVariants.{Drained, NoMemory, JournalRefused}
use Rattle.gcd_commands.specs.declared.stop.Stop.{Stop}
use Rattle.gcd_commands.specs.declared.stop.Stop.TheVariants.{Unread as CantRead, Script, Journal, NoIntake}
use Rattle.gcd_run.specs.declared.ended.Ended.{Ended}

-- ## What a content gives

-- what stands under a name, within its limit
-- (`line` is the line of the script that names it, or 0)
abbrev pub within_limit : (line : ℕ) → (longer : Stop) → (most : ℕ) → Option Bytes → Result Bytes Stop
within_limit line longer most None = Err (CantRead line)
within_limit line longer most (Some bytes) = if nat_lt most (length bytes) then Err longer else Ok bytes

-- the files, in order, up to the first that can't be loaded
abbrev pub files_at : (content : Bytes → Option Bytes) → List FileView → Result (List Bytes) Stop
files_at content [] = Ok []
files_at content (file ∷ files) =
    elim (within_limit file.line (long_file file.line) max_file_bytes (content file.path)) [
      | Ok bytes ↦ elim (files_at content files) [ Ok contents ↦ Ok (bytes ∷ contents) | Err stop ↦ Err stop ]
      | Err stop ↦ Err stop
    ]

-- why the script of this name declares no plan
pub data IsNoScript (content : Bytes → Option Bytes) (name : Bytes) (stop : Stop) : Type 0 where
  unloaded : within_limit 0 long_script max_script_bytes (content name) ≡ Err stop → IsNoScript content name stop
  refused : (bytes : Bytes) (line : ℕ) (cause : Cause)
      → within_limit 0 long_script max_script_bytes (content name) ≡ Ok bytes
      → fault_of bytes ≡ Some (line, cause_code cause) → stop ≡ Script line cause → IsNoScript content name stop

-- the script of this name declares the plan
pub record HoldsScript (content : Bytes → Option Bytes) (name : Bytes) (plan : PlanView) : Type 0 where
  pub bytes : Bytes
  pub held : within_limit 0 long_script max_script_bytes (content name) ≡ Ok bytes
  pub declares : IsScriptOf bytes plan

-- why `run` has to stop: at the script, or at a file
pub data MustStop (content : Bytes → Option Bytes) (name : Bytes) (stop : Stop) : Type 0 where
  at_script : IsNoScript content name stop → MustStop content name stop
  at_file : (plan : PlanView) → HoldsScript content name plan → files_at content plan.files ≡ Err stop → MustStop content name stop

-- why `front` has to stop: at the script, where that has no intake, or at a file
pub data MustStopFront (content : Bytes → Option Bytes) (name : Bytes) (stop : Stop) : Type 0 where
  at_script : IsNoScript content name stop → MustStopFront content name stop
  at_intake : (plan : PlanView) → HoldsScript content name plan → plan.intake ≡ None → stop ≡ NoIntake → MustStopFront content name stop
  at_file : (plan : PlanView) (intake : IntakeView) → HoldsScript content name plan → plan.intake ≡ Some intake
      → files_at content plan.files ≡ Err stop → MustStopFront content name stop

-- ## What a journal gives

-- this text stands under the name, within the limit of journals
abbrev pub HoldsText : (content : Bytes → Option Bytes) → (name text : Bytes) → Type 0
HoldsText content name text = within_limit 0 long_journal max_file_bytes (content name) ≡ Ok text

-- why there is no journal of the plan under this name: it can't be loaded, where line 0 is the journal as a whole; or a line of
-- it is at fault, whatever cause the stop names, since the end that is told has no cause
pub data IsNoJournal (content : Bytes → Option Bytes) (name : Bytes) (plan : PlanView) (stop : Stop) : Type 0 where
  unloaded : within_limit 0 long_journal max_file_bytes (content name) ≡ Err stop → IsNoJournal content name plan stop
  refused : (text : Bytes) (line : ℕ) (cause : JournalCause) → HoldsText content name text → IsRefusedAt max_events plan text line
      → stop ≡ Journal line cause → IsNoJournal content name plan stop

-- the journal of this name is one of these events
pub record HoldsJournal (content : Bytes → Option Bytes) (name : Bytes) (plan : PlanView) (h : List Event) : Type 0 where
  pub text : Bytes
  pub held : HoldsText content name text
  pub journal_is : IsJournal max_events plan text h

-- why `check` has to stop: at the script, or at the journal
pub data MustRefuse (content : Bytes → Option Bytes) (script journal : Bytes) (stop : Stop) : Type 0 where
  at_script : IsNoScript content script stop → MustRefuse content script journal stop
  at_journal : (plan : PlanView) → HoldsScript content script plan → IsNoJournal content journal plan stop
      → MustRefuse content script journal stop

-- a check is asked for, of a script that declares the plan and of a journal of these events
pub record ChecksEvents (content : Bytes → Option Bytes) (words : List Bytes) (plan : PlanView) (h : List Event) : Type 0 where
  pub script : Bytes
  pub journal : Bytes
  pub asks : Asks words (check script journal)
  pub declares : HoldsScript content script plan
  pub holds : HoldsJournal content journal plan h

-- a check is asked for, of a script that declares the plan and of a text that stands under the journal's name
pub record ChecksText (content : Bytes → Option Bytes) (words : List Bytes) : Type 0 where
  pub script : Bytes
  pub journal : Bytes
  pub plan : PlanView
  pub text : Bytes
  pub asks : Asks words (check script journal)
  pub declares : HoldsScript content script plan
  pub holds : HoldsText content journal text

-- ## What the call answers

-- the call told this: it was written whole, or the sink failed in the call; or memory ran out
abbrev pub Gives : Seen SinkState → Ended → End → Type 0
Gives sink result end = IsWritten sink end result ⊎ HasStatus result NoMemory

-- the same, unless the shelf failed: then nothing could be read
abbrev pub Answers : OutsideSeen → Ended → End → Type 0
Answers outside result end = Gives outside.sink result end ⊎ (ShelfFailed outside.inputs.shelf × Gives outside.sink result read_fault)

-- nothing failed in the call
pub record NothingFailed (outside : OutsideSeen) : Type 0 where
  pub shelf_works : ¬ ShelfFailed outside.inputs.shelf
  pub poller_works : ¬ PollerFailed outside.inputs.poller
  pub sink_works : ¬ SinkFailed outside.sink

-- What has to come. Where the words name no command, the usage line. Where the shelf tells: where a run or a check has to stop, what is
-- told of that stop, and so of `front`, which has to stop also where the script has no intake; where a check is asked for of lawful events,
-- that they are lawful, with their state, and else the first event that is not permitted. Where moreover nothing fails, a check of a text
-- of any kind ends with Drained or JournalRefused. And where a script and its files are told, or the large script is asked for, and nothing
-- fails, the run comes to its end and the status is that of its state, which is not halted; that of `front` too, where the script has an
-- intake.
pub record Always (outside : OutsideSeen) (words : List Bytes) (result : Ended) : Type 0 where
  pub usage : request_of words ≡ None → Gives outside.sink result usage_end
  pub run_stops : ShelfTells outside → (asked : RunAsked) (stop : Stop) (end : End) → Asks words (run asked)
      → MustStop (shelf_content outside) asked.script stop → stop_end stop ≡ Some end → Answers outside result end
  pub front_stops : ShelfTells outside → (script : Bytes) (senders : ℕ) (stop : Stop) (end : End) → Asks words (front script senders)
      → MustStopFront (shelf_content outside) script stop → stop_end stop ≡ Some end → Answers outside result end
  pub check_stops : ShelfTells outside → (script journal : Bytes) (stop : Stop) (end : End) → Asks words (check script journal)
      → MustRefuse (shelf_content outside) script journal stop → stop_end stop ≡ Some end → Answers outside result end
  pub check_passes : ShelfTells outside → (plan : PlanView) (h : List Event) (state : State)
      → ChecksEvents (shelf_content outside) words plan h → IsLawfulTo state plan h → Answers outside result (lawful_end h state)
  pub check_bars : ShelfTells outside → (plan : PlanView) (h : List Event) (index : ℕ)
      → ChecksEvents (shelf_content outside) words plan h → IsFirstBarred plan h index → Answers outside result (unlawful_end h index)
  pub check_ends : ShelfTells outside → NothingFailed outside → ChecksText (shelf_content outside) words
      → HasStatus result NoMemory ⊎ (HasStatus result Drained ⊎ HasStatus result JournalRefused)
  pub run_ends : ShelfTells outside → NothingFailed outside → (asked : RunAsked) (plan : PlanView) (contents : List Bytes)
      → Asks words (run asked) → HoldsScript (shelf_content outside) asked.script plan → files_at (shelf_content outside) plan.files ≡ Ok contents
      → HasStatus result NoMemory ⊎ ((state : State) × Runs outside words result state × HasStatus result (status_of state) × (state ≢ Halted))
  pub large_ends : NothingFailed outside → (count workers : ℕ) → Asks words (big count workers)
      → HasStatus result NoMemory ⊎ ((state : State) × Runs outside words result state × HasStatus result (status_of state) × (state ≢ Halted))
  pub front_ends : ShelfTells outside → NothingFailed outside → (script : Bytes) (senders : ℕ) (plan : PlanView) (intake : IntakeView)
      (contents : List Bytes) → Asks words (front script senders) → HoldsScript (shelf_content outside) script plan
      → plan.intake ≡ Some intake → files_at (shelf_content outside) plan.files ≡ Ok contents
      → HasStatus result NoMemory ⊎ ((state : State) × Runs outside words result state × HasStatus result (status_of state) × (state ≢ Halted))
