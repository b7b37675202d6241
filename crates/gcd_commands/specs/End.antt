-- How a call ends, before anything is written: its status, journal, place and text.
use Rattle.std.specs.Prelude.{ℕ, ◌*◌, ◌+◌, ◌%◌, Bool, if◌then◌else◌, List, [], ◌++◌, length, map, sum, Option, None, Some, codes}
use Rattle.std.specs.List.{range_with_len}
use Rattle.std.specs.Fmt.{decimal}
use Rattle.gcd_plan.specs.PlanView.{PlanView}
use Rattle.gcd_event.specs.declared.event.Event.{Event}
use Rattle.gcd_history.specs.JournalText.{journal_text}
use Rattle.gcd_history.specs.Report.{last_line, line_end, report_text}
use Rattle.gcd_history.specs.Values.{value_of}
use Rattle.gcd_history.specs.declared.state.State.{State}
use Rattle.gcd_history.specs.declared.state.State.TheVariants.{Drained as RunDrained, Stuck as RunStuck, Misused as RunMisused, Halted as RunHalted, Live as RunLive}
use Rattle.gcd_jobs.specs.BlockValues.{has_given}
use Rattle.gcd_outer.specs.Outside.{Bytes}
use Rattle.gcd_script.specs.Causes.{cause_code}
use Rattle.gcd_commands.specs.StatusCodes.{status_of}
use Rattle.gcd_commands.specs.declared.status.Status.{Status}
use Rattle.gcd_commands.specs.declared.status.Status.TheVariants.{Drained, NoCommand, ScriptRefused, Unread, JournalRefused, NoIntake}
use Rattle.gcd_commands.specs.declared.stop.Stop.{Stop}
use Rattle.gcd_commands.specs.declared.stop.Stop.TheVariants.{Unread as CantRead, Script, Journal, NoIntake as LacksIntake, Memory}

pub record End : Type 0 where
  pub status : Status
  pub journal : List Event
  pub at : Option (ℕ × ℕ)
  pub text : Bytes

-- ## Nothing ran

-- an end with no run
abbrev pub plain_end : Status → Bytes → End
plain_end status text = record { status = status; journal = []; at = None; text = text }

-- the words name no command
abbrev pub usage_text : Bytes
usage_text =
    codes "usage: gcd run SCRIPT [--workers N] [--journal] [--most N] [--listen ADDR] | gcd check SCRIPT JOURNAL | gcd big N [--workers W] | gcd front SCRIPT SENDERS\n"

abbrev pub usage_end : End
usage_end = plain_end NoCommand usage_text

-- the script, the journal or a file of the script can't be read, or the address can't be listened at
abbrev pub read_fault : End
read_fault = plain_end Unread (codes "read fault\n")

-- the script is refused at this line with this code
abbrev pub refused_text : (line code : ℕ) → Bytes
refused_text line code = codes "script refused: line " ++ (decimal line ++ (codes " code " ++ (decimal code ++ line_end)))

abbrev pub refused_end : (line code : ℕ) → End
refused_end line code = record { status = ScriptRefused; journal = []; at = Some (line, code); text = refused_text line code }

-- the journal is refused at this line
abbrev pub no_journal_text : (line : ℕ) → Bytes
no_journal_text line = codes "journal refused: line " ++ (decimal line ++ line_end)

abbrev pub no_journal_end : (line : ℕ) → End
no_journal_end line = record { status = JournalRefused; journal = []; at = Some (line, 1); text = no_journal_text line }

-- the script has no intake
abbrev pub no_intake_end : End
no_intake_end = plain_end NoIntake (codes "no intake\n")

-- how a call ends that stops for this cause; None where memory ran out, for then nothing is told
abbrev pub stop_end : Stop → Option End
stop_end (CantRead line) = Some read_fault
stop_end (Script line cause) = Some (refused_end line (cause_code cause))
stop_end (Journal line cause) = Some (no_journal_end line)
stop_end LacksIntake = Some no_intake_end
stop_end Memory = None

-- ## A run

-- what is told of a run of a script: its journal, where it was asked for, and its report
abbrev pub run_text : (with_journal : Bool) → PlanView → (contents : List Bytes) → State → List Event → Bytes
run_text with_journal plan contents state h =
    (if with_journal then journal_text plan h else []) ++ report_text plan contents state h

-- a run that has come so far, with what is told of it
abbrev pub ran_end : State → List Event → Bytes → End
ran_end state h text = record { status = status_of state; journal = h; at = None; text = text }

-- ## The large script

-- the file of the large script: 4,096 bytes, byte i being 7 i + 3 without its multiples of 256
unfoldable pub large_file : Bytes
large_file = map (λ i. (7 * i + 3) % 256) (range_with_len 0 4096)

-- the values of the blocks that have ended and are not cancelled, added up
unfoldable pub total_of : PlanView → (contents : List Bytes) → List Event → ℕ
total_of plan contents h = sum (map (λ b. if has_given plan h b then value_of plan contents b else 0) (range_with_len 0 (length plan.blocks)))

-- `blocks N` and `total S`, and then the report's last line
abbrev pub large_text : (count : ℕ) → PlanView → (contents : List Bytes) → State → List Event → Bytes
large_text count plan contents state h =
    codes "blocks " ++ (decimal count ++ (line_end
    ++ (codes "total " ++ (decimal (total_of plan contents h) ++ (line_end ++ last_line plan state h)))))

-- ## A journal that was judged

abbrev pub state_word : State → Bytes
state_word RunDrained = codes "drained"
state_word RunStuck = codes "stuck"
state_word RunMisused = codes "misuse"
state_word RunHalted = codes "halted"
state_word RunLive = codes "open"

-- the events are lawful, and have come to this state
abbrev pub lawful_text : (count : ℕ) → State → Bytes
lawful_text count state = codes "lawful " ++ (decimal count ++ (codes " " ++ (state_word state ++ line_end)))

abbrev pub lawful_end : List Event → State → End
lawful_end h state = record { status = Drained; journal = h; at = None; text = lawful_text (length h) state }

-- the event at this index is the first that is not permitted
abbrev pub unlawful_text : (index : ℕ) → Bytes
unlawful_text index = codes "journal refused: event " ++ (decimal index ++ line_end)

abbrev pub unlawful_end : List Event → (index : ℕ) → End
unlawful_end h index = record { status = JournalRefused; journal = h; at = Some (index, 2); text = unlawful_text index }
