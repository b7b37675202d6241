-- What `check` does.
use Rattle.std.specs.Prelude.{◌≡◌, ◌⊎◌, ℕ, List, Some}
use Rattle.gcd_plan.specs.Limits.{max_events, max_file_bytes}
use Rattle.gcd_plan.specs.PlanView.{PlanView}
use Rattle.gcd_event.specs.declared.event.Event.{Event}
use Rattle.gcd_history.specs.Ends.{HasState}
use Rattle.gcd_history.specs.History.{IsLawful}
use Rattle.gcd_history.specs.declared.state.State.{State}
use Rattle.gcd_journal.specs.Causes.{IsCausedBy}
use Rattle.gcd_journal.specs.Journals.{IsJournal}
use Rattle.gcd_journal.specs.Judged.{IsFirstBarred}
use Rattle.gcd_journal.specs.declared.cause.JournalCause.{JournalCause}
use Rattle.gcd_journal.specs.declared.cause.JournalCause.TheVariants.{TooLong}
use Rattle.gcd_outer.specs.Outside.{Bytes, Seen, ShelfState}
use Rattle.gcd_commands.specs.End.{End, lawful_end, stop_end, unlawful_end}
use Rattle.gcd_commands.specs.Loads.{IsLoaded, IsPlanOf, StopsLoad, StopsScript}
use Rattle.gcd_commands.specs.declared.stop.Stop.{Stop}
use Rattle.gcd_commands.specs.declared.stop.Stop.TheVariants.{Journal, Memory}

-- what stands under the name was loaded, and is a journal of these events
pub record IsJournalAt (shelf : Seen ShelfState) (name : Bytes) (plan : PlanView) (h : List Event) : Type 0 where
  pub text : Bytes
  pub loaded : IsLoaded shelf name max_file_bytes text
  pub journal_is : IsJournal max_events plan text h

-- what a journal is told for that is too long; line 0 is the journal as a whole
abbrev pub long_journal : Stop
long_journal = Journal 0 TooLong

-- why no journal was read: its text was not loaded; or it is none, and the stop has its first line at fault with the cause of that line
pub data StopsJournal (shelf : Seen ShelfState) (name : Bytes) (plan : PlanView) (stop : Stop) : Type 0 where
  unloaded : StopsLoad shelf name max_file_bytes 0 long_journal stop → StopsJournal shelf name plan stop
  refused : (text : Bytes) (line : ℕ) (cause : JournalCause) → IsLoaded shelf name max_file_bytes text
      → IsCausedBy max_events plan text line cause → stop ≡ Journal line cause → StopsJournal shelf name plan stop
  wanting : stop ≡ Memory → StopsJournal shelf name plan stop

-- what is told of events: they are lawful, or one of them is the first that is not permitted
pub data IsJudged (plan : PlanView) (h : List Event) (end : End) : Type 0 where
  unlawful : (index : ℕ) → IsFirstBarred plan h index → end ≡ unlawful_end h index → IsJudged plan h end
  lawful : (state : State) → IsLawful plan h → HasState plan h state → end ≡ lawful_end h state → IsJudged plan h end

-- why `check` stops, after so many loads: at the script, at its journal, or where memory ran out after that
pub data StopsCheck (shelf : Seen ShelfState) (script journal : Bytes) (n : ℕ) (stop : Stop) : Type 0 where
  at_script : StopsScript shelf script stop → n ≡ 1 → StopsCheck shelf script journal n stop
  at_journal : (plan : PlanView) → IsPlanOf shelf script plan → StopsJournal shelf journal plan stop → n ≡ 2
      → StopsCheck shelf script journal n stop

-- what `check` tells after so many loads: why it stopped; or the journal was read, and its events were judged
pub data CheckEnds (shelf : Seen ShelfState) (script journal : Bytes) (n : ℕ) (end : End) : Type 0 where
  stopped : (stop : Stop) → StopsCheck shelf script journal n stop → stop_end stop ≡ Some end → CheckEnds shelf script journal n end
  judged : (plan : PlanView) (h : List Event) → IsPlanOf shelf script plan → IsJournalAt shelf journal plan h → IsJudged plan h end
      → n ≡ 2 → CheckEnds shelf script journal n end

-- how many loads `check` makes up to some step: one of the script, and one of the journal
abbrev pub IsCheckCount : ℕ → Type 0
IsCheckCount n = (n ≡ 1) ⊎ (n ≡ 2)
