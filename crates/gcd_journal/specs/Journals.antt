-- Which texts are journals, and at which line any other text is refused.
use Rattle.std.specs.Prelude.{◌≡◌, ⊤, ℕ, ◌+◌, ◌≤◌, List, ◌++◌, length}
use Rattle.std.specs.List.{flat_map}
use Rattle.gcd_plan.specs.PlanView.{PlanView}
use Rattle.gcd_event.specs.declared.event.Event.{Event}
use Rattle.gcd_history.specs.JournalText.{event_line, count_line, journal_text}
use Rattle.gcd_journal.specs.declared.reader.JournalFault.{JournalFault}
use Rattle.gcd_journal.specs.declared.reader.JournalFault.TheVariants.{Refused, Memory}
use Rattle.gcd_journal.specs.Spoken.{IsSpoken, AreSpoken}

-- the text begins with these bytes
pub record BeginsWith (text front : List ℕ) : Type 0 where
  pub rest : List ℕ
  pub whole : text ≡ front ++ rest

-- the text is a journal of the events, of which it has at most so many, whatever follows its line `events N`
pub record IsJournal (most : ℕ) (plan : PlanView) (text : List ℕ) (h : List Event) : Type 0 where
  pub begins : BeginsWith text (journal_text plan h)
  pub spoken : AreSpoken plan h
  pub few : length h ≤ most

-- the first line of the text that is at fault: before it stand lines of events alone, and it is neither one event's line more,
-- of which a journal has at most so many, nor the line `events N` with their number
pub record IsRefusedAt (most : ℕ) (plan : PlanView) (text : List ℕ) (line : ℕ) : Type 0 where
  pub events : List Event
  pub rest : List ℕ
  pub front : text ≡ flat_map (event_line plan) events ++ rest
  pub spoken : AreSpoken plan events
  pub few : length events ≤ most
  pub line_is : line ≡ length events + 1
  pub no_event : (e : Event) → IsSpoken plan e → BeginsWith rest (event_line plan e) → length events ≡ most
  pub no_count : ¬ BeginsWith rest (count_line (length events))

-- what the reader's fault says of the text
abbrev pub IsRefusal : (most : ℕ) → PlanView → List ℕ → JournalFault → Type 0
IsRefusal most plan text (Refused line cause) = IsRefusedAt most plan text line
IsRefusal most plan text Memory = ⊤

-- the fault's line is at most one past the text's bytes: each line before it has a byte of its own
abbrev pub IsNear : List ℕ → JournalFault → Type 0
IsNear text (Refused line cause) = line ≤ length text + 1
IsNear text Memory = ⊤
