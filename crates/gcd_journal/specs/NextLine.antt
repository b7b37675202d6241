-- What stands next in a text, after the lines of some events: what the functions inside this crate say of one another.
use Rattle.std.specs.Prelude.{◌≡◌, ℕ, ◌<◌, ◌≤◌, List, ◌∷◌, ◌++◌, Some}
use Rattle.gcd_event.specs.declared.event.Event.{Event}
use Rattle.gcd_history.specs.JournalText.{count_line}
use Rattle.gcd_text.specs.Fields.{IsWithout, fields_of}
use Rattle.gcd_journal.specs.declared.cause.JournalCause.{JournalCause}
use Rattle.gcd_journal.specs.declared.cause.JournalCause.TheVariants.{NoEnd, TooMany}
use Rattle.gcd_journal.specs.declared.reader.Line.{Line}
use Rattle.gcd_journal.specs.declared.reader.Line.TheVariants.{Spoken, Count, Fault}
use Rattle.gcd_journal.specs.Forms.{fault_in}
use Rattle.gcd_journal.specs.Journals.{BeginsWith}
use Rattle.gcd_journal.specs.Spelling.{Look, event_in}

-- the text's first line spells the event, and the rest follows it
pub record LineSpells (look : Look) (text rest : List ℕ) (e : Event) : Type 0 where
  pub line : List ℕ
  pub cut : text ≡ line ++ 10 ∷ rest
  pub alone : IsWithout 10 line
  pub spells : event_in look (fields_of line) ≡ Some e

-- why the text's first line is a fault: it has no end, it spells an event too many, or this is wrong with it
pub data IsReason (look : Look) (text : List ℕ) (cause : JournalCause) : Type 0 where
  endless : IsWithout 10 text → cause ≡ NoEnd → IsReason look text cause
  full : (rest : List ℕ) (e : Event) → LineSpells look text rest e → cause ≡ TooMany → IsReason look text cause
  odd : (line rest : List ℕ) → text ≡ line ++ 10 ∷ rest → IsWithout 10 line → fault_in look (fields_of line) ≡ Some cause → IsReason look text cause

-- the text's first line is neither an event's where a journal may have one more, nor `events N` with the count
pub record IsFault (most : ℕ) (look : Look) (text : List ℕ) (count : ℕ) (cause : JournalCause) : Type 0 where
  pub no_event : (rest : List ℕ) (e : Event) → LineSpells look text rest e → most ≤ count
  pub no_count : ¬ BeginsWith text (count_line count)
  pub why : IsReason look text cause

-- what the reader says of the text's first line, after so many events
abbrev pub IsNext : (most : ℕ) → Look → List ℕ → ℕ → Line → Type 0
IsNext most look text count (Spoken e rest) = LineSpells look text rest.now e × (count < most)
IsNext most look text count Count = BeginsWith text (count_line count)
IsNext most look text count (Fault cause) = IsFault most look text count cause
