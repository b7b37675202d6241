-- Why a line of a text is refused.
use Rattle.std.specs.Prelude.{◌≡◌, ⊤, ℕ, List, ◌∷◌, ◌++◌, Some}
use Rattle.gcd_plan.specs.PlanView.{PlanView}
use Rattle.gcd_event.specs.declared.event.Event.{Event}
use Rattle.gcd_history.specs.JournalText.{event_line}
use Rattle.gcd_text.specs.Fields.{IsWithout, fields_of}
use Rattle.gcd_journal.specs.declared.cause.JournalCause.{JournalCause}
use Rattle.gcd_journal.specs.declared.cause.JournalCause.TheVariants.{NoEnd, TooMany}
use Rattle.gcd_journal.specs.declared.reader.JournalFault.{JournalFault}
use Rattle.gcd_journal.specs.declared.reader.JournalFault.TheVariants.{Refused, Memory}
use Rattle.gcd_journal.specs.Forms.{fault_in}
use Rattle.gcd_journal.specs.Journals.{BeginsWith, IsRefusedAt}
use Rattle.gcd_journal.specs.Named.{IsLookUp}
use Rattle.gcd_journal.specs.Spelling.{Look}
use Rattle.gcd_journal.specs.Spoken.{IsSpoken}

-- why what stands next in a text is refused: its line has no end; it is an event's line, which is one too many; or it is a line
-- with this fault, where names are those of the plan's blocks and sources
pub data IsCauseAt (plan : PlanView) (rest : List ℕ) (cause : JournalCause) : Type 0 where
  endless : IsWithout 10 rest → cause ≡ NoEnd → IsCauseAt plan rest cause
  full : (e : Event) → IsSpoken plan e → BeginsWith rest (event_line plan e) → cause ≡ TooMany → IsCauseAt plan rest cause
  odd : (line more : List ℕ) (look : Look) → rest ≡ line ++ 10 ∷ more → IsWithout 10 line → IsLookUp plan look
      → fault_in look (fields_of line) ≡ Some cause → IsCauseAt plan rest cause

-- the line is the first at fault, for this cause
pub record IsCausedBy (most : ℕ) (plan : PlanView) (text : List ℕ) (line : ℕ) (cause : JournalCause) : Type 0 where
  pub refused : IsRefusedAt most plan text line
  pub why : IsCauseAt plan refused.rest cause

-- the cause in the reader's fault is that of its line
abbrev pub IsCaused : (most : ℕ) → PlanView → List ℕ → JournalFault → Type 0
IsCaused most plan text (Refused line cause) = IsCausedBy most plan text line cause
IsCaused most plan text Memory = ⊤
