-- Which fields an event's line has, and what is wrong with a line that spells no event.
use Rattle.std.specs.Prelude.{ℕ, ◌+◌, ◌==◌, Bool, if◌then◌else◌, List, [], ◌∷◌, Option, Some, None, length, codes}
use Rattle.std.specs.Option.{is_some}
use Rattle.std.specs.Str.{bytes_eq}
use Rattle.gcd_journal.specs.declared.cause.Field.{Field}
use Rattle.gcd_journal.specs.declared.cause.Field.TheVariants.{Worker, Block, OtherBlock, Source, Run, Index, Sender, Time, Bytes, Code}
use Rattle.gcd_journal.specs.declared.cause.JournalCause.{JournalCause}
use Rattle.gcd_journal.specs.declared.cause.JournalCause.TheVariants.{NoForm, Misfit}
use Rattle.gcd_journal.specs.Spelling.{Look, worker_in, index_in, sender_in, time_in, bytes_in, code_in, block_in, other_block_in, source_in}

-- the fields that follow the first word of an event's line; None: no event's line begins with this word
unfoldable pub form_of : List ℕ → Option (List Field)
form_of word =
    if bytes_eq word (codes "halt") then Some [] else
    if bytes_eq word (codes "shut") then Some [] else
    if bytes_eq word (codes "tick") then Some (Time ∷ []) else
    if bytes_eq word (codes "feed_end") then Some (Source ∷ []) else
    if bytes_eq word (codes "expire") then Some (Block ∷ []) else
    if bytes_eq word (codes "ready") then Some (Source ∷ Bytes ∷ []) else
    if bytes_eq word (codes "accept") then Some (OtherBlock ∷ Sender ∷ []) else
    if bytes_eq word (codes "start") then Some (Worker ∷ Block ∷ []) else
    if bytes_eq word (codes "end") then Some (Worker ∷ Block ∷ []) else
    if bytes_eq word (codes "wake") then Some (Worker ∷ Block ∷ []) else
    if bytes_eq word (codes "deliver") then Some (Worker ∷ Source ∷ []) else
    if bytes_eq word (codes "deliver_end") then Some (Worker ∷ Source ∷ []) else
    if bytes_eq word (codes "act") then Some (Worker ∷ Run ∷ Index ∷ []) else
    if bytes_eq word (codes "misuse") then Some (Worker ∷ Run ∷ Index ∷ Code ∷ []) else None

-- the text is such a field; `look` gives the run of a name
abbrev pub fits : Look → Field → List ℕ → Bool
fits look Worker text = is_some (worker_in text)
fits look Block text = is_some (block_in look text)
fits look OtherBlock text = is_some (other_block_in look text)
fits look Source text = is_some (source_in look text)
fits look Run text = is_some (look text)
fits look Index text = is_some (index_in text)
fits look Sender text = is_some (sender_in text)
fits look Time text = is_some (time_in text)
fits look Bytes text = is_some (bytes_in text)
fits look Code text = is_some (code_in text)

-- the first of the texts that is not the field of its place, where the first text has this place in its line
abbrev pub misfit_from : Look → (place : ℕ) → List Field → List (List ℕ) → Option JournalCause
misfit_from look place (field ∷ form) (text ∷ texts) =
    if fits look field text then misfit_from look (place + 1) form texts else Some (Misfit place field)
misfit_from look place [] texts = None
misfit_from look place (field ∷ form) [] = None

-- what is wrong with the texts that follow the first word of a line, if this is the form of that word
abbrev pub fault_by : Look → Option (List Field) → List (List ℕ) → Option JournalCause
fault_by look None texts = Some NoForm
fault_by look (Some form) texts = if length form == length texts then misfit_from look 2 form texts else Some NoForm

-- what is wrong with a line of these fields; None: nothing, it spells an event
unfoldable pub fault_in : Look → List (List ℕ) → Option JournalCause
fault_in look [] = Some NoForm
fault_in look (word ∷ texts) = fault_by look (form_of word) texts
