-- The event that a word spells (this project's own rule).
use Rattle.std.specs.Prelude.{◌≡◌, ℕ, ◌/◌, ◌%◌, ◌^◌, Option, Some, None}
use Rattle.gcd_event.specs.declared.event.Event.{Event}
use Rattle.gcd_event.specs.declared.event.Event.TheVariants.{Halt}
use Rattle.gcd_event.specs.Fits.{IsFitting}
use Rattle.gcd_event.specs.Spelling.{event_at}
use Rattle.gcd_event.specs.Words.{word_of}

-- the event; Halt if there is none
abbrev pub or_halt : Option Event → Event
or_halt (Some e) = e
or_halt None = Halt

-- the event of the four fields of the word; Halt if they spell none
unfoldable pub spelled : ℕ → Event
spelled w = or_halt (event_at (w / 2 ^ 56) (w / 2 ^ 48 % 256) (w / 2 ^ 32 % 65536) (w % 2 ^ 32))

-- the word is that of the event which it spells, and the event fits
pub record IsSpelling (w : ℕ) : Type 0 where
  pub fits : IsFitting (spelled w)
  pub word : word_of (spelled w) ≡ w

-- an event that fits has this word
pub record HasWord (w : ℕ) : Type 0 where
  pub event : Event
  pub fits : IsFitting event
  pub word : word_of event ≡ w
