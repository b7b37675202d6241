-- The word of an event that fits spells that event.
use Rattle.std.proofs.Common.{◌≡◌, ℕ, ap, sym, subst, ◌∙◌, arith}
use Rattle.gcd_event.specs.declared.event.Event.{Event}
use Rattle.gcd_event.specs.Fits.{IsFitting}
use Rattle.gcd_event.specs.Words.{word_of}
use Rattle.gcd_event.proofs.WordLemmas.{event_from_parts, word_bounds}
use Rattle.gcd_event.specs.Entries.{HasWord, IsSpelling, or_halt, spelled}

-- a word of an event that fits spells it
pub spelled_word : (e : Event) (w : ℕ) → IsFitting e → word_of e ≡ w → spelled w ≡ e
unfolding spelled
spelled_word e w fits is =
    let bounds = word_bounds e fits in
    ap or_halt (event_from_parts e w (omega arith) fits is)

-- so the word is the one of what it spells
pub spelling : (e : Event) (w : ℕ) → IsFitting e → word_of e ≡ w → IsSpelling w
spelling e w fits is =
    let same = spelled_word e w fits is in
    record { fits = subst IsFitting (sym same) fits; word = ap word_of same ∙ is }

pub spelling_of : (w : ℕ) → HasWord w → IsSpelling w
spelling_of w has = spelling has.event w has.fits has.word
