-- What the first line of a text is.
use Rattle.std.proofs.Common.{◌≡◌, ◌≢◌, ℕ, zero, suc, ◌+◌, ◌^◌, ◌<◌, ◌≤◌, ◌==◌, not, true, List, [], ◌∷◌, ◌++◌, length, Some, None, refl, ap, sym, ◌∙◌, subst, arith, codes, append_assoc}
use Rattle.std.specs.List.{join_with_byte, flat_map}
use Rattle.std.specs.Fmt.{decimal}
use Rattle.std.proofs.lemmas.Bool.{and_parts, not-true, eqb-false}
use Rattle.std.proofs.lemmas.List.Splits.{join_with_byte-slice_split}
use Rattle.std.proofs.lemmas.List.{append-nil, length-append}
use Rattle.std.proofs.lemmas.Grind.{flat_map-append}
use Rattle.gcd_plan.specs.PlanView.{PlanView}
use Rattle.gcd_plan.specs.Validity.{IsPlan}
use Rattle.gcd_event.specs.declared.event.Event.{Event}
use Rattle.gcd_event.specs.Fits.{IsFitting}
use Rattle.gcd_history.specs.JournalText.{event_line, count_line, journal_text}
use Rattle.gcd_text.specs.Fields.{IsWithout, fields_of}
use Rattle.gcd_journal.specs.declared.cause.JournalCause.{JournalCause}
use Rattle.gcd_journal.specs.declared.cause.JournalCause.TheVariants.{NoEnd, TooMany}
use Rattle.gcd_journal.specs.Spoken.{IsSpoken, AreSpoken}
use Rattle.gcd_journal.specs.Journals.{BeginsWith, IsJournal, IsRefusedAt}
use Rattle.gcd_journal.specs.Causes.{IsCauseAt, IsCausedBy}
use Rattle.gcd_journal.specs.Forms.{fault_in}
use Rattle.gcd_journal.specs.Named.{IsLookUp}
use Rattle.gcd_journal.specs.NextLine.{LineSpells, IsReason, IsFault}
use Rattle.gcd_journal.specs.Spelling.{Look, event_in}
use Rattle.gcd_journal.proofs.Cuts.{is_line, without_line, no_line, cut_one_way, joined_line, fields_joined}
use Rattle.gcd_journal.proofs.Spelled.{text_of, spells}
use Rattle.gcd_journal.proofs.SpelledBack.{spelled_back}
use Rattle.gcd_journal.proofs.OneWay.{count_text, plain_count, text_line, read_text, line_and_rest}

-- the line `events N`, with what follows it
count_cut : (n : ℕ) (x : List ℕ) → count_line n ++ x ≡ count_text n ++ 10 ∷ x
count_cut n x = append_assoc (count_text n) (10 ∷ []) x

-- a line has no byte 10
pub alone : (text : List ℕ) → is_line text ≡ true → IsWithout 10 text
alone [] line i within = absurd (omega arith)
alone (c ∷ text) line zero within = eqb-false c 10 (not-true (c == 10) (and_parts (not (c == 10)) (is_line text) line).0)
alone (c ∷ text) line (suc i) within = alone text (and_parts (not (c == 10)) (is_line text) line).1 i (omega arith)

-- a text without an end of a line
pub endless : (most : ℕ) (look : Look) (text : List ℕ) (count : ℕ) → IsWithout 10 text → IsFault most look text count NoEnd
endless most look text count without = record {
  no_event = λ rest e spells. absurd (no_line text spells.line rest without spells.cut);
  no_count = λ begins. no_line text (count_text count) begins.rest without (begins.whole ∙ count_cut count begins.rest);
  why = IsReason.endless without refl;
}

module _ (most : ℕ) (look : Look) (line rest : List ℕ) (count : ℕ) (without : IsWithout 10 line) (few : count < 2 ^ 64) where
  own_line : is_line line ≡ true
  own_line = without_line line without

  -- the line `events N` spells no event
  count_apart : line ≡ count_text count → event_in look (fields_of line) ≡ None
  count_apart same = ap (λ l. event_in look (fields_of l)) same ∙ ap (event_in look) (fields_joined (codes "events") (decimal count ∷ []) (plain_count count few))

  count_line_is : BeginsWith (line ++ 10 ∷ rest) (count_line count) → line ≡ count_text count
  count_line_is begins =
      (cut_one_way line (count_text count) rest begins.rest own_line (joined_line (codes "events" ∷ decimal count ∷ []) (plain_count count few)) (begins.whole ∙ count_cut count begins.rest)).0

  pub spoken_line : (e : Event) → Some e ≡ event_in look (fields_of line) → LineSpells look (line ++ 10 ∷ rest) rest e
  spoken_line e at = record { line = line; cut = refl; alone = without; spells = sym at }

  pub one_too_many : (e : Event) → Some e ≡ event_in look (fields_of line) → most ≤ count → IsFault most look (line ++ 10 ∷ rest) count TooMany
  one_too_many e at full = record {
    no_event = λ r f spells. full;
    no_count = λ begins. let none = count_apart (count_line_is begins) in cc;
    why = IsReason.full rest e (spoken_line e at) refl;
  }

  pub counted_line : line ≡ codes "events " ++ decimal count → BeginsWith (line ++ 10 ∷ rest) (count_line count)
  counted_line same = record { rest = rest; whole = ap (λ l. l ++ 10 ∷ rest) same ∙ sym (count_cut count rest) }

  pub odd_line : (cause : JournalCause) → None ≡ event_in look (fields_of line) → fault_in look (fields_of line) ≡ Some cause → line ≢ codes "events " ++ decimal count
      → IsFault most look (line ++ 10 ∷ rest) count cause
  odd_line cause none wrong other = record {
    no_event = λ r f spells.
        let same = (cut_one_way line spells.line rest r own_line (without_line spells.line spells.alone) spells.cut).0 in
        let both : event_in look (fields_of line) ≡ Some f = ap (λ l. event_in look (fields_of l)) same ∙ spells.spells in
        let never : None ≡ Some f = none ∙ both in
        cc;
    no_count = λ begins. other (count_line_is begins);
    why = IsReason.odd line rest refl without wrong;
  }

-- ## The events of a text

-- a line that is read makes the rest shorter
pub line_length : (look : Look) (text more : List ℕ) (e : Event) → LineSpells look text more e → length more < length text
line_length look text more e line =
    let long = ap length line.cut in
    let joined = length-append line.line (10 ∷ more) in
    omega arith

-- what is read so far
pub record HasRead (most : ℕ) (plan : PlanView) (text : List ℕ) (h : List Event) (rest : List ℕ) : Type 0 where
  pub front : text ≡ flat_map (event_line plan) h ++ rest
  pub spoken : AreSpoken plan h
  pub few : length h ≤ most
  pub near : length h + length rest ≤ length text

spoken_push : (plan : PlanView) (h : List Event) (e : Event) → AreSpoken plan h → IsSpoken plan e → AreSpoken plan (h ++ e ∷ [])
spoken_push plan [] e all one zero f at = let same : e ≡ f = cc in subst (IsSpoken plan) same one
spoken_push plan [] e all one (suc i) f at = cc
spoken_push plan (d ∷ h) e all one zero f at = all zero f at
spoken_push plan (d ∷ h) e all one (suc i) f at = spoken_push plan h e (λ j g is. all (suc j) g is) one i f at

pub nothing_read : (most : ℕ) (plan : PlanView) (text : List ℕ) → HasRead most plan text [] text
nothing_read most plan text = record { front = refl; spoken = λ i e at. cc; few = omega arith; near = omega arith }

module _ (most : ℕ) (plan : PlanView) (look : Look) (valid : IsPlan plan) (knows : IsLookUp plan look) where
  -- a line that spells an event is the event's
  pub line_is_its : (line : List ℕ) (e : Event) → event_in look (fields_of line) ≡ Some e → IsSpoken plan e × (text_of plan e ≡ line)
  line_is_its line e at =
      let back = spelled_back plan look valid knows.sound (fields_of line) e at in
      (back.0, ap (join_with_byte 32) back.1 ∙ join_with_byte-slice_split 32 line)

  -- an event that a line spells fits
  pub spelled_fits : (rest more : List ℕ) (e : Event) → LineSpells look rest more e → IsFitting e
  spelled_fits rest more e line = (line_is_its line.line e line.spells).0.fits

  -- and its text begins with the event's line
  line_begins : (rest more : List ℕ) (e : Event) → LineSpells look rest more e → rest ≡ event_line plan e ++ more
  line_begins rest more e line =
      line.cut ∙ ap (λ l. l ++ 10 ∷ more) (sym (line_is_its line.line e line.spells).1) ∙ sym (line_and_rest plan valid e more)

  pub one_more_read : (text : List ℕ) (h : List Event) (rest more : List ℕ) (e : Event) → HasRead most plan text h rest → LineSpells look rest more e → length h < most
      → HasRead most plan text (h ++ e ∷ []) more
  one_more_read text h rest more e read line room =
      let its = line_is_its line.line e line.spells in
      let cut = line_begins rest more e line in
      let pushed : flat_map (event_line plan) (h ++ e ∷ []) ≡ flat_map (event_line plan) h ++ event_line plan e =
      flat_map-append (event_line plan) h (e ∷ []) ∙ ap (λ l. flat_map (event_line plan) h ++ l) (append-nil (event_line plan e)) in
      record {
        front = read.front ∙ ap (λ l. flat_map (event_line plan) h ++ l) cut ∙ sym (append_assoc (flat_map (event_line plan) h) (event_line plan e) more) ∙ ap (λ l. l ++ more) (sym pushed);
        spoken = spoken_push plan h e read.spoken its.0;
        few = let long = length-append h (e ∷ []) in omega arith;
        near =
            let near = read.near in
            let long = length-append h (e ∷ []) in
            let shorter = line_length look rest more e line in
            omega arith;
      }

  pub whole_journal : (text : List ℕ) (h : List Event) (rest : List ℕ) → HasRead most plan text h rest → BeginsWith rest (count_line (length h)) → IsJournal most plan text h
  unfolding journal_text
  whole_journal text h rest read begins = record {
    begins = record {
      rest = begins.rest;
      whole = read.front ∙ ap (λ l. flat_map (event_line plan) h ++ l) begins.whole ∙ sym (append_assoc (flat_map (event_line plan) h) (count_line (length h)) begins.rest);
    };
    spoken = read.spoken;
    few = read.few;
  }

  event_spelled : (e : Event) (text more : List ℕ) → IsSpoken plan e → text ≡ event_line plan e ++ more → LineSpells look text more e
  event_spelled e text more spoken whole = record {
    line = text_of plan e;
    cut = whole ∙ line_and_rest plan valid e more;
    alone = alone (text_of plan e) (text_line plan valid e spoken);
    spells = ap (event_in look) (read_text plan valid e spoken) ∙ spells plan look knows.known e spoken;
  }

  pub fault_is_refused : (text : List ℕ) (h : List Event) (rest : List ℕ) (line : ℕ) (cause : JournalCause) → HasRead most plan text h rest → IsFault most look rest (length h) cause
      → line ≡ length h + 1 → IsRefusedAt most plan text line
  fault_is_refused text h rest line cause read fault is = record {
    events = h;
    rest = rest;
    front = read.front;
    spoken = read.spoken;
    few = read.few;
    line_is = is;
    no_event = λ e spoken begins.
        let full = fault.no_event begins.rest e (event_spelled e rest begins.rest spoken begins.whole) in
        let few = read.few in
        omega arith;
    no_count = fault.no_count;
  }

  cause_at : (rest : List ℕ) (cause : JournalCause) → IsReason look rest cause → IsCauseAt plan rest cause
  cause_at rest cause (IsReason.endless without is) = IsCauseAt.endless without is
  cause_at rest cause (IsReason.full more e line is) =
      IsCauseAt.full e (line_is_its line.line e line.spells).0 (record { rest = more; whole = line_begins rest more e line }) is
  cause_at rest cause (IsReason.odd line more cut without wrong) = IsCauseAt.odd line more look cut without knows wrong

  pub fault_is_caused : (text : List ℕ) (h : List Event) (rest : List ℕ) (line : ℕ) (cause : JournalCause) → HasRead most plan text h rest → IsFault most look rest (length h) cause
      → line ≡ length h + 1 → IsCausedBy most plan text line cause
  unfolding fault_is_refused
  fault_is_caused text h rest line cause read fault is = record {
    refused = fault_is_refused text h rest line cause read fault is;
    why = cause_at rest cause fault.why;
  }
