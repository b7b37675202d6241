-- Numbered texts: their count, their bytes, and one more at the end.
use Rattle.std.proofs.Common.{◌≡◌, ◌+◌, ◌≤◌, ◌++◌, ℕ, List, [], ◌∷◌, ap, sym, refl, ◌∙◌, length, drop, arith}
use Rattle.std.proofs.lemmas.List.{take-append-le, drop-append-le, length-drop, length-take-le, nil_from_length}
use Rattle.std.proofs.Math.Seq.{take-length}
use Rattle.gcd_outer.specs.declared.text_log.Note.{Note}
use Rattle.gcd_outer.specs.Texts.{texts_of, lengths_of, bytes_of, TextsView}

pub length-texts_of : (ns : List Note) (bs : List ℕ) → length (texts_of ns bs) ≡ length ns
length-texts_of [] bs = refl
length-texts_of (n ∷ ns) bs = omega (arith, length-texts_of ns (drop n.len bs))

pub bytes_of-texts_of : (ns : List Note) (bs : List ℕ) → lengths_of ns ≡ length bs → bytes_of (texts_of ns bs) ≡ length bs
bytes_of-texts_of [] bs whole = whole
bytes_of-texts_of (n ∷ ns) bs whole =
    let rest : lengths_of ns ≡ length (drop n.len bs) = omega (arith, length-drop n.len bs, whole) in
    omega (arith, bytes_of-texts_of ns (drop n.len bs) rest, length-drop n.len bs, length-take-le n.len bs (omega arith))

pub lengths_of-append : (ns : List Note) (n : Note) → lengths_of (ns ++ n ∷ []) ≡ lengths_of ns + n.len
lengths_of-append [] n = omega arith
lengths_of-append (m ∷ ns) n = omega (arith, lengths_of-append ns n)

pub texts_of-append : (ns : List Note) (bs : List ℕ) (n : Note) (text : List ℕ) → lengths_of ns ≡ length bs → n.len ≡ length text
    → texts_of (ns ++ n ∷ []) (bs ++ text) ≡ texts_of ns bs ++ (n.number, text) ∷ []
texts_of-append [] bs n text whole same =
    rw (nil_from_length bs (sym whole), same, take-length text)
texts_of-append (m ∷ ns) bs n text whole same =
    let fits : m.len ≤ length bs = omega arith in
    let rest : lengths_of ns ≡ length (drop m.len bs) = omega (arith, length-drop m.len bs) in
    rw (take-append-le m.len bs text fits, drop-append-le m.len bs text fits, texts_of-append ns (drop m.len bs) n text rest same)

-- one text more has its bytes more
pub bytes_of-append : (ts : List (ℕ × List ℕ)) (number : ℕ) (text : List ℕ) → bytes_of (ts ++ (number, text) ∷ []) ≡ bytes_of ts + length text
bytes_of-append [] number text = omega arith
bytes_of-append (t ∷ ts) number text = omega (arith, bytes_of-append ts number text)

-- the log that was pushed to has its bytes and those of the text
pub bytes_pushed : (old new : TextsView) (number : ℕ) (text : List ℕ) → new ≡ record old { texts = old.texts ++ (number, text) ∷ [] }
    → bytes_of new.texts ≡ bytes_of old.texts + length text
bytes_pushed old new number text is = ap (λ log. bytes_of log.texts) is ∙ bytes_of-append old.texts number text

-- a log with one text more
pub log_goes_on : (ns : List Note) (bs : List ℕ) (n : Note) (text : List ℕ) (text_room byte_room : ℕ) → lengths_of ns ≡ length bs → n.len ≡ length text
    → ◌≡◌ {A = TextsView} (record { texts = texts_of (ns ++ n ∷ []) (bs ++ text); text_room = text_room; byte_room = byte_room })
    (record { texts = texts_of ns bs ++ (n.number, text) ∷ []; text_room = text_room; byte_room = byte_room })
log_goes_on ns bs n text text_room byte_room whole same =
    ap (λ texts. record { texts = texts; text_room = text_room; byte_room = byte_room }) (texts_of-append ns bs n text whole same)
