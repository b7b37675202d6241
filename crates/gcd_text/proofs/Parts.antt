-- How the words and the fields of a line come off its front.
use Rattle.std.proofs.Common.{ℕ, cond, ◌≡◌, ◌<◌, ◌+◌, ◌==◌, not, false, List, Bor, map, [], ◌∷◌, ◌++◌, length, take, drop, filter, get_or, position, Some, None, refl, sym, ap, ◌∙◌, arith}
use Rattle.std.specs.List.{All, slice_range}
use Rattle.std.proofs.lemmas.Bool.{false_from_ne_true, eqb-true, eqb-false}
use Rattle.std.proofs.lemmas.List.{take-append-drop, drop_more, get_or-take, length-take-le, length-append, length-map, map_push, append_assoc}
use Rattle.std.proofs.lemmas.List.Quantifiers.{position-Some}
use Rattle.std.proofs.lemmas.List.Sums.{fails_before_first}
use Rattle.std.proofs.lemmas.List.Elements.{All-from_get_or, filter-append}
use Rattle.std.proofs.lemmas.List.Splits.{slice_split_at, slice_split_none}
use Rattle.gcd_text.specs.Lines.{words_of, unless_empty}
use Rattle.gcd_text.proofs.FirstLines.{absent}
use Rattle.gcd_text.specs.Fields.{IsWithout, fields_of}

-- no byte passes the test at which a text without it is cut
fails : (byte : ℕ) (text : List ℕ) → IsWithout byte text → All (λ c. (c == byte) ≡ false) text
fails byte text without =
    All-from_get_or (λ c. (c == byte) ≡ false) text 0
    (λ i within. false_from_ne_true (get_or text i 0 == byte) (λ same. without i within (eqb-true (get_or text i 0) byte same)))

-- a text is cut at the first place of a byte
pub cut_here : (byte : ℕ) (text : List ℕ) (place : ℕ) → position (λ c. c == byte) text ≡ Some place → (text ≡ take place text ++ byte ∷ drop (place + 1) text) × IsWithout byte (take place text)
cut_here byte text place found =
    let at = position-Some (λ c. c == byte) text place 0 found in
    let here : get_or text place 0 ≡ byte = eqb-true (get_or text place 0) byte at.1 in (
      sym (take-append-drop place text) ∙ ap (λ rest. take place text ++ rest) (drop_more text place 0 at.0 ∙ ap (λ c. c ∷ drop (place + 1) text) here),
      λ i within same.
          let short = length-take-le place text (omega arith) in
          let before : i < place = omega arith in
          eqb-false (get_or text i 0) byte (at.2 i before) (sym (get_or-take place text i 0 before) ∙ same),
    )

-- its first place is within the text, and the byte stands there
pub stands_here : (byte : ℕ) (text : List ℕ) (place : ℕ) → position (λ c. c == byte) text ≡ Some place → (place < length text) × (get_or text place 0 ≡ byte)
stands_here byte text place found =
    let at = position-Some (λ c. c == byte) text place 0 found in
    (at.0, eqb-true (get_or text place 0) byte at.1)

-- a range from the start
pub from_start : (text : List ℕ) (n : ℕ) → slice_range text 0 n ≡ take n text
from_start text n = ap (λ m. take m text) (omega arith)

-- where it has no place, the text is without it
pub cut_nowhere : (byte : ℕ) (text : List ℕ) → position (λ c. c == byte) text ≡ None → IsWithout byte text
cut_nowhere byte text none i within =
    eqb-false (get_or text i 0) byte
    (fails_before_first (λ c. c == byte) text i 0 (let past = absent (λ c. c == byte) text none in omega arith))

-- the first field ends at the first space
pub first_field : (line field rest : List ℕ) → line ≡ field ++ 32 ∷ rest → IsWithout 32 field → fields_of line ≡ field ∷ fields_of rest
first_field line field rest cut without =
    ap fields_of cut ∙ slice_split_at (λ c. c == 32) field 32 rest (fails 32 field without) refl

-- a line without a space is one field
pub only_field : (line : List ℕ) → IsWithout 32 line → fields_of line ≡ line ∷ []
only_field line without = slice_split_none (λ c. c == 32) line (fails 32 line without)

-- the first word, where it is not empty, ends at the first space
pub first_word : (line word rest : List ℕ) → line ≡ word ++ 32 ∷ rest → IsWithout 32 word → words_of line ≡ unless_empty word ++ words_of rest
first_word line word rest cut without =
    ap (filter (λ w. not (length w == 0))) (first_field line word rest cut without)
    ∙ filter-append (λ w. not (length w == 0)) (word ∷ []) (fields_of rest)

-- a line without a space is one word or none
pub only_word : (line : List ℕ) → IsWithout 32 line → words_of line ≡ unless_empty line
only_word line without = ap (filter (λ w. not (length w == 0))) (only_field line without)

-- the items so far, and what is left of the parts of a line
module _ (items : List (Bor (List ℕ))) where
  -- one part more is an item
  pub one_pushed : (x : Bor (List ℕ)) (rest : List (List ℕ)) → map (λ (w : Bor (List ℕ)). w.now) (items ++ x ∷ []) ++ rest ≡ map (λ (w : Bor (List ℕ)). w.now) items ++ x.now ∷ rest
  one_pushed x rest =
      ap (λ ws. ws ++ rest) (map_push (λ (w : Bor (List ℕ)). w.now) items x)
      ∙ append_assoc (map (λ (w : Bor (List ℕ)). w.now) items) (x.now ∷ []) rest

  -- the last one
  pub one_last : (x : Bor (List ℕ)) → map (λ (w : Bor (List ℕ)). w.now) (items ++ x ∷ []) ≡ map (λ (w : Bor (List ℕ)). w.now) items ++ x.now ∷ []
  one_last x = map_push (λ (w : Bor (List ℕ)). w.now) items x

  -- where n items stand and a part is left, there are more than n parts
  pub past_all : (rest parts : List (List ℕ)) (n : ℕ) → length items ≡ n → 0 < length rest → map (λ (w : Bor (List ℕ)). w.now) items ++ rest ≡ parts → n < length parts
  past_all rest parts n many some same =
      let both = length-append (map (λ (w : Bor (List ℕ)). w.now) items) rest in
      let front = length-map items (λ (w : Bor (List ℕ)). w.now) in
      let whole = ap length same in
      omega arith

-- a front is no longer than the whole
pub past_front : (front back parts : List (List ℕ)) (n : ℕ) → n < length front → front ++ back ≡ parts → n < length parts
past_front front back parts n many same =
    let both = length-append front back in
    let whole = ap length same in
    omega arith

-- a word that is not empty
pub one_word : (word : List ℕ) → (length word == 0) ≡ false → unless_empty word ≡ word ∷ []
one_word word some = ap (λ t. cond (not t) (word ∷ []) []) some
