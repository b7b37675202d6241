-- The bytes and the words of the lines of the large input.
use Rattle.std.proofs.Common.{ℕ, zero, suc, ◌≡◌, ◌<◌, ◌≤◌, ◌==◌, ◌^◌, Bool, true, false, not, leb, List, [], ◌∷◌, ◌++◌, length, codes, decimal, refl, sym, ap, ◌∙◌, arith}
use Rattle.std.specs.List.{All, flat_map, list_all}
use Rattle.std.specs.Str.Parse.{AllDigits}
use Rattle.std.proofs.lemmas.Bool.{and_parts, and_from, le-leb, leb-true, ne_eqb}
use Rattle.std.proofs.lemmas.Fmt.{digits_decimal, decimal_nonempty}
use Rattle.std.proofs.lemmas.List.{append_assoc}
use Rattle.std.proofs.lemmas.List.Elements.{All-nil, All-cons}
use Rattle.std.proofs.lemmas.List.Folds.{list_all-append}
use Rattle.std.proofs.lemmas.List.Splits.{slice_split_at}
use Rattle.std.proofs.lemmas.Str.Parse.{IsNumeralModel, numerals_by_value, tells_digits, digit_from_value}
use Rattle.gcd_script.specs.Lines.{lines_of, but_empty_last, words_of, is_line_byte, is_printable}
use Rattle.gcd_text.specs.Fields.{IsWithout}
use Rattle.gcd_text.proofs.FirstLines.{more_follows}
use Rattle.gcd_text.proofs.Parts.{first_word, only_word, one_word}
use Rattle.gcd_script.specs.BigScript.{big_name, big_start, big_block, ended_line}
use Rattle.std.specs.Str.Parse.{digits_value}

-- digits are bytes from 48 to 57, so what is written of a number passes each test that these bytes pass
digits_pass : (p : ℕ → Bool) → ((c : ℕ) → 48 ≤ c → c ≤ 57 → p c ≡ true) → (ds : List ℕ) → AllDigits 10 ds → list_all p ds ≡ true
digits_pass p passes [] digits = refl
digits_pass p passes (c ∷ cs) digits =
    let range = digit_from_value c digits.0 in
    and_from (p c) (list_all p cs) (passes c range.0 range.1) (digits_pass p passes cs digits.1)

own : IsNumeralModel (AllDigits 10) (digits_value 10)
own = numerals_by_value (AllDigits 10) tells_digits

pub decimal_pass : (p : ℕ → Bool) → ((c : ℕ) → 48 ≤ c → c ≤ 57 → p c ≡ true) → (n : ℕ) → n < 2 ^ 64 → list_all p (decimal n) ≡ true
decimal_pass p passes n small = digits_pass p passes (decimal n) (digits_decimal own n small)

prints : (c : ℕ) → 48 ≤ c → c ≤ 57 → is_line_byte c ≡ true
prints c low high = and_from (leb 32 c) (leb c 126) (le-leb 32 c (omega arith)) (le-leb c 126 (omega arith))

-- a byte of a word
abbrev pub is_solid : ℕ → Bool
is_solid c = not (c == 32)

solid : (c : ℕ) → 48 ≤ c → c ≤ 57 → is_solid c ≡ true
solid c low high = ap not (ne_eqb c 32 (λ same. omega arith))

-- a text without spaces
pub without_spaces : (w : List ℕ) → list_all is_solid w ≡ true → IsWithout 32 w
without_spaces [] h i within same = omega arith
without_spaces (c ∷ cs) h zero within same =
    let parts = and_parts (is_solid c) (list_all is_solid cs) h in
    let no : true ≡ false = sym parts.0 ∙ ap (λ d. not (d == 32)) same in cc
without_spaces (c ∷ cs) h (suc i) within same = without_spaces cs (and_parts (is_solid c) (list_all is_solid cs) h).1 i (omega arith) same

-- a word that is followed by a space
pub word_then : (w rest : List ℕ) → list_all is_solid w ≡ true → (length w == 0) ≡ false → words_of (w ++ 32 ∷ rest) ≡ w ∷ words_of rest
word_then w rest is some = first_word (w ++ 32 ∷ rest) w rest refl (without_spaces w is) ∙ ap (λ ws. ws ++ words_of rest) (one_word w some)

pub last_word : (w : List ℕ) → list_all is_solid w ≡ true → (length w == 0) ≡ false → words_of w ≡ w ∷ []
last_word w is some = only_word w (without_spaces w is) ∙ one_word w some

-- numbers and names of blocks
number_solid : (n : ℕ) → n < 2 ^ 64 → list_all is_solid (decimal n) ≡ true
number_solid n small = decimal_pass is_solid solid n small

number_some : (n : ℕ) → n < 2 ^ 64 → (length (decimal n) == 0) ≡ false
number_some n small = ne_eqb (length (decimal n)) 0 (λ none. let some = decimal_nonempty n small in omega arith)

name_solid : (k : ℕ) → k < 2 ^ 64 → list_all is_solid (big_name k) ≡ true
name_solid k small = number_solid k small

name_some : (k : ℕ) → (length (big_name k) == 0) ≡ false
name_some k = ne_eqb (length (big_name k)) 0 (λ none. omega arith)

-- the words of a block's line
pub block_words : (k : ℕ) → k < 2 ^ 64 → words_of (big_block k) ≡ codes "block" ∷ big_name k ∷ codes "sum" ∷ codes "data" ∷ decimal (big_start k) ∷ codes "64" ∷ []
block_words k small =
    let start = decimal (big_start k) in
    let low : big_start k < 2 ^ 64 = omega arith in
    let four = last_word (codes "64") refl refl in
    let three = word_then start (codes "64") (number_solid (big_start k) low) (number_some (big_start k) low) ∙ ap (λ ws. start ∷ ws) four in
    let two = word_then (codes "data") (start ++ 32 ∷ codes "64") refl refl ∙ ap (λ ws. codes "data" ∷ ws) three in
    let one = word_then (codes "sum") (codes "data" ++ 32 ∷ (start ++ 32 ∷ codes "64")) refl refl ∙ ap (λ ws. codes "sum" ∷ ws) two in
    let name = word_then (big_name k) (codes "sum" ++ 32 ∷ (codes "data" ++ 32 ∷ (start ++ 32 ∷ codes "64"))) (name_solid k small) (name_some k) ∙ ap (λ ws. big_name k ∷ ws) one in
    word_then (codes "block") (big_name k ++ 32 ∷ (codes "sum" ++ 32 ∷ (codes "data" ++ 32 ∷ (start ++ 32 ∷ codes "64")))) refl refl
    ∙ ap (λ ws. codes "block" ∷ ws) name

-- the words of an act's line
pub act_words : (verb q : List ℕ) (k : ℕ) → k < 2 ^ 64 → list_all is_solid verb ≡ true → (length verb == 0) ≡ false → list_all is_solid q ≡ true → (length q == 0) ≡ false → words_of (verb ++ 32 ∷ (q ++ 32 ∷ big_name k)) ≡ verb ∷ q ∷ big_name k ∷ []
act_words verb q k small verb_is verb_some q_is q_some =
    let name = last_word (big_name k) (name_solid k small) (name_some k) in
    let second = word_then q (big_name k) q_is q_some ∙ ap (λ ws. q ∷ ws) name in
    word_then verb (q ++ 32 ∷ big_name k) verb_is verb_some ∙ ap (λ ws. verb ∷ ws) second

-- lines that print
pub joined_prints : (a b : List ℕ) → is_printable a ≡ true → is_printable b ≡ true → is_printable (a ++ b) ≡ true
joined_prints a b first second = list_all-append is_line_byte a b ∙ and_from (is_printable a) (is_printable b) first second

number_prints : (n : ℕ) → n < 2 ^ 64 → is_printable (decimal n) ≡ true
number_prints n small = decimal_pass is_line_byte prints n small

pub name_prints : (k : ℕ) → k < 2 ^ 64 → is_printable (big_name k) ≡ true
name_prints k small = number_prints k small

pub block_prints : (k : ℕ) → k < 2 ^ 64 → is_printable (big_block k) ≡ true
block_prints k small =
    let low : big_start k < 2 ^ 64 = omega arith in
    joined_prints (codes "block ") (big_name k ++ (codes " sum data " ++ (decimal (big_start k) ++ codes " 64"))) refl
    (joined_prints (big_name k) (codes " sum data " ++ (decimal (big_start k) ++ codes " 64")) (name_prints k small)
    (joined_prints (codes " sum data ") (decimal (big_start k) ++ codes " 64") refl
    (joined_prints (decimal (big_start k)) (codes " 64") (number_prints (big_start k) low) refl)))

-- a line that prints has no end in it
no_end : (line : List ℕ) → is_printable line ≡ true → All (λ c. (c == 10) ≡ false) line
no_end [] h = All-nil (λ c. (c == 10) ≡ false)
no_end (c ∷ cs) h =
    let parts = and_parts (is_line_byte c) (is_printable cs) h in
    let low = leb-true 32 c (and_parts (leb 32 c) (leb c 126) parts.0).0 in
    All-cons (λ c. (c == 10) ≡ false) c cs (ne_eqb c 10 (λ same. omega arith)) (no_end cs parts.1)

-- each line prints
abbrev pub AllPrint : List (List ℕ) → Type 0
AllPrint [] = Unit {0}
AllPrint (line ∷ lines) = (is_printable line ≡ true) × AllPrint lines

-- lines that print are the lines of the text that ends each of them
pub lines_again : (lines : List (List ℕ)) → AllPrint lines → lines_of (flat_map ended_line lines) ≡ lines
lines_again [] prints = refl
lines_again (line ∷ lines) prints =
    ap lines_of (append_assoc line (10 ∷ []) (flat_map ended_line lines))
    ∙ ap but_empty_last (slice_split_at (λ c. c == 10) line 10 (flat_map ended_line lines) (no_end line prints.0) refl)
    ∙ more_follows line (flat_map ended_line lines)
    ∙ ap (λ ls. line ∷ ls) (lines_again lines prints.1)
