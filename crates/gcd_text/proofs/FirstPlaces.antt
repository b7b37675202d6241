-- What a search for a byte says, as a place of the first byte that passes the test.
use Rattle.std.proofs.Common.{ℕ, ◌≡◌, ◌≢◌, ◌<◌, ◌+◌, ◌==◌, cond, ltb, get_or, Option, Some, None, List, length, position, sym, ap, subst, ◌∙◌, ⊎_elim, eq-eqb, arith}
use Rattle.std.specs.List.{position_or_len}
use Rattle.std.proofs.lemmas.Bool.{cases_eq, eqb-true, ne_eqb, lt-ltb, le-ltb}
use Rattle.std.proofs.lemmas.List.Sums.{position_or_len_is}
use Rattle.memchr.specs.Find.{IsFirstByte, is_byte}

-- the place, from how many bytes fail before it
placed : (byte : ℕ) (text : List ℕ) (n : ℕ) → position_or_len (λ c. c == byte) text ≡ n
    → position (λ c. c == byte) text ≡ cond (ltb n (length text)) (Some n) None
placed byte text n is = ap (λ m. cond (ltb m (length text)) (Some m) None) is

-- the byte stands at the place, and not before it
pub stands_first : (byte : ℕ) (text : List ℕ) (place : ℕ) → place < length text → get_or text place 0 ≡ byte
    → ((k : ℕ) → k < place → get_or text k 0 ≢ byte) → Some place ≡ position (λ c. c == byte) text
stands_first byte text place within here before =
    let at = position_or_len_is (λ c. c == byte) text place 0 (omega arith) (λ k low. ne_eqb (get_or text k 0) byte (before k low)) (λ _. eq-eqb (get_or text place 0) byte here) in
    sym (placed byte text place at ∙ ap (λ t. cond t (Some place) None) (lt-ltb place (length text) within))

-- the byte stands nowhere
pub stands_nowhere : (byte : ℕ) (text : List ℕ) → ((k : ℕ) → k < length text → get_or text k 0 ≢ byte) → None ≡ position (λ c. c == byte) text
stands_nowhere byte text without =
    let all = position_or_len_is (λ c. c == byte) text (length text) 0 (omega arith) (λ k low. ne_eqb (get_or text k 0) byte (without k low)) (λ low. absurd (omega arith)) in
    sym (placed byte text (length text) all ∙ ap (λ t. cond t (Some (length text)) None) (le-ltb (length text) (length text) (omega arith)))

-- it does not stand before a place, nor at that place
pub none_more : (byte : ℕ) (text : List ℕ) (n m : ℕ) → m ≡ n + 1 → ((k : ℕ) → k < n → get_or text k 0 ≢ byte) → get_or text n 0 ≢ byte
    → (k : ℕ) → k < m → get_or text k 0 ≢ byte
none_more byte text n m next before here k low =
    ⊎_elim (λ (same : k ≡ n). subst (λ i. get_or text i 0 ≢ byte) (sym same) here) (λ (differ : k ≢ n). before k (omega arith)) (cases_eq k n)

-- a search for the byte gives its first place
pub first_place : (byte : ℕ) (text : List ℕ) (found : Option ℕ) → IsFirstByte (is_byte byte) text found → found ≡ position (λ c. c == byte) text
first_place byte text None nowhere = stands_nowhere byte text (λ k low same. nowhere k (omega arith) low (eq-eqb (get_or text k 0) byte same))
first_place byte text (Some place) first =
    stands_first byte text place first.0.high (eqb-true (get_or text place 0) byte first.1)
    (λ k low same. first.0.before k (omega arith) low (eq-eqb (get_or text k 0) byte same))
