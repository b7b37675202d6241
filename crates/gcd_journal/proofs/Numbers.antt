-- Numbers in a range, as fields write them.
use Rattle.std.proofs.Common.{◌≡◌, ◌≢◌, ℕ, ◌+◌, ◌^◌, ◌<◌, ◌≤◌, ◌&&◌, ◌⊎◌, inl, inr, ◌%◌, Bool, true, false, List, [], ◌∷◌, Some, None, leb, refl, ap, sym, ◌∙◌, arith, if◌then◌else◌}
use Rattle.std.specs.List.{list_all}
use Rattle.std.specs.Fmt.{decimal}
use Rattle.std.specs.Str.{bytes_eq}
use Rattle.std.specs.Str.Parse.{digits_value}
use Rattle.std.proofs.lemmas.Bool.{and_parts, and_from, leb-true, le-leb, lt-leb, ne_eqb, and_right}
use Rattle.std.proofs.lemmas.Fmt.{decimal_is_IsNumeral, decimal_by_steps}
use Rattle.std.proofs.lemmas.Slice.Eq.{bytes_eq-Decides}
use Rattle.std.proofs.lemmas.List.Folds.{list_all-append}
use Rattle.gcd_text.specs.Numbers.{number_end}
use Rattle.gcd_journal.specs.Spelling.{number_in}
use Rattle.gcd_journal.proofs.Cuts.{is_plain}

when : {A : Type 0} (b : Bool) (v n : A) → (if b then Some v else None) ≡ Some n → (b ≡ true) × (v ≡ n)
when true v n h = (refl, cc)
when false v n h = cc

-- what is read is in range, and is written so
pub read_back : (low high : ℕ) (field : List ℕ) (n : ℕ) → number_in low high field ≡ Some n → (field ≡ decimal n) × (low ≤ n) × (n ≤ high)
unfolding number_in
read_back low high field n h =
    let v = digits_value 10 field in
    let is = when (bytes_eq field (decimal v) && (leb low v && leb v high)) v n h in
    let parts = and_parts (bytes_eq field (decimal v)) (leb low v && leb v high) is.0 in
    let range = and_parts (leb low v) (leb v high) parts.1 in
    let above = leb-true low v range.0 in
    let below = leb-true v high range.1 in
    let same : v ≡ n = is.1 in
    ((bytes_eq-Decides field (decimal v)).0 parts.0 ∙ ap decimal same, omega arith, omega arith)

written_by : (low high : ℕ) (field : List ℕ) (n : ℕ) → n < 2 ^ 64 → field ≡ decimal n → (digits_value 10 field ≡ n) × (bytes_eq field (decimal (digits_value 10 field)) ≡ true)
written_by low high field n fits same =
    let value : digits_value 10 field ≡ n = ap (digits_value 10) same ∙ (decimal_is_IsNumeral n fits).1 in
    (value, (bytes_eq-Decides field (decimal (digits_value 10 field))).1 (same ∙ ap decimal (sym value)))

-- what is written in range is read
pub reads : (low high : ℕ) (field : List ℕ) (n : ℕ) → n < 2 ^ 64 → field ≡ decimal n → low ≤ n → n ≤ high → number_in low high field ≡ Some n
unfolding number_in
reads low high field n fits same above below =
    let at = written_by low high field n fits same in
    rw (at.1, at.0, le-leb low n above, le-leb n high below) refl

-- what is written out of range is not read
pub reads_none : (low high : ℕ) (field : List ℕ) (n : ℕ) → n < 2 ^ 64 → field ≡ decimal n → (n < low) ⊎ (high < n) → number_in low high field ≡ None
unfolding number_in
reads_none low high field n fits same out =
    let at = written_by low high field n fits same in
    elim out [
      | inl under ↦ rw (at.1, at.0, lt-leb low n under) refl
      | inr over ↦ rw (at.1, at.0, lt-leb n high over, and_right (leb low n) false refl) refl
    ]

-- what no number writes is not read
pub unread : (low high : ℕ) (field : List ℕ) → high < number_end → ((n : ℕ) → n < number_end → field ≢ decimal n) → number_in low high field ≡ None
unread low high field few other =
    elim (number_in low high field) as (λ o. number_in low high field ≡ o → o ≡ None) [
      | None ↦ λ is. refl
      | Some n ↦ λ is. let back = read_back low high field n is in absurd (other n (omega arith) back.0)
    ] refl

-- digits are plain
plain_digit : (c : ℕ) → c < 10 → is_plain (48 + c) ≡ true
plain_digit c small = rw (ne_eqb (48 + c) 32 (λ same. omega arith), ne_eqb (48 + c) 10 (λ same. omega arith)) refl

pub plain_decimal : (n : ℕ) → n < 2 ^ 64 → list_all is_plain (decimal n) ≡ true
plain_decimal n fits =
    decimal_by_steps (λ m ds. list_all is_plain ds ≡ true)
    (λ m small. and_from (is_plain (48 + m)) true (plain_digit m small) refl)
    (λ m ds large all. list_all-append is_plain ds ((48 + m % 10) ∷ []) ∙ and_from (list_all is_plain ds) (is_plain (48 + m % 10) && true) all (and_from (is_plain (48 + m % 10)) true (plain_digit (m % 10) (omega arith)) refl))
    n fits
