-- Texts that are cut at bytes in one way.
use Rattle.std.proofs.Common.{◌≡◌, ℕ, zero, suc, ◌+◌, ◌==◌, not, ◌&&◌, cond, Bool, true, false, List, [], ◌∷◌, ◌++◌, length, get_or, refl, ap, sym, ◌∙◌, arith}
use Rattle.std.specs.List.{onto_first, join_with_byte, list_all, slice_get}
use Rattle.std.proofs.lemmas.Bool.{and_parts, not-true, eqb-true, eqb-false, false_from_ne_true}
use Rattle.gcd_text.specs.Fields.{IsWithout, fields_of}

-- a byte that no field has: neither a space nor the end of a line
abbrev pub is_plain : ℕ → Bool
is_plain c = not (c == 32) && not (c == 10)

no_space : (c : ℕ) → is_plain c ≡ true → (c == 32) ≡ false
no_space c h = not-true (c == 32) (and_parts (not (c == 32)) (not (c == 10)) h).0

no_end : (c : ℕ) → is_plain c ≡ true → (c == 10) ≡ false
no_end c h = not-true (c == 10) (and_parts (not (c == 32)) (not (c == 10)) h).1

-- a field without a space is one field
pub split_one : (field : List ℕ) → list_all is_plain field ≡ true → fields_of field ≡ field ∷ []
split_one [] plain = refl
split_one (c ∷ field) plain =
    let parts = and_parts (is_plain c) (list_all is_plain field) plain in
    rw (no_space c parts.0) (ap (onto_first c) (split_one field parts.1))

-- and it is the first one before a space
pub split_more : (field rest : List ℕ) → list_all is_plain field ≡ true → fields_of (field ++ 32 ∷ rest) ≡ field ∷ fields_of rest
split_more [] rest plain = refl
split_more (c ∷ field) rest plain =
    let parts = and_parts (is_plain c) (list_all is_plain field) plain in
    rw (no_space c parts.0) (ap (onto_first c) (split_more field rest parts.1))

-- fields that are joined by spaces are these fields again
pub fields_joined : (field : List ℕ) (more : List (List ℕ)) → list_all (list_all is_plain) (field ∷ more) ≡ true → fields_of (join_with_byte 32 (field ∷ more)) ≡ field ∷ more
fields_joined field [] plain = split_one field (and_parts (list_all is_plain field) true plain).0
fields_joined field (next ∷ more) plain =
    let parts = and_parts (list_all is_plain field) (list_all (list_all is_plain) (next ∷ more)) plain in
    split_more field (join_with_byte 32 (next ∷ more)) parts.0 ∙ ap (λ fs. field ∷ fs) (fields_joined next more parts.1)

-- a text of lines: no end of a line stands in it
abbrev pub is_line : List ℕ → Bool
is_line text = list_all (λ c. not (c == 10)) text

plain_line : (text : List ℕ) → list_all is_plain text ≡ true → is_line text ≡ true
plain_line [] plain = refl
plain_line (c ∷ text) plain =
    let parts = and_parts (is_plain c) (list_all is_plain text) plain in
    rw ((and_parts (not (c == 32)) (not (c == 10)) parts.0).1) (plain_line text parts.1)

line_append : (a b : List ℕ) → is_line a ≡ true → is_line b ≡ true → is_line (a ++ b) ≡ true
line_append [] b p q = q
line_append (c ∷ a) b p q =
    let parts = and_parts (not (c == 10)) (is_line a) p in
    rw (parts.0) (line_append a b parts.1 q)

pub joined_line : (fields : List (List ℕ)) → list_all (list_all is_plain) fields ≡ true → is_line (join_with_byte 32 fields) ≡ true
joined_line [] plain = refl
joined_line (field ∷ []) plain = plain_line field (and_parts (list_all is_plain field) true plain).0
joined_line (field ∷ next ∷ more) plain =
    let parts = and_parts (list_all is_plain field) (list_all (list_all is_plain) (next ∷ more)) plain in
    line_append field (32 ∷ join_with_byte 32 (next ∷ more)) (plain_line field parts.0) (joined_line (next ∷ more) parts.1)

-- two texts with one first line
pub cut_one_way : (a b x y : List ℕ) → is_line a ≡ true → is_line b ≡ true → a ++ 10 ∷ x ≡ b ++ 10 ∷ y → (a ≡ b) × (x ≡ y)
cut_one_way [] [] x y p q same = (refl, cc)
cut_one_way [] (c ∷ b) x y p q same =
    let head : 10 ≡ c = cc in
    absurd (eqb-false c 10 (not-true (c == 10) (and_parts (not (c == 10)) (is_line b) q).0) (sym head))
cut_one_way (c ∷ a) [] x y p q same =
    let head : c ≡ 10 = cc in
    absurd (eqb-false c 10 (not-true (c == 10) (and_parts (not (c == 10)) (is_line a) p).0) head)
cut_one_way (c ∷ a) (d ∷ b) x y p q same =
    let head : c ≡ d = cc in
    let tail : a ++ 10 ∷ x ≡ b ++ 10 ∷ y = cc in
    let rest = cut_one_way a b x y (and_parts (not (c == 10)) (is_line a) p).1 (and_parts (not (d == 10)) (is_line b) q).1 tail in
    (ap (λ e. e ∷ a) head ∙ ap (λ l. d ∷ l) rest.0, rest.1)

-- a text without the byte 10 is no line with an end
pub no_line : (text a x : List ℕ) → IsWithout 10 text → text ≡ a ++ 10 ∷ x → ⊥
no_line text [] x without same = without 0 (let long = ap length same in omega arith) (ap (λ l. get_or l 0 0) same)
no_line [] (c ∷ a) x without same = cc
no_line (d ∷ text) (c ∷ a) x without same =
    no_line text a x (λ i within. without (suc i) (omega arith)) (let tail : text ≡ a ++ 10 ∷ x = cc in tail)

-- the bytes of a text without the byte 10
pub without_line : (text : List ℕ) → IsWithout 10 text → is_line text ≡ true
without_line [] without = refl
without_line (c ∷ text) without =
    let other : (c == 10) ≡ false = false_from_ne_true (c == 10) (λ same. without 0 (omega arith) (eqb-true c 10 same)) in
    rw other (without_line text (λ i within. without (suc i) (omega arith)))

-- ## Places

-- an element of the second of two lists
pub get_second : {A : Type 0} (xs ys : List A) (i j : ℕ) → j ≡ length xs + i → slice_get (xs ++ ys) j ≡ slice_get ys i
get_second [] ys i j at = let same : j ≡ i = omega arith in ap (slice_get ys) same
get_second (x ∷ xs) ys i zero at = absurd (omega arith)
get_second (x ∷ xs) ys i (suc j) at = get_second xs ys i j (omega arith)

-- a text has a first field
pub some_field : (text : List ℕ) → (field : List ℕ) × (more : List (List ℕ)) × (fields_of text ≡ field ∷ more)
some_field [] = ([], [], refl)
some_field (c ∷ text) =
    let t = some_field text in
    elim (c == 32) as (λ v. (field : List ℕ) × (more : List (List ℕ)) × (cond v ([] ∷ fields_of text) (onto_first c (fields_of text)) ≡ field ∷ more)) [
      | true ↦ ([], fields_of text, refl)
      | false ↦ (c ∷ t.0, t.1, ap (onto_first c) t.2)
    ]
