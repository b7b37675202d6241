-- The names of the blocks that an intake and a strip make: they are no names that a line may give, and stand apart from all others.
use Rattle.std.proofs.Common.{ℕ, zero, suc, ◌≡◌, ◌≢◌, ◌<◌, ◌≤◌, ◌+◌, ◌-◌, ◌^◌, Bool, true, false, not, ◌&&◌, ◌||◌, cond, leb, ◌⊎◌, inl, inr, decimal, List, [], ◌∷◌, ◌++◌, length, map, drop, Some, None, slice_get, count_by, refl, sym, ap, ◌∙◌, ⊎_elim, arith}
use Rattle.std.specs.List.{list_all, range_with_len}
use Rattle.std.specs.Option.{option_map_or}
use Rattle.std.specs.Str.{bytes_eq}
use Rattle.std.proofs.lemmas.Bool.{and_parts, and_right, both_ways, cases_Bool, cases_lt, false_from_ne_true, not_from_false}
use Rattle.std.proofs.lemmas.Fmt.{decimal_injective}
use Rattle.std.proofs.lemmas.List.{append_cancel_left}
use Rattle.std.proofs.lemmas.List.Folds.{list_all-append}
use Rattle.std.proofs.lemmas.Option.{none-some, same_Some, slice_get_within}
use Rattle.gcd_plan.specs.Limits.{max_name_bytes}
use Rattle.gcd_plan.specs.Made.{intake_block, strip_block, is_made}
use Rattle.gcd_plan.specs.Names.{begins_with_letter, is_letter, is_name, is_name_byte}
use Rattle.gcd_plan.specs.PlanView.{PlanView, BlkView, StripView, name_of_blk}
use Rattle.gcd_plan.specs.Validity.{IsPlan, declared_names, names_of}
use Rattle.gcd_plan.proofs.Spans.{Maker, by_intake, by_strip, maker, made_block, made_stands}
use Rattle.gcd_plan.proofs.Sums.{count_by-append, count_by-cons, count_by-map}
use Rattle.gcd_plan.proofs.Strips.{strip_named}
use Rattle.gcd_builder.proofs.Inserts.{IsFit, absent, block_names, strip_names}
use Rattle.gcd_builder.proofs.Places.{bytes_same, count_none, same_bytes}

-- ## Names that no line may give

-- a name has no point
no_point : (xs ys : List ℕ) → is_name (xs ++ 46 ∷ ys) ≡ false
no_point xs ys =
    let bytes : list_all is_name_byte (xs ++ 46 ∷ ys) ≡ false =
    list_all-append is_name_byte xs (46 ∷ ys) ∙ and_right (list_all is_name_byte xs) (list_all is_name_byte (46 ∷ ys)) refl
    in
    and_right (begins_with_letter (xs ++ 46 ∷ ys)) _ (and_right (leb (length (xs ++ 46 ∷ ys)) max_name_bytes) (list_all is_name_byte (xs ++ 46 ∷ ys)) bytes)

pub intake_unnamed : (k : ℕ) → is_name (intake_block k).name ≡ false
intake_unnamed k = refl

pub strip_unnamed : (s : StripView) (k : ℕ) → is_name (strip_block s k).name ≡ false
strip_unnamed s k = no_point s.name (decimal k)

made_unnamed : (plan : PlanView) (valid : IsPlan plan) (b : ℕ) (by : Maker plan b) → is_name (made_block plan valid b by).name ≡ false
made_unnamed plan valid b (by_intake i stands within) = intake_unnamed ((b - i.first) + 1)
made_unnamed plan valid b (by_strip a s stands within) = strip_unnamed s (b - s.first)

-- what holds of each that is made holds of all
pub all_made : (p : BlkView → Bool) (make : ℕ → BlkView) (a n : ℕ) → ((k : ℕ) → p (make k) ≡ true) → list_all p (map make (range_with_len a n)) ≡ true
all_made p make a zero each = refl
all_made p make a (suc n) each = ap (λ v. v && list_all p (map make (range_with_len (a + 1) n))) (each a) ∙ all_made p make (a + 1) n each

pub none_named : (make : ℕ → BlkView) (a n : ℕ) → ((k : ℕ) → is_name (make k).name ≡ false) → list_all (λ b. not (is_name b.name)) (map make (range_with_len a n)) ≡ true
none_named make a n each = all_made (λ b. not (is_name b.name)) make a n (λ k. not_from_false (is_name (make k).name) (each k))

-- a block with a name that a line may give is not made
pub named_not_made : (plan : PlanView) → IsPlan plan → (b : ℕ) (block : BlkView) → slice_get plan.blocks b ≡ Some block → is_name block.name ≡ true → is_made plan b ≡ false
named_not_made plan valid b block stands named =
    false_from_ne_true (is_made plan b)
    (λ made.
    let by = maker plan b made in
    let same : made_block plan valid b by ≡ block = same_Some (made_block plan valid b by) block (sym (made_stands plan valid b by) ∙ stands) in
    both_ways (is_name block.name) (ap (λ (v : BlkView). is_name v.name) (sym same) ∙ made_unnamed plan valid b by) named)

-- ## Counts over numbers

none_in_range : (p : ℕ → Bool) (a n : ℕ) → ((k : ℕ) → a ≤ k → k < a + n → p k ≡ false) → count_by p (range_with_len a n) ≡ 0
none_in_range p a zero none = refl
none_in_range p a (suc n) none =
    let step = count_by-cons p a (range_with_len (a + 1) n) in
    let own : ◌≡◌ {A = ℕ} (cond (p a) 1 0) 0 = ap (λ v. cond v 1 0) (none a (omega arith) (omega arith)) in
    let rest = none_in_range p (a + 1) n (λ k low high. none k (omega (arith, low)) (omega (arith, high))) in
    omega (arith, step, own, rest)

-- at most one number passes, where no two do
one_in_range : (p : ℕ → Bool) (a n : ℕ) → ((k j : ℕ) → k < a + n → j < a + n → p k ≡ true → p j ≡ true → k ≡ j) → count_by p (range_with_len a n) ≤ 1
one_in_range p a zero one = omega arith
one_in_range p a (suc n) one =
    let step = count_by-cons p a (range_with_len (a + 1) n) in
    ⊎_elim
    (λ (own_passes : p a ≡ true).
    let own : ◌≡◌ {A = ℕ} (cond (p a) 1 0) 1 = ap (λ v. cond v 1 0) own_passes in
    let rest = none_in_range p (a + 1) n
    (λ k low high. false_from_ne_true (p k) (λ also. let same = one a k (omega arith) (omega (arith, high)) own_passes also in absurd (omega (arith, low, same)))) in
    omega (arith, step, own, rest))
    (λ (own_fails : p a ≡ false).
    let own : ◌≡◌ {A = ℕ} (cond (p a) 1 0) 0 = ap (λ v. cond v 1 0) own_fails in
    let rest = one_in_range p (a + 1) n (λ k j below under. one k j (omega (arith, below)) (omega (arith, under))) in
    omega (arith, step, own, rest))
    (cases_Bool (p a))

-- a number passes, where some are counted
some_in_range : (p : ℕ → Bool) (a n : ℕ) → 1 ≤ count_by p (range_with_len a n) → (k : ℕ) × (k < a + n) × (p k ≡ true)
some_in_range p a zero some = absurd (omega arith)
some_in_range p a (suc n) some =
    let step = count_by-cons p a (range_with_len (a + 1) n) in
    ⊎_elim
    (λ (own_passes : p a ≡ true). (a, omega arith, own_passes))
    (λ (own_fails : p a ≡ false).
    let own : ◌≡◌ {A = ℕ} (cond (p a) 1 0) 0 = ap (λ v. cond v 1 0) own_fails in
    let rest = some_in_range p (a + 1) n (omega (arith, step, own, some)) in
    (rest.0, omega (arith, rest.1), rest.2))
    (cases_Bool (p a))

-- ## The names of made blocks

-- the names of what is made of these numbers
abbrev pub made_names : (ℕ → BlkView) → (a n : ℕ) → List (List ℕ)
made_names make a n = map (λ b. b.name) (map make (range_with_len a n))

counted_names : (make : ℕ → BlkView) (a n : ℕ) (x : List ℕ) → count_by (bytes_eq x) (made_names make a n) ≡ count_by (λ k. bytes_eq x (make k).name) (range_with_len a n)
counted_names make a n x =
    count_by-map (bytes_eq x) (λ (b : BlkView). b.name) (map make (range_with_len a n)) ∙ count_by-map (λ (b : BlkView). bytes_eq x b.name) make (range_with_len a n)

-- names of one front stand apart
pub made_apart : (make : ℕ → BlkView) (front : List ℕ) → ((k : ℕ) → (make k).name ≡ front ++ decimal k) → (a n : ℕ) → a + n < 2 ^ 64 → (x : List ℕ) → count_by (bytes_eq x) (made_names make a n) ≤ 1
made_apart make front is a n low x =
    let one = one_in_range (λ k. bytes_eq x (make k).name) a n
    (λ k j below under p q.
    decimal_injective k j (omega (arith, below, low)) (omega (arith, under, low))
    (append_cancel_left front (decimal k) (decimal j)
    (sym (is k) ∙ sym (same_bytes x (make k).name p) ∙ same_bytes x (make j).name q ∙ is j))) in
    let same = counted_names make a n x in
    omega (arith, one, same)

-- a name that stands among them is one of them
pub made_found : (make : ℕ → BlkView) (a n : ℕ) (x : List ℕ) → 1 ≤ count_by (bytes_eq x) (made_names make a n) → (k : ℕ) × (x ≡ (make k).name)
made_found make a n x some =
    let same = counted_names make a n x in
    let one = some_in_range (λ k. bytes_eq x (make k).name) a n (omega (arith, same, some)) in
    (one.0, same_bytes x (make one.0).name one.2)

-- ## Apart from all other names

-- two lists stand apart, where what stands in the second does not in the first
pub apart_both : (xs ys : List (List ℕ)) → ((x : List ℕ) → count_by (bytes_eq x) xs ≤ 1) → ((x : List ℕ) → count_by (bytes_eq x) ys ≤ 1)
    → ((x : List ℕ) → 1 ≤ count_by (bytes_eq x) ys → count_by (bytes_eq x) xs ≡ 0) → (x : List ℕ) → count_by (bytes_eq x) (xs ++ ys) ≤ 1
apart_both xs ys first second others x =
    let split = count_by-append (bytes_eq x) xs ys in
    let few = first x in
    let more = second x in
    ⊎_elim
    (λ some. let none = others x some in omega (arith, split, none, more))
    (λ none. omega (arith, split, none, few))
    (cases_le 1 (count_by (bytes_eq x) ys))
  where
    cases_le : (m k : ℕ) → (m ≤ k) ⊎ (k < m)
    cases_le m k = ⊎_elim (λ less. inr less) (λ more. inl more) (cases_lt k m)

-- a name that no line may give is none of the declared ones
unnamed_count : (x : List ℕ) (names : List (List ℕ)) → is_name x ≡ false → list_all is_name names ≡ true → count_by (bytes_eq x) names ≡ 0
unnamed_count x [] unnamed named = refl
unnamed_count x (y ∷ names) unnamed named =
    let each = and_parts (is_name y) (list_all is_name names) named in
    let other : bytes_eq x y ≡ false =
    false_from_ne_true (bytes_eq x y) (λ e. both_ways (is_name x) unnamed (ap is_name (same_bytes x y e) ∙ each.0))
    in
    let step = count_by-cons (bytes_eq x) y names in
    let own : ◌≡◌ {A = ℕ} (cond (bytes_eq x y) 1 0) 0 = ap (λ v. cond v 1 0) other in
    let rest = unnamed_count x names unnamed each.1 in
    omega (arith, step, own, rest)

-- a name that is no block's
nowhere : (x : List ℕ) (blocks : List BlkView) → ((b : ℕ) (block : BlkView) → slice_get blocks b ≡ Some block → x ≢ block.name) → count_by (bytes_eq x) (map (λ b. b.name) blocks) ≡ 0
nowhere x [] none = refl
nowhere x (block ∷ blocks) none =
    let other : bytes_eq x block.name ≡ false = false_from_ne_true (bytes_eq x block.name) (λ e. none 0 block refl (same_bytes x block.name e)) in
    let step = count_by-cons (bytes_eq x) block.name (map (λ (b : BlkView). b.name) blocks) in
    let own : ◌≡◌ {A = ℕ} (cond (bytes_eq x block.name) 1 0) 0 = ap (λ v. cond v 1 0) other in
    let rest = nowhere x blocks (λ b v at. none (suc b) v at) in
    omega (arith, step, own, rest)

-- a name that no line may give, and that no made block has, is none of the plan's
pub fresh : (plan : PlanView) (valid : IsPlan plan) (x : List ℕ) → is_name x ≡ false → ((b : ℕ) (by : Maker plan b) → x ≢ (made_block plan valid b by).name) → count_by (bytes_eq x) (names_of plan) ≡ 0
fresh plan valid x unnamed others =
    let split = count_by-append (bytes_eq x) (declared_names plan) (block_names plan) in
    let first = unnamed_count x (declared_names plan) unnamed valid.names in
    let second = nowhere x plan.blocks (λ b block at same. block_other b block at same) in
    omega (arith, split, first, second)
  where
    block_other : (b : ℕ) (block : BlkView) → slice_get plan.blocks b ≡ Some block → x ≡ block.name → ⊥
    block_other b block at same =
        ⊎_elim
        (λ (made : is_made plan b ≡ true).
        let by = maker plan b made in
        let is : made_block plan valid b by ≡ block = same_Some (made_block plan valid b by) block (sym (made_stands plan valid b by) ∙ at) in
        others b by (same ∙ ap (λ (v : BlkView). v.name) (sym is)))
        (λ (other : is_made plan b ≡ false).
        let here : name_of_blk plan b ≡ block.name = ap (λ o. option_map_or (λ (v : BlkView). v.name) o []) at in
        let named : is_name (name_of_blk plan b) ≡ true = sym (ap (λ v. v || is_name (name_of_blk plan b)) other) ∙ valid.block_names b (slice_get_within plan.blocks b block at) in
        both_ways (is_name x) unnamed (ap is_name (same ∙ sym here) ∙ named))
        (cases_Bool (is_made plan b))

-- ## The two kinds of made names

-- what begins with `+` is no name with a point behind it
plus_other : (xs ys zs : List ℕ) → is_name xs ≡ true → 43 ∷ ys ≡ xs ++ 46 ∷ zs → ⊥
plus_other [] ys zs named same = cc
plus_other (x ∷ xs) ys zs named same =
    let head : 43 ≡ x = same_Some 43 x (ap (λ l. slice_get l 0) same) in
    let letter : is_letter x ≡ true = (and_parts (is_letter x) _ named).0 in
    both_ways (is_letter 43) refl (ap is_letter head ∙ letter)

-- names with a point behind them are the same, where what they begin is
front_same : (xs ys us vs : List ℕ) → list_all is_name_byte xs ≡ true → list_all is_name_byte ys ≡ true → xs ++ 46 ∷ us ≡ ys ++ 46 ∷ vs → xs ≡ ys
front_same [] [] us vs p q same = refl
front_same [] (y ∷ ys) us vs p q same =
    let head : 46 ≡ y = same_Some 46 y (ap (λ l. slice_get l 0) same) in
    absurd (both_ways (is_name_byte 46) refl (ap is_name_byte head ∙ (and_parts (is_name_byte y) _ q).0))
front_same (x ∷ xs) [] us vs p q same =
    let head : x ≡ 46 = same_Some x 46 (ap (λ l. slice_get l 0) same) in
    absurd (both_ways (is_name_byte 46) refl (ap is_name_byte (sym head) ∙ (and_parts (is_name_byte x) _ p).0))
front_same (x ∷ xs) (y ∷ ys) us vs p q same =
    let head : x ≡ y = same_Some x y (ap (λ l. slice_get l 0) same) in
    let rest = front_same xs ys us vs (and_parts (is_name_byte x) _ p).1 (and_parts (is_name_byte y) _ q).1 (ap (drop 1) same) in
    ap (λ z. z ∷ xs) head ∙ ap (λ l. y ∷ l) rest

name_bytes : (x : List ℕ) → is_name x ≡ true → list_all is_name_byte x ≡ true
name_bytes x named = (and_parts (leb (length x) max_name_bytes) (list_all is_name_byte x) (and_parts (begins_with_letter x) _ named).1).1

-- the name of an intake's block is new, where the plan has no intake
pub intake_fresh : (plan : PlanView) (valid : IsPlan plan) → plan.intake ≡ None → (k : ℕ) → count_by (bytes_eq (intake_block k).name) (names_of plan) ≡ 0
intake_fresh plan valid none k = fresh plan valid (intake_block k).name (intake_unnamed k) others
  where
    others : (b : ℕ) (by : Maker plan b) → (intake_block k).name ≢ (made_block plan valid b by).name
    others b (by_intake i stands within) = λ same. absurd (none-some i (sym none ∙ stands))
    others b (by_strip a s stands within) = λ same. plus_other s.name (decimal k) (decimal (b - s.first)) (strip_named plan valid a s stands) same

-- a strip that stands there is counted by its name
strip_counted : (strips : List StripView) (a : ℕ) (t : StripView) → slice_get strips a ≡ Some t → (x : List ℕ) → x ≡ t.name → 1 ≤ count_by (bytes_eq x) (map (λ u. u.name) strips)
strip_counted [] a t at x same = cc
strip_counted (u ∷ strips) zero t at x same =
    let step = count_by-cons (bytes_eq x) u.name (map (λ (v : StripView). v.name) strips) in
    let is : x ≡ u.name = same ∙ ap (λ (v : StripView). v.name) (sym (same_Some u t at)) in
    let own : ◌≡◌ {A = ℕ} (cond (bytes_eq x u.name) 1 0) 1 = ap (λ v. cond v 1 0) (ap (bytes_eq x) (sym is) ∙ bytes_same x) in
    omega (arith, step, own)
strip_counted (u ∷ strips) (suc a) t at x same =
    let step = count_by-cons (bytes_eq x) u.name (map (λ (v : StripView). v.name) strips) in
    let rest = strip_counted strips a t at x same in
    omega (arith, step, rest)

-- the name of a strip's block is new, where the strip's is
pub strip_fresh : (plan : PlanView) (valid : IsPlan plan) (s : StripView) → IsFit plan s.name → (k : ℕ) → count_by (bytes_eq (strip_block s k).name) (names_of plan) ≡ 0
strip_fresh plan valid s fit k = fresh plan valid (strip_block s k).name (strip_unnamed s k) others
  where
    others : (b : ℕ) (by : Maker plan b) → (strip_block s k).name ≢ (made_block plan valid b by).name
    others b (by_intake i stands within) = λ same. plus_other s.name (decimal ((b - i.first) + 1)) (decimal k) fit.formed (sym same)
    others b (by_strip a t stands within) =
        λ same.
        let front : s.name ≡ t.name = front_same s.name t.name (decimal k) (decimal (b - t.first)) (name_bytes s.name fit.formed) (name_bytes t.name (strip_named plan valid a t stands)) same in
        let none = count_none s.name (strip_names plan) (absent plan s.name fit).strips in
        let some = strip_counted plan.strips a t stands s.name front in
        absurd (omega (arith, none, some))
