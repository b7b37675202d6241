-- Which strip each block is of, told from the last strip to the first.
use Rattle.std.proofs.Common.{◌≡◌, ℕ, zero, suc, ◌+◌, ◌-◌, ◌<◌, ◌≤◌, ◌==◌, leb, ltb, Bool, false, ◌&&◌, cond, List, [], ◌∷◌, length, map, drop, get_or, Option, None, Some, refl, sym, ap, ◌∙◌, arith, ⊎_elim, eq-eqb, ne_eqb}
use Rattle.std.specs.List.{position_from, range_with_len, slice_get}
use Rattle.std.specs.Option.{option_map}
use Rattle.std.proofs.lemmas.Bool.{cases_eq, and_parts, both_ways, leb-true, ltb-true, false_from_ne_true}
use Rattle.std.proofs.lemmas.List.{ext_get_or, length-map}
use Rattle.std.proofs.lemmas.List.FromFn.{length-map-range_with_len, get_or-map-range_with_len}
use Rattle.gcd_plan.specs.Made.{Span, is_within, strip_span}
use Rattle.gcd_plan.specs.PlanView.{PlanView, StripView, strip_view}
use Rattle.gcd_plan.specs.declared.parts.StripPart.{StripPart}
use Rattle.gcd_apply.specs.StripsView.{strip_of, strip_room}

-- ## One strip

-- the number is from the first on, and below the end
abbrev pub is_between : (first end k : ℕ) → Bool
is_between first end k = leb first k && ltb k end

pub none_between : (first k : ℕ) → is_between first first k ≡ false
none_between first k =
    false_from_ne_true (is_between first first k) (λ h.
    let parts = and_parts (leb first k) (ltb k first) h in
    let low = leb-true first k parts.0 in
    let high = ltb-true k first parts.1 in
    absurd (omega (arith, low, high)))

-- ## All strips

-- the first from strip a on that has the block
pub first_from : (spans : List Span) (a b : ℕ) → a < length spans → (s : Span) → slice_get spans a ≡ Some s
    → position_from (is_within b) a (drop a spans) ≡ cond (is_within b s) (Some a) (position_from (is_within b) (a + 1) (drop (a + 1) spans))
first_from spans a b lt s at = ap (position_from (is_within b) a) (front spans a s at)
  where
    front : (xs : List Span) (i : ℕ) (s : Span) → slice_get xs i ≡ Some s → drop i xs ≡ s ∷ drop (i + 1) xs
    front [] i s at = cc
    front (x ∷ xs) zero s at = let same : x ≡ s = cc in ap (λ y. y ∷ xs) same
    front (x ∷ xs) (suc i) s at = let e : suc i + 1 ≡ suc (i + 1) = omega arith in front xs i s at ∙ ap (λ n. s ∷ drop n (x ∷ xs)) (sym e)

-- past the last strip none is left
pub none_left : (spans : List Span) (n b : ℕ) → length spans ≤ n → position_from (is_within b) n (drop n spans) ≡ None
none_left [] zero b past = refl
none_left [] (suc n) b past = refl
none_left (x ∷ xs) zero b past = absurd (omega (arith, past))
none_left (x ∷ xs) (suc n) b past = gone xs (suc n) n b (omega (arith, past))
  where
    gone : (ys : List Span) (from i b : ℕ) → length ys ≤ i → position_from (is_within b) from (drop i ys) ≡ None
    gone [] from zero b past = refl
    gone [] from (suc i) b past = refl
    gone (y ∷ ys) from zero b past = absurd (omega (arith, past))
    gone (y ∷ ys) from (suc i) b past = gone ys from i b (omega (arith, past))

-- numbers that tell of each block its strip are the list of these
pub all_told : (plan : PlanView) (numbers : List (Option ℕ)) → strip_room plan ≡ length plan.blocks → length numbers ≡ length plan.blocks
    → ((b : ℕ) → b < length numbers → get_or numbers b None ≡ strip_of plan b) → numbers ≡ map (strip_of plan) (range_with_len 0 (strip_room plan))
all_told plan numbers room long told =
    ext_get_or None numbers (map (strip_of plan) (range_with_len 0 (strip_room plan)))
    (long ∙ (sym room ∙ sym (length-map-range_with_len (strip_of plan) 0 (strip_room plan))))
    (λ b lt. told b lt ∙ sym (get_or-map-range_with_len (strip_of plan) 0 (strip_room plan) b b None (omega (arith, lt, long, room)) (let e : 0 + b ≡ b = omega arith in e)))

-- where the plan has a strip, each block has a place
pub room_is : (plan : PlanView) → 0 < length plan.strips → strip_room plan ≡ length plan.blocks
room_is plan some = ap (λ u. cond {A = ℕ} u 0 (length plan.blocks)) (ne_eqb (length plan.strips) 0 (λ none. omega (arith, none, some)))

-- and where it has none, none has
pub no_room : (plan : PlanView) → length plan.strips ≡ 0 → strip_room plan ≡ 0
no_room plan none = ap (λ u. cond {A = ℕ} u 0 (length plan.blocks)) (eq-eqb (length plan.strips) 0 none)

-- ## The loop over the strips, from the last to the first

-- the spans of the strips
abbrev pub spans_of : List StripPart → List Span
spans_of strips = map strip_span (map strip_view strips)

span_there : (strips : List StripPart) (a : ℕ) (s : StripPart) → slice_get (map strip_view strips) a ≡ Some (strip_view s) → slice_get (spans_of strips) a ≡ Some (strip_span (strip_view s))
span_there [] a s at = cc
span_there (x ∷ xs) zero s at = ap (λ (o : Option StripView). option_map strip_span o) at
span_there (x ∷ xs) (suc a) s at = span_there xs a s at

-- one strip more
pub number_step : (strips : List StripPart) (k b : ℕ) (was : Option ℕ) (s : StripPart) → k < length strips → slice_get (map strip_view strips) (length strips - 1 - k) ≡ Some (strip_view s)
    → was ≡ position_from (is_within b) (length strips - k) (drop (length strips - k) (spans_of strips))
    → cond (is_within b (strip_span (strip_view s))) (Some (length strips - 1 - k)) was ≡ position_from (is_within b) (length strips - (k + 1)) (drop (length strips - (k + 1)) (spans_of strips))
number_step strips k b was s low there tie =
    let a = length strips - 1 - k in
    let long = length-map (map strip_view strips) strip_span in
    let longer = length-map strips strip_view in
    let here : length strips - (k + 1) ≡ a = omega (arith, low) in
    let next : length strips - k ≡ a + 1 = omega (arith, low) in
    ap (λ o. cond (is_within b (strip_span (strip_view s))) (Some a) o) (tie ∙ ap (λ n. position_from (is_within b) n (drop n (spans_of strips))) next)
    ∙ (sym (first_from (spans_of strips) a b (omega (arith, low, long, longer)) (strip_span (strip_view s)) (span_there strips a s there))
    ∙ ap (λ n. position_from (is_within b) n (drop n (spans_of strips))) (sym here))

some_from : (n : ℕ) → (n == 0) ≡ false → 0 < n
some_from n h = ⊎_elim (λ (none : n ≡ 0). absurd (both_ways (n == 0) h (eq-eqb n 0 none))) (λ (some : n ≡ 0 → ⊥). omega (arith, some)) (cases_eq n 0)

-- and all of them
pub told_all : (plan : PlanView) (strips : List StripPart) (numbers : List (Option ℕ)) (k : ℕ) → length strips ≤ k → map strip_view strips ≡ plan.strips → length numbers ≡ length plan.blocks
    → ((b : ℕ) → b < length numbers → get_or numbers b None ≡ position_from (is_within b) (length strips - k) (drop (length strips - k) (spans_of strips)))
    → (length strips == 0) ≡ false → numbers ≡ map (strip_of plan) (range_with_len 0 (strip_room plan))
told_all plan strips numbers k end same long told has =
    let some = some_from (length strips) has in
    let none : length strips - k ≡ 0 = omega (arith, end) in
    let many = length-map strips strip_view in
    let count = ap length same in
    all_told plan numbers (room_is plan (omega (arith, many, count, some))) long
    (λ b low. told b low ∙ (ap (λ n. position_from (is_within b) n (drop n (spans_of strips))) none ∙ ap (λ xs. position_from (is_within b) 0 (map strip_span xs)) same))
