-- The blocks of the intake and of the strips: which they are, and how they stand in a plan.
use Rattle.std.proofs.Common.{◌≡◌, ℕ, zero, suc, ◌+◌, ◌<◌, ◌≤◌, ◌==◌, Bool, true, false, cond, ◌||◌, nat_le, nat_lt, List, [], ◌∷◌, ◌++◌, length, map, take, drop, get_or, Option, None, Some, refl, ap, sym, ◌∙◌, arith, ◌⊎◌, inl, inr, ⊎_elim, zero-add}
use Rattle.std.specs.List.{count_by, list_any, range_with_len, slice_get}
use Rattle.std.specs.Option.{option_map, option_map_or, option_to_list}
use Rattle.std.specs.Cmp.Derive.{one_truth}
use Rattle.std.proofs.Math.Bool.{or-false}
use Rattle.std.proofs.Math.Seq.{drop-append_seam, take-append_seam}
use Rattle.std.proofs.lemmas.Bool.{and_from, and_parts, cases_eq, cases_lt, eq-eqb, ne_eqb, le-leb, leb-true, lt-ltb, ltb-true, false_from_ne_true}
use Rattle.std.proofs.lemmas.List.{ext_get_or, get_or-drop, get_or-take, length-drop, length-take-le, take-append-drop}
use Rattle.std.proofs.lemmas.List.Folds.{list_any-append}
use Rattle.std.proofs.lemmas.List.FromFn.{get_or-map-range_with_len, length-map-range_with_len}
use Rattle.std.proofs.lemmas.Option.{get_or_from_slice_get, slice_get-get_or}
use Rattle.gcd_plan.specs.declared.numbers.Blk.{Blk}
use Rattle.gcd_plan.specs.declared.numbers.Obj.{Obj}
use Rattle.gcd_plan.specs.declared.parts.Parts.{Parts}
use Rattle.gcd_plan.specs.declared.parts.StripPart.{StripPart}
use Rattle.gcd_plan.specs.Made.{Span, is_within, blocks_in, intake_span, strip_span, spans, is_made, is_of_intake}
use Rattle.gcd_plan.specs.PlanView.{view_of, intake_view, strip_view}
use Rattle.gcd_plan.proofs.Sums.{count_by-append, count_by-cons, count_by-map}

-- ## The spans of parts

pub any_mapped : {A B : Type 0} (p : B → Bool) (h : A → B) (xs : List A) → list_any p (map h xs) ≡ list_any (λ x. p (h x)) xs
any_mapped p h [] = refl
any_mapped p h (x ∷ xs) = ap (λ v. p (h x) || v) (any_mapped p h xs)

-- the intake that may be there, as a list
abbrev intakes : Option (Obj × ℕ × ℕ) → List Span
intakes o = map intake_span (option_to_list (option_map intake_view o))

intake_any : (o : Option (Obj × ℕ × ℕ)) (b : ℕ)
    → list_any (is_within b) (intakes o) ≡ option_map_or (λ i. is_within b (intake_span i)) (option_map intake_view o) false
intake_any None b = refl
intake_any (Some i) b = or-false _

intake_counted : (o : Option (Obj × ℕ × ℕ)) (b : ℕ)
    → count_by (is_within b) (intakes o) ≡ cond (option_map_or (λ i. is_within b (intake_span i)) (option_map intake_view o) false) 1 0
intake_counted None b = refl
intake_counted (Some i) b = zero-add _

strips_any : (xs : List StripPart) (b : ℕ)
    → list_any (is_within b) (map strip_span (map strip_view xs)) ≡ list_any (λ s. is_within b (strip_span (strip_view s))) xs
strips_any xs b =
    any_mapped (is_within b) strip_span (map strip_view xs) ∙ any_mapped (λ s. is_within b (strip_span s)) strip_view xs

strips_counted : (xs : List StripPart) (b : ℕ)
    → count_by (is_within b) (map strip_span (map strip_view xs)) ≡ count_by (λ s. is_within b (strip_span (strip_view s))) xs
strips_counted xs b =
    count_by-map (is_within b) strip_span (map strip_view xs) ∙ count_by-map (λ s. is_within b (strip_span s)) strip_view xs

-- a block is of the intake or of a strip of the parts
pub made_seen : (p : Parts) (b : ℕ)
    → is_made (view_of p) b ≡ (is_of_intake (view_of p) b || list_any (λ s. is_within b (strip_span (strip_view s))) p.strips.items)
made_seen p b =
    list_any-append (is_within b) (intakes p.intake) (map strip_span (map strip_view p.strips.items))
    ∙ ap (λ v. v || list_any (is_within b) (map strip_span (map strip_view p.strips.items))) (intake_any p.intake b)
    ∙ ap (λ v. is_of_intake (view_of p) b || v) (strips_any p.strips.items b)

-- how many of them it is of
pub spans_seen : (p : Parts) (b : ℕ)
    → count_by (is_within b) (spans (view_of p))
    ≡ cond (is_of_intake (view_of p) b) 1 0 + count_by (λ s. is_within b (strip_span (strip_view s))) p.strips.items
spans_seen p b =
    count_by-append (is_within b) (intakes p.intake) (map strip_span (map strip_view p.strips.items))
    ∙ ap (λ n. n + count_by (is_within b) (map strip_span (map strip_view p.strips.items))) (intake_counted p.intake b)
    ∙ ap (λ n. cond (is_of_intake (view_of p) b) 1 0 + n) (strips_counted p.strips.items b)

-- ## Blocks of a span

pub within_from : (b : ℕ) (span : Span) → span.first ≤ b → b < span.first + span.count → is_within b span ≡ true
within_from b span low high = and_from _ _ (le-leb span.first b low) (lt-ltb b (span.first + span.count) high)

pub within_parts : (b : ℕ) (span : Span) → is_within b span ≡ true → (span.first ≤ b) × (b < span.first + span.count)
within_parts b span is =
    let parts = and_parts (nat_le span.first b) (nat_lt b (span.first + span.count)) is in
    (leb-true _ _ parts.0, ltb-true _ _ parts.1)

pub without : (b : ℕ) (span : Span) → ((span.first ≤ b) → (b < span.first + span.count) → ⊥) → is_within b span ≡ false
without b span none = false_from_ne_true _ (λ is. let parts = within_parts b span is in none parts.0 parts.1)

-- a number other than the first is within a span where it is within the rest
within_rest : (b first n : ℕ) → (first ≡ b → ⊥)
    → is_within b (record { first = first + 1; count = n }) ≡ is_within b (record { first = first; count = suc n })
within_rest b first n other =
    let rest : Span = record { first = first + 1; count = n } in
    let whole : Span = record { first = first; count = suc n } in
    one_truth (is_within b rest) (is_within b whole)
    (λ is. let parts = within_parts b rest is in within_from b whole (omega (arith, parts.0)) (omega (arith, parts.1)))
    (λ is. let parts = within_parts b whole is in
    within_from b rest (⊎_elim (λ low. low) (λ high. absurd (other (omega (arith, parts.0, high)))) (cases_le (first + 1) b)) (omega (arith, parts.1)))
  where
    cases_le : (m k : ℕ) → (m ≤ k) ⊎ (k < m)
    cases_le m k = ⊎_elim (λ less. inr less) (λ more. inl more) (cases_lt k m)

counted_in_range : (b first n : ℕ) → count_by (λ k. k == b) (range_with_len first n) ≡ cond (is_within b (record { first = first; count = n })) 1 0
counted_in_range b first zero =
    sym (ap (λ v. cond v 1 0) (without b (record { first = first; count = 0 }) (λ low high. absurd (omega (arith, low, high)))))
counted_in_range b first (suc n) =
    let step = count_by-cons (λ k. k == b) first (range_with_len (first + 1) n) in
    let rest = counted_in_range b (first + 1) n in
    let whole : Span = record { first = first; count = suc n } in
    ⊎_elim
    (λ (same : first ≡ b).
    let own : ◌≡◌ {A = ℕ} (cond (first == b) 1 0) 1 = ap (λ v. cond v 1 0) (eq-eqb first b same) in
    let none : ◌≡◌ {A = ℕ} (cond (is_within b (record { first = first + 1; count = n })) 1 0) 0 =
    ap (λ v. cond v 1 0) (without b (record { first = first + 1; count = n }) (λ low high. absurd (omega (arith, low, same)))) in
    let one : ◌≡◌ {A = ℕ} (cond (is_within b whole) 1 0) 1 = ap (λ v. cond v 1 0) (within_from b whole (omega (arith, same)) (omega (arith, same))) in
    omega (arith, step, rest, own, none, one))
    (λ other.
    let own : ◌≡◌ {A = ℕ} (cond (first == b) 1 0) 0 = ap (λ v. cond v 1 0) (ne_eqb first b other) in
    let same : ◌≡◌ {A = ℕ} (cond (is_within b (record { first = first + 1; count = n })) 1 0) (cond (is_within b whole) 1 0) =
    ap (λ v. cond v 1 0) (within_rest b first n other) in
    omega (arith, step, rest, own, same))
    (cases_eq first b)

-- a block stands once among those of a span that it is within, and else not at all
pub counted_in_span : (span : Span) (b : ℕ) → count_by (λ c. c.0 == b) (blocks_in span) ≡ cond (is_within b span) 1 0
counted_in_span span b =
    count_by-map (λ (c : Blk). c.0 == b) (λ k. record { 0 = k }) (range_with_len span.first span.count)
    ∙ counted_in_range b span.first span.count

-- ## A list that is cut

pub joined_from : (word front tail before after : List ℕ) → before ≡ take (length front) word → after ≡ drop (length front) word → before ≡ front → after ≡ tail → word ≡ front ++ tail
joined_from word front tail before after first rest same others =
    sym (take-append-drop (length front) word)
    ∙ ap (λ l. l ++ drop (length front) word) (sym first ∙ same)
    ∙ ap (λ l. front ++ l) (sym rest ∙ others)

pub front_from : (word front tail : List ℕ) → word ≡ front ++ tail → take (length front) word ≡ front
front_from word front tail is = ap (take (length front)) is ∙ take-append_seam front tail

pub back_from : (word front tail : List ℕ) → word ≡ front ++ tail → drop (length front) word ≡ tail
back_from word front tail is = ap (drop (length front)) is ∙ drop-append_seam front tail

-- ## Lists that stand at a span

-- what is made for each place stands there, where each place has what is made for it
pub placed : {A : Type 0} (xs : List A) (first n a : ℕ) (make : ℕ → A) → first + n ≤ length xs
    → ((k j : ℕ) → k < n → a + k ≡ j → slice_get xs (first + k) ≡ Some (make j)) → take n (drop first xs) ≡ map make (range_with_len a n)
placed xs first n a make among each =
    let rest = length-drop first xs in
    let whole : length (take n (drop first xs)) ≡ n = length-take-le n (drop first xs) (omega (arith, rest, among)) in
    let made = length-map-range_with_len make a n in
    ext_get_or (make a) (take n (drop first xs)) (map make (range_with_len a n)) (omega (arith, whole, made))
    (λ k low.
    let below : k < n = omega (arith, low, whole) in
    get_or-take n (drop first xs) k (make a) below
    ∙ get_or-drop first xs k (make a)
    ∙ get_or_from_slice_get xs (first + k) (make (a + k)) (make a) (each k (a + k) below refl)
    ∙ sym (get_or-map-range_with_len make a n k (a + k) (make a) below refl))

-- and each place has what is made for it, where that stands there
pub at_place : {A : Type 0} (xs : List A) (first n a : ℕ) (make : ℕ → A) → first + n ≤ length xs
    → take n (drop first xs) ≡ map make (range_with_len a n) → (k j : ℕ) → k < n → a + k ≡ j → slice_get xs (first + k) ≡ Some (make j)
at_place xs first n a make among stands k j below same =
    slice_get-get_or xs (first + k) (make j) (omega (arith, among, below))
    ∙ ap (λ x. Some x)
    (sym (get_or-drop first xs k (make j))
    ∙ sym (get_or-take n (drop first xs) k (make j) below)
    ∙ ap (λ l. get_or l k (make j)) stands
    ∙ get_or-map-range_with_len make a n k j (make j) below same)
