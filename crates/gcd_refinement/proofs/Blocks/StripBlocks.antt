-- Which strip a block is of, and how many blocks of a strip have not ended.
use Rattle.std.proofs.Common.{◌≡◌, ⊎_elim, ℕ, zero, suc, ◌+◌, ◌<◌, ◌≤◌, ◌==◌, Bool, true, false, not, ◌&&◌, ◌||◌, cond, List, [], ◌∷◌, length, map, get_or, Option, Some, None, refl, ap, sym, ◌∙◌, subst, arith, eq-eqb, ne_eqb}
use Rattle.std.specs.List.{count_by, list_all, position_from, range_with_len, slice_get}
use Rattle.std.specs.Option.{option_map_or, option_to_list}
use Rattle.std.proofs.lemmas.Bool.{cases_eq, false_from_ne_true}
use Rattle.std.proofs.lemmas.List.{length-map}
use Rattle.std.proofs.lemmas.List.FromFn.{get_or-map-range_with_len}
use Rattle.gcd_plan.specs.Made.{is_within, blocks_in, intake_span, strip_span, strip_blocks}
use Rattle.gcd_plan.specs.PlanView.{PlanView, StripView}
use Rattle.gcd_plan.specs.Validity.{IsPlan}
use Rattle.gcd_plan.specs.declared.numbers.Blk.{Blk}
use Rattle.gcd_plan.proofs.MadeBlocks.{counted_in_span}
use Rattle.gcd_plan.proofs.Sums.{count_by-cons, count_by-append}
use Rattle.gcd_history.proofs.MadeBlocks.Spans.{has_number}
use Rattle.gcd_apply.specs.StripsView.{strip_of, strip_at}
use Rattle.gcd_refinement.specs.MachineView.{MachineView}
use Rattle.gcd_refinement.specs.Shape.{PartsFit}

-- ## The strip of a block

-- no position is before the start
not_before : {X : Type 0} (p : X → Bool) (xs : List X) (i k : ℕ) → k < i → option_map_or (λ n. n == k) (position_from p i xs) false ≡ false
not_before p [] i k lt = refl
not_before p (x ∷ xs) i k lt =
    elim (p x) as (λ t. option_map_or (λ n. n == k) (cond t (Some i) (position_from p (i + 1) xs)) false ≡ false) [
      | true ↦ ne_eqb i k (λ same. omega (arith, same, lt))
      | false ↦ not_before p xs (i + 1) k (omega (arith, lt))
    ]

none_counted : {X : Type 0} (p : X → Bool) (xs : List X) (a : ℕ) → count_by p xs ≡ 0 → option_map_or p (slice_get xs a) false ≡ false
none_counted p [] a none = refl
none_counted p (x ∷ xs) zero none =
    let c = count_by-cons p x xs in
    false_from_ne_true (p x) (λ h. let one = ap (λ t. cond {A = ℕ} t 1 0) h in absurd (omega (arith, c, one, none)))
none_counted p (x ∷ xs) (suc a) none = let c = count_by-cons p x xs in none_counted p xs a (omega (arith, c, none))

-- where at most one passes, it is the first
found_at : {X : Type 0} (p : X → Bool) (xs : List X) (i a : ℕ) → count_by p xs ≤ 1 → option_map_or (λ n. n == i + a) (position_from p i xs) false ≡ option_map_or p (slice_get xs a) false
found_at p [] i a one = refl
found_at p (x ∷ xs) i zero one =
    elim (p x) as (λ t. option_map_or (λ n. n == i + 0) (cond t (Some i) (position_from p (i + 1) xs)) false ≡ t) [
      | true ↦ eq-eqb i (i + 0) (omega arith)
      | false ↦ not_before p xs (i + 1) (i + 0) (omega arith)
    ]
found_at p (x ∷ xs) i (suc a) one =
    let c = count_by-cons p x xs in
    let e : i + suc a ≡ i + 1 + a = omega arith in
    elim (p x) as (λ t. p x ≡ t → option_map_or (λ n. n == i + suc a) (cond t (Some i) (position_from p (i + 1) xs)) false ≡ option_map_or p (slice_get xs a) false) [
      | true ↦ λ h.
          let here = ap (λ t. cond {A = ℕ} t 1 0) h in
          ne_eqb i (i + suc a) (λ same. omega (arith, same)) ∙ sym (none_counted p xs a (omega (arith, c, here, one)))
      | false ↦ λ h.
          let here = ap (λ t. cond {A = ℕ} t 1 0) h in
          ap (λ m. option_map_or (λ n. n == m) (position_from p (i + 1) xs) false) e ∙ found_at p xs (i + 1) a (omega (arith, c, here, one))
    ] refl

mapped_at : {X Y : Type 0} (f : X → Y) (p : Y → Bool) (xs : List X) (a : ℕ) → option_map_or p (slice_get (map f xs) a) false ≡ option_map_or (λ x. p (f x)) (slice_get xs a) false
mapped_at f p [] a = refl
mapped_at f p (x ∷ xs) zero = refl
mapped_at f p (x ∷ xs) (suc a) = mapped_at f p xs a

-- strip a is the one of block b
abbrev pub is_its_strip : PlanView → (b a : ℕ) → Bool
is_its_strip plan b a = option_map_or (λ k. k == a) (strip_of plan b) false

-- a block stands once in its strip, and in no other
pub in_strip : (plan : PlanView) (b a : ℕ) → IsPlan plan → count_by (has_number b) (strip_blocks plan a) ≡ cond {A = ℕ} (is_its_strip plan b a) 1 0
in_strip plan b a valid =
    let apart = valid.apart b in
    let split = count_by-append (is_within b) (map intake_span (option_to_list plan.intake)) (map strip_span plan.strips) in
    let at : is_its_strip plan b a ≡ option_map_or (λ s. is_within b (strip_span s)) (slice_get plan.strips a) false =
    ap (λ m. option_map_or (λ k. k == m) (strip_of plan b) false) (let e : a ≡ 0 + a = omega arith in e) ∙ found_at (is_within b) (map strip_span plan.strips) 0 a (omega (arith, apart, split)) ∙ mapped_at strip_span (is_within b) plan.strips a in
    by (slice_get plan.strips a) ∙ ap (λ t. cond {A = ℕ} t 1 0) (sym at)
  where
    by : (o : Option StripView) → count_by (has_number b) (option_map_or (λ s. blocks_in (strip_span s)) o []) ≡ cond {A = ℕ} (option_map_or (λ s. is_within b (strip_span s)) o false) 1 0
    by None = refl
    by (Some s) = counted_in_span (strip_span s) b

-- a position is within the list
position_low : {X : Type 0} (p : X → Bool) (xs : List X) (i k : ℕ) → position_from p i xs ≡ Some k → k < i + length xs
position_low p [] i k at = cc
position_low p (x ∷ xs) i k at =
    elim (p x) as (λ t. cond t (Some i) (position_from p (i + 1) xs) ≡ Some k → k < i + suc (length xs)) [
      | true ↦ λ h. let same : i ≡ k = cc in omega (arith, same)
      | false ↦ λ h. let rest = position_low p xs (i + 1) k h in omega (arith, rest)
    ] at

pub strip_low : (plan : PlanView) (b a : ℕ) → strip_of plan b ≡ Some a → a < length plan.strips
strip_low plan b a at =
    let low = position_low (is_within b) (map strip_span plan.strips) 0 a at in
    let long = length-map plan.strips strip_span in
    omega (arith, low, long)

-- the view has of each block of the plan its strip
pub strip_at_is : (plan : PlanView) (v : MachineView) (b : ℕ) → PartsFit plan v → b < length plan.blocks → strip_at v.strips b ≡ strip_of plan b
strip_at_is plan v b fit low =
    ap (λ xs. get_or xs b None) fit.strip_blocks ∙ by plan.strips refl
  where
    by : (strips : List StripView) → plan.strips ≡ strips
        → get_or (map (strip_of plan) (range_with_len 0 (cond {A = ℕ} (length strips == 0) 0 (length plan.blocks)))) b None ≡ position_from (is_within b) 0 (map strip_span strips)
    by [] is = refl
    by (s ∷ strips) is =
        ap (λ u. get_or (map (strip_of plan) (range_with_len 0 (cond {A = ℕ} u 0 (length plan.blocks)))) b None) (ne_eqb (length (s ∷ strips)) 0 (λ e. omega (arith, e)))
        ∙ (get_or-map-range_with_len (strip_of plan) 0 (length plan.blocks) b b None low (let e : 0 + b ≡ b = omega arith in e) ∙ ap (λ xs. position_from (is_within b) 0 (map strip_span xs)) is)

-- ## Who has not ended

abbrev pub left_of : (ended : ℕ → Bool) → List Blk → ℕ
left_of ended blocks = count_by (λ (c : Blk). not (ended c.0)) blocks

-- once b has ended too
pub left_without : (ended : ℕ → Bool) (blocks : List Blk) (b : ℕ) → ended b ≡ false → left_of (λ c. b == c || ended c) blocks + count_by (has_number b) blocks ≡ left_of ended blocks
left_without ended [] b h = refl
left_without ended (x ∷ xs) b h =
    let a = count_by-cons (λ (c : Blk). not (b == c.0 || ended c.0)) x xs in
    let d = count_by-cons (has_number b) x xs in
    let e = count_by-cons (λ (c : Blk). not (ended c.0)) x xs in
    let rest = left_without ended xs b h in
    ⊎_elim
    (λ (same : b ≡ x.0).
    let k = ap (λ t. cond {A = ℕ} (not (t || ended x.0)) 1 0) (eq-eqb b x.0 same) in
    let l = ap (λ t. cond {A = ℕ} t 1 0) (eq-eqb x.0 b (sym same)) in
    let m = ap (λ t. cond {A = ℕ} (not t) 1 0) (subst (λ n. ended n ≡ false) same h) in
    omega (arith, a, d, e, rest, k, l, m))
    (λ (other : b ≡ x.0 → ⊥).
    let k = ap (λ t. cond {A = ℕ} (not (t || ended x.0)) 1 0) (ne_eqb b x.0 other) in
    let l = ap (λ t. cond {A = ℕ} t 1 0) (ne_eqb x.0 b (λ q. other (sym q))) in
    omega (arith, a, d, e, rest, k, l))
    (cases_eq b x.0)

-- all have ended where none is left
pub all_ended_is : (ended : ℕ → Bool) (blocks : List Blk) → list_all (λ (c : Blk). ended c.0) blocks ≡ (left_of ended blocks == 0)
all_ended_is ended [] = refl
all_ended_is ended (x ∷ xs) =
    let c = count_by-cons (λ (k : Blk). not (ended k.0)) x xs in
    elim (ended x.0) as (λ t. ended x.0 ≡ t → (t && list_all (λ (k : Blk). ended k.0) xs) ≡ (left_of ended (x ∷ xs) == 0)) [
      | true ↦ λ h.
          let here = ap (λ t. cond {A = ℕ} (not t) 1 0) h in
          all_ended_is ended xs ∙ ap (λ n. n == 0) (let e : left_of ended xs ≡ left_of ended (x ∷ xs) = omega (arith, c, here) in e)
      | false ↦ λ h.
          let here = ap (λ t. cond {A = ℕ} (not t) 1 0) h in
          sym (ne_eqb (left_of ended (x ∷ xs)) 0 (λ z. omega (arith, c, here, z)))
    ] refl
