-- One place more of a range.
use Rattle.std.proofs.Common.{◌≡◌, ℕ, ◌+◌, ◌-◌, ◌≤◌, [], ◌∷◌, ◌++◌, Option, Some, None, refl, ap, ◌∙◌, arith}
use Rattle.std.specs.Option.{option_to_list}
use Rattle.std.specs.List.{filter_map, range_with_len, cons_option}
use Rattle.std.proofs.lemmas.List.Elements.{filter_map-append}
use Rattle.gcd_facts.proofs.Ranges.{range_more}

pub one_of : {X : Type 0} {Y : Type 0} → (h : X → Option Y) (x : X) → filter_map h (x ∷ []) ≡ option_to_list (h x)
one_of h x = elim (h x) as (λ v. cons_option v [] ≡ option_to_list v) [ None ↦ refl | Some y ↦ refl ]

-- what is told of each place of a range, one place on
pub told_more : {Y : Type 0} → (h : ℕ → Option Y) (a n : ℕ)
    → filter_map h (range_with_len a (n + 1)) ≡ filter_map h (range_with_len a n) ++ option_to_list (h (a + n))
told_more h a n =
    ap (filter_map h) (range_more a n)
    ∙ filter_map-append h (range_with_len a n) ((a + n) ∷ [])
    ∙ ap (λ ys. filter_map h (range_with_len a n) ++ ys) (one_of h (a + n))

-- the same, where the range ends before place i
pub told_next : {Y : Type 0} → (h : ℕ → Option Y) (a i : ℕ) → a ≤ i
    → filter_map h (range_with_len a (i + 1 - a)) ≡ filter_map h (range_with_len a (i - a)) ++ option_to_list (h i)
told_next h a i le =
    let more : i + 1 - a ≡ i - a + 1 = omega arith in
    let at : a + (i - a) ≡ i = omega arith in
    ap (λ n. filter_map h (range_with_len a n)) more
    ∙ told_more h a (i - a)
    ∙ ap (λ k. filter_map h (range_with_len a (i - a)) ++ option_to_list (h k)) at

-- the same of a range from 0 on
pub told_first : {Y : Type 0} → (h : ℕ → Option Y) (i : ℕ)
    → filter_map h (range_with_len 0 (i + 1)) ≡ filter_map h (range_with_len 0 i) ++ option_to_list (h i)
told_first h i =
    let at : 0 + i ≡ i = omega arith in
    told_more h 0 i ∙ ap (λ k. filter_map h (range_with_len 0 i) ++ option_to_list (h k)) at
