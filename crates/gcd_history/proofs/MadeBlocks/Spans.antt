-- Where the blocks of the intake and of the strips stand in a history's plan: each is in one span alone, and which of n blocks in
-- a row is the first that passes a test.
use Rattle.std.proofs.Common.{◌≡◌, ⊎_elim, ℕ, zero, suc, ◌+◌, ◌<◌, ◌≤◌, Bool, true, false, cond, ◌==◌, List, length, map, Some, None, count_by, find, refl, ap, ◌∙◌, subst, arith}
use Rattle.std.specs.List.{list_any, slice_get, range_with_len}
use Rattle.std.specs.Option.{option_map_or, option_to_list}
use Rattle.std.proofs.lemmas.Bool.{or_left, cases_eq, false_from_ne_true}
use Rattle.std.proofs.lemmas.Option.{same_Some, slice_get_within, get_or_from_slice_get}
use Rattle.std.proofs.lemmas.List.Folds.{list_any_at}
use Rattle.gcd_plan.specs.PlanView.{PlanView, IntakeView, StripView}
use Rattle.gcd_plan.specs.Made.{is_within, intake_span, strip_span, is_made, is_of_intake, is_of_strip, strip_blocks}
use Rattle.gcd_plan.specs.Validity.{IsPlan}
use Rattle.gcd_plan.specs.declared.numbers.Blk.{Blk}
use Rattle.gcd_plan.proofs.MadeBlocks.{within_parts, without}
use Rattle.gcd_plan.proofs.Spans.{among_from, made_of_intake, intake_of_plan}
use Rattle.gcd_plan.proofs.Submits.{blocks_counted}
use Rattle.gcd_plan.proofs.Sums.{count_by-append, count_by_some}
use Rattle.gcd_history.proofs.Lists.{any_map}

abbrev pub has_number : ℕ → Blk → Bool
has_number b c = c.0 == b

-- n blocks, from number a on
abbrev pub blocks_from : ℕ → ℕ → List Blk
blocks_from a n = map (λ b. record { 0 = b }) (range_with_len a n)

-- ## Strips

-- a number that is within no strip's span is no block of a strip
pub in_no_strip : (plan : PlanView) (b : ℕ) → ((a : ℕ) (s : StripView) → slice_get plan.strips a ≡ Some s → is_within b (strip_span s) ≡ false) → (a : ℕ) → count_by (has_number b) (strip_blocks plan a) ≡ 0
in_no_strip plan b out a =
    let none : is_of_strip plan a b ≡ false = elim (slice_get plan.strips a) as (λ o. slice_get plan.strips a ≡ o → option_map_or (λ s. is_within b (strip_span s)) o false ≡ false) [
      | None ↦ λ k. refl
      | Some s ↦ λ k. out a s k
    ] refl in
    blocks_counted plan a b ∙ ap (λ v. cond {A = ℕ} v 1 0) none

-- main is in none
pub main_in_no_strip : (plan : PlanView) → IsPlan plan → (a : ℕ) → count_by (has_number 0) (strip_blocks plan a) ≡ 0
main_in_no_strip plan valid = in_no_strip plan 0 (λ a s at.
    let among = among_from plan (strip_span s) (valid.strips a s at).among in
    without 0 (strip_span s) (λ low high. omega (arith, among.0, low)))

-- a number that the plan does not have is in none
pub beyond_in_no_strip : (plan : PlanView) (b : ℕ) → IsPlan plan → length plan.blocks ≤ b → (a : ℕ) → count_by (has_number b) (strip_blocks plan a) ≡ 0
beyond_in_no_strip plan b valid beyond = in_no_strip plan b (λ a s at.
    let among = among_from plan (strip_span s) (valid.strips a s at).among in
    without b (strip_span s) (λ low high. omega (arith, among.1, high, beyond)))

-- ## The intake

-- what is of the intake is within its span
pub of_intake : (plan : PlanView) (b : ℕ) → is_of_intake plan b ≡ true → (i : IntakeView) × (plan.intake ≡ Some i) × (is_within b (intake_span i) ≡ true)
of_intake plan b h =
    elim plan.intake as (λ o. plan.intake ≡ o → option_map_or (λ i. is_within b (intake_span i)) o false ≡ true → (i : IntakeView) × (plan.intake ≡ Some i) × (is_within b (intake_span i) ≡ true)) [
      | None ↦ λ at k. cc
      | Some i ↦ λ at k. (i, at, k)
    ] refl h

-- a block of the intake is made by the plan
pub intake_is_made : (plan : PlanView) (b : ℕ) → is_of_intake plan b ≡ true → is_made plan b ≡ true
intake_is_made plan b h = let i = of_intake plan b h in made_of_intake plan i.0 i.1 b i.2

-- its span is the intake's, and a strip's span is of a strip
intake_listed : (plan : PlanView) (b : ℕ) (i : IntakeView) → plan.intake ≡ Some i → is_within b (intake_span i) ≡ true → list_any (is_within b) (map intake_span (option_to_list plan.intake)) ≡ true
intake_listed plan b i at within = ap (λ o. list_any (is_within b) (map intake_span (option_to_list o))) at ∙ or_left (is_within b (intake_span i)) false within

strip_listed : (plan : PlanView) (b a : ℕ) (s : StripView) → slice_get plan.strips a ≡ Some s → is_within b (strip_span s) ≡ true → list_any (is_within b) (map strip_span plan.strips) ≡ true
strip_listed plan b a s at within =
    any_map (is_within b) strip_span plan.strips
    (list_any_at (λ t. is_within b (strip_span t)) plan.strips a s (slice_get_within plan.strips a s at)
    (ap (λ t. is_within b (strip_span t)) (get_or_from_slice_get plan.strips a s s at) ∙ within))

-- and in no strip
pub intake_in_no_strip : (plan : PlanView) (b : ℕ) → IsPlan plan → is_of_intake plan b ≡ true → (a : ℕ) → count_by (has_number b) (strip_blocks plan a) ≡ 0
intake_in_no_strip plan b valid h =
    let i = of_intake plan b h in
    let left = count_by_some (is_within b) (map intake_span (option_to_list plan.intake)) (intake_listed plan b i.0 i.1 i.2) in
    let split = count_by-append (is_within b) (map intake_span (option_to_list plan.intake)) (map strip_span plan.strips) in
    let once = valid.apart b in
    in_no_strip plan b (λ a s at. false_from_ne_true (is_within b (strip_span s)) (λ within.
    let right = count_by_some (is_within b) (map strip_span plan.strips) (strip_listed plan b a s at within) in
    omega (arith, left, split, once, right)))

-- the intake's blocks stand behind main, and within the plan
pub record Inside (plan : PlanView) (b : ℕ) : Type 0 where
  pub behind : 1 ≤ b
  pub within : b < length plan.blocks

pub intake_inside : (plan : PlanView) (b : ℕ) → IsPlan plan → is_of_intake plan b ≡ true → Inside plan b
intake_inside plan b valid of =
    let i = of_intake plan b of in
    let parts = within_parts b (intake_span i.0) i.2 in
    let among = among_from plan (intake_span i.0) (intake_of_plan plan valid i.0 i.1).among in
    record { behind = omega (arith, parts.0, among.0); within = omega (arith, parts.1, among.1) }

-- ## The first that passes

-- what is found among n blocks, from a on, is one of them, and none before it passes
pub record IsFirst (p : ℕ → Bool) (a n b : ℕ) : Type 0 where
  pub low : a ≤ b
  pub high : b < a + n
  pub passes : p b ≡ true
  pub none_before : (k : ℕ) → a ≤ k → k < b → p k ≡ false

pub first_of_span : (p : ℕ → Bool) (a n : ℕ) (b : Blk) → find (λ c. p c.0) (blocks_from a n) ≡ Some b → IsFirst p a n b.0
first_of_span p a zero b h = cc
first_of_span p a (suc n) b h =
    elim (p a) as (λ v. p a ≡ v → cond v (Some (record { 0 = a })) (find (λ c. p c.0) (blocks_from (a + 1) n)) ≡ Some b → IsFirst p a (suc n) b.0) [
      | true ↦ λ e k.
          let same : a ≡ b.0 = ap (λ c. c.0) (same_Some (record { 0 = a }) b k) in
          record {
            low = omega (arith, same);
            high = omega (arith, same);
            passes = subst (λ m. p m ≡ true) same e;
            none_before = λ m low high. absurd (omega (arith, same, low, high));
          }
      | false ↦ λ e k.
          let rest = first_of_span p (a + 1) n b k in
          let low = rest.low in
          let high = rest.high in
          record {
            low = omega (arith, low);
            high = omega (arith, high);
            passes = rest.passes;
            none_before = λ m above below. ⊎_elim
                (λ same. subst (λ j. p j ≡ false) same e)
                (λ other. let next : a + 1 ≤ m = grind arith in rest.none_before m next below)
                (cases_eq a m);
          }
    ] refl h
