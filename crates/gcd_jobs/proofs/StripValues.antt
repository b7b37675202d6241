-- The values of a strip's blocks, from the first on.
use Rattle.std.proofs.Common.{◌≡◌, ℕ, ◌+◌, ◌-◌, ◌≤◌, arith, List, [], ◌∷◌, ◌++◌, map, Option, None, Some, refl, sym, ap, ◌∙◌}
use Rattle.std.specs.List.{range_with_len, slice_get}
use Rattle.std.specs.Option.{option_map_or}
use Rattle.std.proofs.lemmas.List.{map-append}
use Rattle.gcd_facts.proofs.Ranges.{range_more}
use Rattle.gcd_plan.specs.Made.{strip_span, blocks_in}
use Rattle.gcd_plan.specs.PlanView.{PlanView, StripView, work_of}
use Rattle.gcd_plan.specs.declared.numbers.Blk.{Blk}
use Rattle.gcd_history.specs.Values.{value_of, work_value}
use Rattle.gcd_jobs.specs.StripValues.{strip_values, values_from}

pub value_is : (plan : PlanView) (files : List (List ℕ)) (b : ℕ) → option_map_or (work_value files) (work_of plan b) 0 ≡ value_of plan files b
unfolding value_of
value_is plan files b = refl

pub values_of_strip : (plan : PlanView) (files : List (List ℕ)) (a : ℕ) (s : StripView) → slice_get plan.strips a ≡ Some s → values_from plan files s.first s.count ≡ strip_values plan files a
values_of_strip plan files a s at =
    through (range_with_len s.first s.count)
    ∙ sym (ap (λ (o : Option StripView). map (λ (b : Blk). value_of plan files b.0) (option_map_or (λ t. blocks_in (strip_span t)) o [])) at)
  where
    through : (bs : List ℕ) → map (value_of plan files) bs ≡ map (λ (b : Blk). value_of plan files b.0) (map (λ b. record { 0 = b }) bs)
    through [] = refl
    through (b ∷ bs) = ap (λ l. value_of plan files b ∷ l) (through bs)

pub no_strip : (plan : PlanView) (files : List (List ℕ)) (a : ℕ) → slice_get plan.strips a ≡ None → strip_values plan files a ≡ []
no_strip plan files a none = ap (λ (o : Option StripView). map (λ (b : Blk). value_of plan files b.0) (option_map_or (λ t. blocks_in (strip_span t)) o [])) none

pub values_more : (plan : PlanView) (files : List (List ℕ)) (first b : ℕ) → first ≤ b → values_from plan files first (b + 1 - first) ≡ values_from plan files first (b - first) ++ value_of plan files b ∷ []
values_more plan files first b low =
    let e : b + 1 - first ≡ (b - first) + 1 = omega (arith, low) in
    let f : first + (b - first) ≡ b = omega (arith, low) in
    ap (values_from plan files first) e
    ∙ (ap (map (value_of plan files)) (range_more first (b - first))
    ∙ (map-append (value_of plan files) (range_with_len first (b - first)) ((first + (b - first)) ∷ [])
    ∙ ap (λ k. values_from plan files first (b - first) ++ value_of plan files k ∷ []) f))
