-- What sources count and add up is small.
use Rattle.std.proofs.Common.{◌≡◌, ◌≤◌, ℕ, ◌+◌, ◌-◌, ◌*◌, ◌==◌, Bool, true, false, ◌&&◌, cond, ltb, leb, List, [], ◌∷◌, ◌++◌, length, map, filter, reverse, fold, Some, None, refl, ap, arith}
use Rattle.std.specs.List.{sum_by, range_with_len}
use Rattle.std.specs.Option.{option_map_or}
use Rattle.std.proofs.lemmas.Bool.{and_parts, leb-true}
use Rattle.std.proofs.lemmas.List.{append-nil, length-reverse}
use Rattle.std.proofs.lemmas.List.FromFn.{length-range_with_len}
use Rattle.std.proofs.lemmas.List.Sums.{sum_by-cons, fold-append, fold_push, count_by-le-length}
use Rattle.gcd_plan.specs.Limits.{max_value}
use Rattle.gcd_plan.specs.PlanView.{PlanView, kind_of}
use Rattle.gcd_plan.specs.Kinds.{has_kind, is_merge_kind}
use Rattle.gcd_plan.specs.KindValues.{folded}
use Rattle.gcd_plan.specs.Validity.{IsPlan, is_act}
use Rattle.gcd_plan.specs.declared.act.Act.{Act}
use Rattle.gcd_plan.specs.declared.act.Act.TheVariants.{Merge}
use Rattle.gcd_plan.specs.declared.kind.Kind.{Kind}
use Rattle.gcd_plan.proofs.Folded.{folded_low}
use Rattle.gcd_event.specs.declared.event.Event.{Event}
use Rattle.gcd_event.specs.declared.event.Event.TheVariants.{Act as Acted, Tick, Ready}
use Rattle.gcd_history.specs.Runs.{act_of}
use Rattle.gcd_history.specs.Timers.{now, is_due}
use Rattle.gcd_history.specs.Sources.{fold_of, input, has_effect_at, merged_by, delivers, new_inputs, pending, handed, received, last_data}
use Rattle.gcd_history.specs.Permitted.{IsLawful as IsLawfulAfter, is_feed}
use Rattle.gcd_history.specs.History.{IsLawful, delivery_count_of, received_of, last_data_of}
use Rattle.gcd_history.proofs.Permitted.Lawful.{lawful_after}
use Rattle.gcd_history.proofs.Permitted.Reasons.{allowed}
use Rattle.gcd_history.proofs.Blocks.SubmittedOnNodes.{recorded_fits}
use Rattle.gcd_history.specs.Cells.{TotalsFit}

-- the sum of the values
abbrev total : List ℕ → ℕ
total xs = sum_by (λ x. x) xs

fold_low : (kind : Kind) (a : ℕ) (xs : List ℕ) → fold (folded kind) a xs ≤ a + total xs
fold_low kind a [] = omega arith
fold_low kind a (x ∷ xs) =
    let rest = fold_low kind (folded kind a x) xs in
    let one = folded_low kind a x in
    let sum = sum_by-cons (λ y. y) x xs in
    omega (arith, rest, one, sum)

-- ## What an event adds

ones_low : (p : ℕ → Bool) (xs : List ℕ) → total (map (λ t. 1) (filter p xs)) ≤ length xs
ones_low p [] = omega arith
ones_low p (x ∷ xs) =
    let rest = ones_low p xs in
    elim (p x) as (λ v. total (map (λ t. 1) (cond v (x ∷ filter p xs) (filter p xs))) ≤ length (x ∷ xs)) [
      | true ↦ let sum = sum_by-cons (λ y. y) 1 (map (λ t. 1) (filter p xs)) in omega (arith, rest, sum)
      | false ↦ omega (arith, rest)
    ]

nothing_low : (xs : List ℕ) → xs ≡ [] → total xs ≤ max_value
nothing_low [] h = omega arith
nothing_low (x ∷ xs) h = cc

one_low : (v : Bool) (n : ℕ) → n ≤ max_value → total (cond v (n ∷ []) []) ≤ max_value
one_low true n h = let sum = sum_by-cons (λ y. y) n [] in omega (arith, sum)
one_low false n h = omega arith

merged_low : (plan : PlanView) (s : ℕ) (act : Act) → is_act plan act ≡ true → total (merged_by plan s (Some act)) ≤ max_value
merged_low plan s (Merge t n) fits = one_low (t.0 == s && has_effect_at plan s n) n (leb-true n max_value (and_parts (has_kind is_merge_kind plan t.0) (leb n max_value) fits).1)
merged_low plan s act fits = nothing_low (merged_by plan s (Some act)) refl

act_low : (plan : PlanView) (e : Event) (s : ℕ) → IsPlan plan → total (merged_by plan s (act_of plan e)) ≤ max_value
act_low plan e s valid =
    elim (act_of plan e) as (λ o. act_of plan e ≡ o → total (merged_by plan s o) ≤ max_value) [
      | None ↦ λ none. omega arith
      | Some act ↦ λ some. merged_low plan s act (recorded_fits plan e act valid some)
    ] refl

input_low : (plan : PlanView) (past : List Event) (e : Event) (s : ℕ) → IsPlan plan → IsLawfulAfter plan (e ∷ past) → total (input plan past e s) ≤ max_value
input_low plan past (Ready t n) s valid h =
    let known = and_parts (is_feed plan t.0) (ltb 0 n && leb n max_value) (allowed plan past (Ready t n) h.1).known in
    one_low (t.0 == s) n (leb-true n max_value (and_parts (ltb 0 n) (leb n max_value) known.1).1)
input_low plan past (Tick t) s valid h =
    let low = leb-true t 86400000 (and_parts (ltb 0 t) (leb t 86400000) (allowed plan past (Tick t) h.1).known).1 in
    let ones = ones_low (is_due plan past s) (range_with_len (now past + 1) (t - now past)) in
    let long = length-range_with_len (now past + 1) (t - now past) in
    omega (arith, low, ones, long)
input_low plan past (Acted w r i) s valid h = act_low plan (Acted w r i) s valid
input_low plan past e s valid h = nothing_low (input plan past e s) refl

-- ## Sums over histories

-- what was handed over, with what is new
both_low : (plan : PlanView) (past : List Event) (s : ℕ) (kind : Kind) → IsPlan plan → IsLawfulAfter plan past → kind_of plan s ≡ Some kind →
    fold_of kind (handed plan past s) + fold_of kind (new_inputs plan past s) ≤ max_value * length past
both_low plan [] s kind valid h is = omega arith
both_low plan (e ∷ past) s kind valid h is =
    let old = both_low plan past s kind valid h.0 is in
    let value : pending plan past s ≡ fold_of kind (new_inputs plan past s) = ap (λ o. option_map_or (λ k. fold_of k (new_inputs plan past s)) o 0) is in
    elim (delivers s e) as (λ v.
    fold_of kind (handed plan past s ++ cond v (pending plan past s ∷ []) []) + fold_of kind (cond v [] (new_inputs plan past s ++ input plan past e s)) ≤ max_value * length (e ∷ past)) [
      | true ↦
          let push = fold_push (folded kind) 0 (handed plan past s) (pending plan past s) in
          let low = folded_low kind (fold_of kind (handed plan past s)) (pending plan past s) in
          omega (arith, old, value, push, low)
      | false ↦
          let same = ap (fold_of kind) (append-nil (handed plan past s)) in
          let more = fold-append (folded kind) 0 (new_inputs plan past s) (input plan past e s) in
          let low = fold_low kind (fold_of kind (new_inputs plan past s)) (input plan past e s) in
          let few = input_low plan past e s valid h in
          omega (arith, old, same, more, low, few)
    ]

-- what is pending, and what was handed over
parts_low : (plan : PlanView) (past : List Event) (s : ℕ) → IsPlan plan → IsLawfulAfter plan past → (received plan past s ≤ max_value * length past) × (pending plan past s ≤ max_value * length past)
parts_low plan past s valid h =
    elim (kind_of plan s) as (λ o. kind_of plan s ≡ o →
    (option_map_or (λ kind. fold_of kind (handed plan past s)) o 0 ≤ max_value * length past) × (option_map_or (λ kind. fold_of kind (new_inputs plan past s)) o 0 ≤ max_value * length past)) [
      | None ↦ λ is. (omega arith, omega arith)
      | Some kind ↦ λ is. let both = both_low plan past s kind valid h is in (omega (arith, both), omega (arith, both))
    ] refl

data_low : (plan : PlanView) (past : List Event) (s : ℕ) → IsPlan plan → IsLawfulAfter plan past → last_data plan past s ≤ max_value * length past
data_low plan [] s valid h = omega arith
data_low plan (e ∷ past) s valid h =
    let rest = data_low plan past s valid h.0 in
    let new = (parts_low plan past s valid h.0).1 in
    elim (delivers s e) as (λ v. cond v (pending plan past s) (last_data plan past s) ≤ max_value * length (e ∷ past)) [
      | true ↦ omega (arith, new)
      | false ↦ omega (arith, rest)
    ]

pub totals_fit : (plan : PlanView) (h : List Event) (s : ℕ) → IsPlan plan → IsLawful plan h → TotalsFit plan h s
unfolding delivery_count_of received_of last_data_of
totals_fit plan h s valid lawful =
    let past = lawful_after plan h lawful in
    let long = length-reverse h in
    let value = data_low plan (reverse h) s valid past in
    let sum = (parts_low plan (reverse h) s valid past).0 in
    let times = count_by-le-length (delivers s) (reverse h) in
    record { times = omega (arith, long, times); value = omega (arith, long, value); total = omega (arith, long, sum) }
