-- First targets lead to root: what one more object, and a change of an object, keep.
use Rattle.std.proofs.Common.{ℕ, zero, suc, ◌≡◌, ◌<◌, ◌≤◌, ◌+◌, true, List, [], ◌∷◌, ◌++◌, length, Some, sym, ap, ◌∙◌, subst, add-one, arith, ⊎_elim}
use Rattle.std.specs.List.{slice_get}
use Rattle.std.specs.Option.{option_map_or}
use Rattle.std.proofs.lemmas.Bool.{cases_lt}
use Rattle.std.proofs.lemmas.List.{length_push}
use Rattle.gcd_plan.specs.PlanView.{PlanView, ObjView, first_target}
use Rattle.gcd_plan.specs.Chains.{chain_by, is_in}
use Rattle.gcd_plan.specs.Validity.{IsPlan, reaches_root}
use Rattle.gcd_plan.proofs.Places.{slice_get_kept, slice_get-append_left, slice_get-append_seam}
use Rattle.gcd_plan.proofs.Walks.{chain_agree, in_cases, in_longer, in_rest}
use Rattle.gcd_plan.proofs.Within.{target_within}

-- the first element stays where more follow
pub first_kept : {X : Type 0} (xs ys : List X) (x : X) → slice_get xs 0 ≡ Some x → slice_get (xs ++ ys) 0 ≡ Some x
first_kept xs ys x h = slice_get_kept xs ys 0 x h

-- a chain stays within the plan
chain_within : (plan : PlanView) → IsPlan plan → (bound n : ℕ) → n < length plan.objects → (o : ℕ) → is_in o (chain_by (first_target plan) bound n) ≡ true → o < length plan.objects
chain_within plan valid zero n within o h = cc
chain_within plan valid (suc bound) n within o h =
    ⊎_elim
    (λ (here : n ≡ o). subst (λ m. m < length plan.objects) here within)
    (λ later. chain_within plan valid bound (first_target plan n) (target_within plan valid n within) o later.1)
    (in_cases (first_target plan) bound n o h)

-- where the first targets of a plan's objects stay, and one more object may stand, its objects reach root as before
old_reach : (plan new : PlanView) → IsPlan plan → length plan.objects ≤ length new.objects → ((o : ℕ) → o < length plan.objects → first_target new o ≡ first_target plan o) → (o : ℕ) → o < length plan.objects → is_in 0 (chain_by (first_target new) (length plan.objects) o) ≡ true
old_reach plan new valid more same o within =
    ap (is_in 0) (chain_agree (first_target plan) (first_target new) (length plan.objects) o
    (λ n inside. same n (chain_within plan valid (length plan.objects) o within n inside)))
    ∙ valid.targets o within

-- a change that keeps first targets
pub same_targets_reach : (plan new : PlanView) → IsPlan plan → length new.objects ≡ length plan.objects → ((o : ℕ) → o < length plan.objects → first_target new o ≡ first_target plan o) → (o : ℕ) → o < length new.objects → reaches_root new o ≡ true
same_targets_reach plan new valid count same o within =
    subst (λ n. is_in 0 (chain_by (first_target new) n o) ≡ true) (sym count) (old_reach plan new valid (omega arith) same o (omega arith))

-- one more object, on a target of the plan
pub one_more_reaches : (plan new : PlanView) (object : ObjView) → IsPlan plan → new.objects ≡ plan.objects ++ object ∷ [] → object.target.0 < length plan.objects → (o : ℕ) → o < length new.objects → reaches_root new o ≡ true
one_more_reaches plan new object valid made target o within =
    let count : length new.objects ≡ length plan.objects + 1 = ap length made ∙ length_push plan.objects object in
    let same : (n : ℕ) → n < length plan.objects → first_target new n ≡ first_target plan n = λ n h.
    ap (λ os. option_map_or (λ (obj : ObjView). obj.target.0) (slice_get os n) 0) made
    ∙ ap (λ v. option_map_or (λ (obj : ObjView). obj.target.0) v 0) (slice_get-append_left plan.objects (object ∷ []) n h)
    in
    let old : (n : ℕ) → n < length plan.objects → is_in 0 (chain_by (first_target new) (length plan.objects) n) ≡ true = old_reach plan new valid (omega arith) same in
    subst (λ n. is_in 0 (chain_by (first_target new) n o) ≡ true) (sym (count ∙ add-one (length plan.objects)))
    (⊎_elim
    (λ (inside : o < length plan.objects). in_longer (first_target new) (length plan.objects) (suc (length plan.objects)) o 0 (omega arith) (old o inside))
    (λ (outside : length plan.objects ≤ o).
    let last : o ≡ length plan.objects = omega arith in
    let own : first_target new o ≡ object.target.0 =
    ap (λ os. option_map_or (λ (obj : ObjView). obj.target.0) (slice_get os o) 0) made
    ∙ ap (λ n. option_map_or (λ (obj : ObjView). obj.target.0) (slice_get (plan.objects ++ object ∷ []) n) 0) last
    ∙ ap (λ v. option_map_or (λ (obj : ObjView). obj.target.0) v 0) (slice_get-append_seam plan.objects object [])
    in
    let above : 0 < o = omega arith in
    in_rest (first_target new) (length plan.objects) o 0 (λ none. omega arith)
    (subst (λ t. is_in 0 (chain_by (first_target new) (length plan.objects) t) ≡ true) (sym own) (old object.target.0 target)))
    (cases_lt o (length plan.objects)))
