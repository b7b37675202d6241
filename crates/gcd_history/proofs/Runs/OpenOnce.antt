-- An open run stands once among the open runs.
use Rattle.std.proofs.Common.{◌≡◌, ℕ, ◌≤◌, Bool, true, false, not, ◌&&◌, cond, List, [], ◌∷◌, ◌++◌, filter, refl, ap, sym, subst, arith, length}
use Rattle.std.specs.List.{count_by, list_any}
use Rattle.std.proofs.lemmas.Bool.{both_ways, false_from_ne_true, and_from, and_parts}
use Rattle.gcd_plan.specs.PlanView.{PlanView}
use Rattle.gcd_plan.specs.Kinds.{is_source, is_exclusive, is_exclusive_kind, is_source_kind}
use Rattle.gcd_plan.specs.declared.kind.Kind.{Kind}
use Rattle.gcd_plan.specs.declared.kind.Kind.TheVariants.{Serial}
use Rattle.gcd_plan.specs.Chains.{is_in}
use Rattle.gcd_plan.specs.declared.numbers.Obj.{Obj}
use Rattle.gcd_plan.specs.declared.numbers.Run.{Run}
use Rattle.gcd_plan.specs.declared.numbers.Run.TheVariants.{Block, Source}
use Rattle.gcd_plan.proofs.Within.{has_object}
use Rattle.gcd_event.specs.declared.event.Event.{Event}
use Rattle.gcd_event.specs.declared.event.Event.TheVariants.{Start, End, Deliver, DeliverEnd}
use Rattle.gcd_history.specs.Runs.{same_run, open_runs, is_open, is_started}
use Rattle.gcd_history.specs.Tree.{target, chain, chain_of_run, is_open_beneath}
use Rattle.gcd_history.specs.Permitted.{IsLawful, is_worker}
use Rattle.gcd_plan.proofs.Sums.{count_by_push}
use Rattle.gcd_plan.proofs.Sums.{count_by-cons, count_by_none}
use Rattle.gcd_history.proofs.Permitted.Reasons.{allowed, at_start}
use Rattle.gcd_plan.proofs.Walks.{in_own}
use Rattle.gcd_history.proofs.Runs.FreeAtStart.{deliver_begins_alone}
use Rattle.gcd_history.proofs.Runs.OpenNodes.{any_open}
use Rattle.gcd_history.proofs.Blocks.SubmittedOnNodes.{kind_implies}
use Rattle.gcd_history.proofs.Runs.Open.{same_run-true}
use Rattle.gcd_history.proofs.Blocks.StartedOnce.{started_from_open}

-- fewer where some are taken out
fewer : (p q : Run → Bool) (xs : List Run) → count_by p (filter q xs) ≤ count_by p xs
fewer p q [] = omega arith
fewer p q (x ∷ xs) =
    let rest = fewer p q xs in
    let whole = count_by-cons p x xs in
    elim (q x) as (λ v. count_by p (cond v (x ∷ filter q xs) (filter q xs)) ≤ count_by p (x ∷ xs)) [
      | true ↦ let one = count_by-cons p x (filter q xs) in omega (arith, rest, whole, one)
      | false ↦ omega (arith, rest, whole)
    ]

-- one that is not open yet is one afterwards
one_begins : (past : List Event) (new run : Run) → is_open past new ≡ false → count_by (same_run run) (open_runs past) ≤ 1 → count_by (same_run run) (open_runs past ++ new ∷ []) ≤ 1
one_begins past new run shut few =
    let push = count_by_push (same_run run) (open_runs past) new in
    elim (same_run run new) as (λ v. same_run run new ≡ v → count_by (same_run run) (open_runs past ++ new ∷ []) ≤ 1) [
      | true ↦ λ e.
          let none = count_by_none (same_run run) (open_runs past) (subst (λ r. list_any (same_run r) (open_runs past) ≡ false) (sym (same_run-true run new e)) shut) in
          let c = ap (λ v. cond {A = ℕ} v 1 0) e in
          omega (arith, push, none, c)
      | false ↦ λ e. let c = ap (λ v. cond {A = ℕ} v 1 0) e in omega (arith, push, few, c)
    ] refl

-- each open run stands once, where a Deliver finds its handler shut
pub open_once : (plan : PlanView) (past : List Event) → IsLawful plan past → ((w : ℕ) (s : Obj) (old : List Event) → IsLawful plan (Deliver w s ∷ old) → is_open old (Source s) ≡ false)
    → (run : Run) → count_by (same_run run) (open_runs past) ≤ 1
open_once plan [] lawful shut run = omega arith
open_once plan (Start w b ∷ past) lawful shut run =
    one_begins past (Block b) run
    (false_from_ne_true (is_open past (Block b)) (λ live. both_ways (is_started past b.0) (at_start plan past w b lawful.1).fresh (started_from_open past b live)))
    (open_once plan past lawful.0 shut run)
open_once plan (Deliver w s ∷ past) lawful shut run = one_begins past (Source s) run (shut w s past lawful) (open_once plan past lawful.0 shut run)
open_once plan (End w b ∷ past) lawful shut run =
    let few = open_once plan past lawful.0 shut run in let less = fewer (same_run run) (λ r. not (same_run (Block b) r)) (open_runs past) in omega (arith, few, less)
open_once plan (DeliverEnd w s ∷ past) lawful shut run =
    let few = open_once plan past lawful.0 shut run in let less = fewer (same_run run) (λ r. not (same_run (Source s) r)) (open_runs past) in omega (arith, few, less)
open_once plan (e ∷ past) lawful shut run = open_once plan past lawful.0 shut run

-- a Deliver finds its handler shut, since a source lets one run at a time be open beneath it
pub shut_at_deliver : (plan : PlanView) (past : List Event) (w : ℕ) (s : Obj) → IsLawful plan (Deliver w s ∷ past) → is_open past (Source s) ≡ false
shut_at_deliver plan past w s lawful =
    let source : is_source plan s.0 ≡ true = (and_parts (is_worker w) (is_source plan s.0) (allowed plan past (Deliver w s) lawful.1).known).1 in
    let low = has_object is_source_kind plan s.0 source in
    let inside : is_in s.0 (chain plan past s.0) ≡ true = in_own (target plan past) (length plan.objects) s.0 (omega (arith, low)) in
    let apart = (deliver_begins_alone plan past w s lawful.1).apart s.0 inside in
    let alone : is_exclusive plan s.0 ≡ true = kind_implies is_source_kind is_exclusive_kind plan s.0 excludes source in
    false_from_ne_true (is_open past (Source s)) (λ live.
    let beneath : is_open_beneath plan past s.0 ≡ true = any_open past (λ run. is_in s.0 (chain_of_run plan past run)) (Source s) live inside in
    both_ways (is_exclusive plan s.0 && is_open_beneath plan past s.0) apart (and_from (is_exclusive plan s.0) (is_open_beneath plan past s.0) alone beneath))
  where
    excludes : (kind : Kind) → is_source_kind kind ≡ true → is_exclusive_kind kind ≡ true
    excludes Serial h = refl
    excludes kind h = h

-- each open run stands once
pub stands_once : (plan : PlanView) (past : List Event) (run : Run) → IsLawful plan past → count_by (same_run run) (open_runs past) ≤ 1
stands_once plan past run lawful = open_once plan past lawful (λ w s old h. shut_at_deliver plan old w s h) run
