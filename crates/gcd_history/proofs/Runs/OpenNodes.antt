-- The nodes of runs: they are queues or sources, and stay as they are.
use Rattle.std.proofs.Common.{◌≡◌, ◌⊎◌, inl, inr, ⊎_elim, ℕ, Bool, true, false, not, ◌&&◌, cond, ◌==◌, List, [], ◌∷◌, Some, None, is_some, find, option_and_then, option_map, refl, ap, sym, ◌∙◌, subst}
use Rattle.std.specs.List.{list_any, list_all}
use Rattle.std.specs.Option.{option_map_or}
use Rattle.std.proofs.lemmas.Bool.{eqb-true, eq-eqb, or_cases, or_left, or_right, and_parts}
use Rattle.std.proofs.lemmas.Option.{same_Some}
use Rattle.gcd_plan.specs.PlanView.{PlanView}
use Rattle.gcd_plan.specs.Kinds.{is_node, is_source}
use Rattle.gcd_plan.specs.Validity.{IsPlan}
use Rattle.gcd_plan.specs.declared.numbers.Blk.{Blk}
use Rattle.gcd_plan.specs.declared.numbers.Obj.{Obj}
use Rattle.gcd_plan.specs.declared.numbers.Run.{Run}
use Rattle.gcd_plan.specs.declared.numbers.Run.TheVariants.{Block, Source}
use Rattle.gcd_event.specs.declared.event.Event.{Event}
use Rattle.gcd_event.specs.declared.event.Event.TheVariants.{Start, Deliver}
use Rattle.gcd_history.specs.declared.submission.Submission.{Submission}
use Rattle.gcd_history.specs.Runs.{same_run, opens, open_runs, is_open}
use Rattle.gcd_history.specs.Submitted.{submitted, submission_of}
use Rattle.gcd_history.specs.Tree.{node_of_run, is_run_on, is_open_on}
use Rattle.gcd_history.specs.Permitted.{IsLawful, is_worker}
use Rattle.gcd_plan.proofs.Options.{some_from_is_some, some_from_eqb}
use Rattle.gcd_history.proofs.Runs.Open.{closes, same_run-true, same_run-refl, is_open-step}
use Rattle.gcd_history.proofs.Permitted.Reasons.{allowed, at_start}
use Rattle.gcd_history.proofs.Blocks.StartedOnce.{started_from_open, submitted_from_started, submission_of-kept}
use Rattle.gcd_history.proofs.Blocks.SubmittedOnNodes.{on_a_node, submitted_fit, source_is_node}

-- ## Open runs

-- a run that is open after the event began now, or was open before
pub open_cases : (e : Event) (past : List Event) (run : Run) → is_open (e ∷ past) run ≡ true → (opens e run ≡ true) ⊎ (is_open past run ≡ true)
open_cases e past run live =
    ⊎_elim (λ now. inl now) (λ old. inr (and_parts (not (closes e run)) (is_open past run) old).1)
    (or_cases (opens e run) (not (closes e run) && is_open past run) (sym (is_open-step e past run) ∙ live))

any_same : (test : Run → Bool) (q : Run) (runs : List Run) → list_any (same_run q) runs ≡ true → test q ≡ true → list_any test runs ≡ true
any_same test q [] live h = cc
any_same test q (r ∷ runs) live h =
    ⊎_elim
    (λ here. or_left (test r) (list_any test runs) (ap test (sym (same_run-true q r here)) ∙ h))
    (λ later. or_right (test r) (list_any test runs) (any_same test q runs later h))
    (or_cases (same_run q r) (list_any (same_run q) runs) live)

same_any : (test : Run → Bool) (runs : List Run) → list_any test runs ≡ true → (q : Run) × (list_any (same_run q) runs ≡ true) × (test q ≡ true)
same_any test [] h = cc
same_any test (r ∷ runs) h =
    ⊎_elim
    (λ here. (r, or_left (same_run r r) (list_any (same_run r) runs) (same_run-refl r), here))
    (λ later. let found = same_any test runs later in (found.0, or_right (same_run found.0 r) (list_any (same_run found.0) runs) found.1, found.2))
    (or_cases (test r) (list_any test runs) h)

-- an open run passes, so one of the open runs does
pub any_open : (past : List Event) (test : Run → Bool) (q : Run) → is_open past q ≡ true → test q ≡ true → list_any test (open_runs past) ≡ true
any_open past test q live h = any_same test q (open_runs past) live h

-- and the other way round
pub open_any : (past : List Event) (test : Run → Bool) → list_any test (open_runs past) ≡ true → (q : Run) × (is_open past q ≡ true) × (test q ≡ true)
open_any past test h = same_any test (open_runs past) h

-- a run on o is open
pub open_on_from : (plan : PlanView) (past : List Event) (q : Run) (o : ℕ) → is_open past q ≡ true → node_of_run plan past q ≡ Some o → is_open_on plan past o ≡ true
open_on_from plan past q o live node =
    any_open past (is_run_on plan past o) q live (ap (λ k. option_map_or (λ n. n == o) k false) node ∙ eq-eqb o o refl)

pub open_on_to : (plan : PlanView) (past : List Event) (o : ℕ) → is_open_on plan past o ≡ true → (q : Run) × (is_open past q ≡ true) × (node_of_run plan past q ≡ Some o)
open_on_to plan past o h =
    let found = open_any past (is_run_on plan past o) h in
    (found.0, found.1, some_from_eqb (node_of_run plan past found.0) o found.2)

-- ## Nodes stay

node_kept : (plan : PlanView) (e : Event) (past : List Event) (b : Blk) → is_some (submission_of plan past b.0) ≡ true → node_of_run plan (e ∷ past) (Block b) ≡ node_of_run plan past (Block b)
node_kept plan e past b some =
    let s = some_from_is_some (submission_of plan past b.0) some in
    let stays : submission_of plan (e ∷ past) b.0 ≡ submission_of plan past b.0 = submission_of-kept plan e past b.0 s.0 s.1 ∙ sym s.1 in
    ap (λ o. option_map (λ q. q.0) (option_and_then (λ t. t.node) o)) stays

pub node_kept_open : (plan : PlanView) (e : Event) (past : List Event) → IsLawful plan past → (q : Run) → is_open past q ≡ true → node_of_run plan (e ∷ past) q ≡ node_of_run plan past q
node_kept_open plan e past h (Block b) live = node_kept plan e past b (submitted_from_started plan past h b.0 (started_from_open past b live))
node_kept_open plan e past h (Source s) live = refl

-- the run that the event begins has its node already
pub node_kept_begun : (plan : PlanView) (e : Event) (past : List Event) → IsLawful plan (e ∷ past) → (q : Run) → opens e q ≡ true → node_of_run plan (e ∷ past) q ≡ node_of_run plan past q
node_kept_begun plan (Start w c) past h (Block b) now =
    node_kept plan (Start w c) past b (subst (λ n. is_some (submission_of plan past n) ≡ true) (eqb-true c.0 b.0 now) (at_start plan past w c h.1).submitted_one)
node_kept_begun plan e past h (Source s) now = refl
node_kept_begun plan e past h (Block b) now = cc

-- ## Nodes are queues or sources

found_fits : (plan : PlanView) (p : Submission → Bool) (xs : List Submission) (n : ℕ) → list_all (on_a_node plan) xs ≡ true → option_map (λ o. o.0) (option_and_then (λ s. s.node) (find p xs)) ≡ Some n → is_node plan n ≡ true
found_fits plan p [] n all is = cc
found_fits plan p (s ∷ xs) n all is =
    let parts = and_parts (on_a_node plan s) (list_all (on_a_node plan) xs) all in
    elim (p s) as (λ v. option_map (λ o. o.0) (option_and_then (λ t. t.node) (cond v (Some s) (find p xs))) ≡ Some n → is_node plan n ≡ true) [
      | true ↦ λ k. elim s.node as (λ o. option_map_or (λ q. is_node plan q.0) o (s.blk.0 == 0) ≡ true → option_map (λ q. q.0) o ≡ Some n → is_node plan n ≡ true) [
        | None ↦ λ a b. cc
        | Some q ↦ λ a b. subst (λ m. is_node plan m ≡ true) (same_Some q.0 n b) a
      ] parts.0 k
      | false ↦ λ k. found_fits plan p xs n parts.1 k
    ] is

pub begun_source : (plan : PlanView) (past : List Event) (e : Event) (s : Obj) → IsLawful plan (e ∷ past) → opens e (Source s) ≡ true → is_source plan s.0 ≡ true
begun_source plan past (Deliver w t) s h now =
    subst (λ n. is_source plan n ≡ true) (eqb-true t.0 s.0 now) (and_parts (is_worker w) (is_source plan t.0) (allowed plan past (Deliver w t) h.1).known).1
begun_source plan past e s h now = cc

-- an open handler is a source's
pub open_source : (plan : PlanView) (past : List Event) (s : Obj) → IsLawful plan past → is_open past (Source s) ≡ true → is_source plan s.0 ≡ true
open_source plan [] s h live = cc
open_source plan (e ∷ past) s h live =
    ⊎_elim (λ now. begun_source plan past e s h now) (λ old. open_source plan past s h.0 old) (open_cases e past (Source s) live)

-- the node of an open run is a queue or source
pub open_node : (plan : PlanView) (past : List Event) (q : Run) (n : ℕ) → IsPlan plan → IsLawful plan past → is_open past q ≡ true → node_of_run plan past q ≡ Some n → is_node plan n ≡ true
open_node plan past (Block b) n valid h live node = found_fits plan (λ s. s.blk.0 == b.0) (submitted plan past) n (submitted_fit plan past valid) node
open_node plan past (Source s) n valid h live node = subst (λ m. is_node plan m ≡ true) (same_Some s.0 n node) (source_is_node plan s.0 (open_source plan past s h live))
