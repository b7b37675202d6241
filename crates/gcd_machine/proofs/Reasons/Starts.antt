-- Why a block may not start, as what a machine keeps tells it.
use Rattle.std.proofs.Common.{◌≡◌, ⊎_elim, ℕ, ◌==◌, Bool, true, false, not, ◌&&◌, cond, List, [], ◌∷◌, filter, Option, Some, None, is_some, option_map, option_and_then, refl, ap, sym, ◌∙◌, subst}
use Rattle.std.specs.List.{slice_get}
use Rattle.std.specs.Option.{option_map_or}
use Rattle.std.proofs.lemmas.Bool.{cases_Bool, cases_eq, and_from, eqb-true, eq-eqb, ne_eqb}
use Rattle.std.proofs.lemmas.Option.{slice_get-map}
use Rattle.gcd_plan.specs.PlanView.{PlanView}
use Rattle.gcd_plan.specs.Validity.{IsPlan}
use Rattle.gcd_plan.specs.Kinds.{is_node}
use Rattle.gcd_plan.specs.StartRule.{Knowledge, first_of, start_reasons}
use Rattle.gcd_plan.specs.declared.numbers.Obj.{Obj}
use Rattle.gcd_plan.specs.declared.why.Why.{Why}
use Rattle.gcd_plan.specs.declared.why.Why.TheVariants.{Unready}
use Rattle.gcd_event.specs.declared.event.Event.{Event}
use Rattle.gcd_history.specs.declared.submission.Submission.{Submission}
use Rattle.gcd_history.specs.Runs.{is_started}
use Rattle.gcd_history.specs.Submitted.{submitted, submission_of, main_submission}
use Rattle.gcd_history.specs.Tree.{chain}
use Rattle.gcd_history.specs.Permitted.{is_ready, is_on, waits_on, is_behind, knowledge, first_waiting, waiting_reasons, node_reasons}
use Rattle.gcd_history.proofs.Counts.{find_first}
use Rattle.gcd_history.proofs.Permitted.Choices.{before_first_waiting}
use Rattle.gcd_history.proofs.Lists.{found_is, found_passes}
use Rattle.gcd_plan.proofs.Options.{some_from_is_some}
use Rattle.gcd_history.proofs.Blocks.StartedOnce.{submission_of-kept}
use Rattle.gcd_history.proofs.Blocks.SubmittedOnNodes.{on_a_node, submitted_fit}
use Rattle.gcd_lists.specs.ListsView.{list_at, place_of}
use Rattle.gcd_tree.specs.TreeView.{chain_at}
use Rattle.gcd_drain.specs.Rule.{is_behind_at, is_fenced_at, place_reasons, start_fault_of}
use Rattle.gcd_refinement.specs.MachineView.{MachineView, block_at}
use Rattle.gcd_refinement.specs.Bounds.{place_in}
use Rattle.gcd_refinement.specs.Stands.{IsTied}
use Rattle.gcd_refinement.specs.Ties.{ListsAre, waiter}
use Rattle.gcd_machine.specs.Judged.{block_fault_at}
use Rattle.gcd_machine.proofs.Views.StartRule.{chain_is, knowledge_is, fenced_is}

-- ## What waits on a node

-- the first that waits on an object
pub first_is : (plan : PlanView) (past : List Event) (v : MachineView) (n : ℕ) → ListsAre plan past v → slice_get (list_at v.lists n) 0 ≡ option_map waiter (first_waiting plan past n)
first_is plan past v n lists =
    let waiting = filter (waits_on past n) (submitted plan past) in
    ap (λ l. slice_get l 0) (lists.waiting n)
    ∙ (slice_get-map waiter waiting 0 ∙ ap (option_map waiter) (sym (find_first (waits_on past n) (submitted plan past))))

-- one that waits is behind where another is the first
behind_is : (plan : PlanView) (past : List Event) (v : MachineView) (b n : ℕ) (s : Submission) → ListsAre plan past v → submission_of plan past b ≡ Some s → waits_on past n s ≡ true
    → is_behind_at v.lists b n ≡ is_behind plan past b n
unfolding is_behind
behind_is plan past v b n s lists found waits =
    ap (λ o. option_map_or (λ first. not (first.0.0 == b)) o false) (first_is plan past v n lists)
    ∙ (mapped (first_waiting plan past n) ∙ sym (before_first_waiting (waits_on past n) b s (submitted plan past) found waits))
  where
    mapped : (o : Option Submission) → option_map_or (λ first. not (first.0.0 == b)) (option_map waiter o) false ≡ option_map_or (λ t. not (t.blk.0 == b)) o false
    mapped None = refl
    mapped (Some t) = refl

-- ## Of a block that waits

waiting_reasons_are : (plan : PlanView) (past : List Event) (v : MachineView) (b : ℕ) (barrier : Bool) (n : Obj) (s : Submission) → IsTied plan past v
    → submission_of plan past b ≡ Some s → waits_on past n.0 s ≡ true
    → place_reasons v.drains v.lists v.tree v.holds b (Some (n, barrier)) ≡ waiting_reasons plan past b barrier n.0
waiting_reasons_are plan past v b barrier n s tied found waits =
    let k = knowledge plan past in
    ap (λ (x : Knowledge). start_reasons x (chain_at v.tree n.0) (is_behind_at v.lists b n.0) (is_fenced_at v.drains v.tree barrier n.0))
    (knowledge_is plan past v tied.valid tied.lawful tied.parts tied.tree tied.holds)
    ∙ (ap (λ c. start_reasons k c (is_behind_at v.lists b n.0) (is_fenced_at v.drains v.tree barrier n.0)) (chain_is plan past v n.0 tied.parts tied.tree)
    ∙ (ap (λ x. start_reasons k (chain plan past n.0) x (is_fenced_at v.drains v.tree barrier n.0)) (behind_is plan past v b n.0 s tied.lists found waits)
    ∙ ap (start_reasons k (chain plan past n.0) (is_behind plan past b n.0)) (fenced_is plan past v barrier n.0 tied.parts tied.tree tied.drains)))

-- ## Main

-- main is submitted from the outset
pub main_submitted : (plan : PlanView) (past : List Event) → submission_of plan past 0 ≡ Some main_submission
main_submitted plan [] = refl
main_submitted plan (e ∷ past) = submission_of-kept plan e past 0 main_submission (main_submitted plan past)

-- ## The block's fault

-- whether a block is ready, and what keeps it where it waits
abbrev BlockReasons : PlanView → List Event → ℕ → List (Why × Bool)
BlockReasons plan past b = (Unready, not (is_ready plan past b)) ∷ node_reasons plan past (submission_of plan past b)

of_main : (plan : PlanView) (past : List Event) (v : MachineView) → IsTied plan past v
    → first_of (BlockReasons plan past 0) ≡ block_fault_at v 0
unfolding is_ready
of_main plan past v tied =
    let found = main_submitted plan past in
    let started = tied.blocks.started 0 in
    rw (found, started) (ends (is_started past 0))
  where
    ends : (u : Bool) → cond (not (not u)) (Some Unready) None ≡ cond u (Some Unready) None
    ends true = refl
    ends false = refl

-- a block other than main that is submitted is so on a node
has_node : (plan : PlanView) (past : List Event) (b : ℕ) (s : Submission) → IsPlan plan → (b ≡ 0 → ⊥) → submission_of plan past b ≡ Some s → is_some s.node ≡ true
has_node plan past b s valid other found =
    let here = found_passes (λ t. t.blk.0 == b) (on_a_node plan) (submitted plan past) s found (submitted_fit plan past valid) in
    elim s.node as (λ o. option_map_or (λ q. is_node plan q.0) o (s.blk.0 == 0) ≡ true → is_some o ≡ true) [
      | None ↦ λ main. absurd (other (sym (eqb-true s.blk.0 b here.0) ∙ eqb-true s.blk.0 0 main))
      | Some q ↦ λ on. refl
    ] here.1

-- one that has started waits nowhere
of_started : (plan : PlanView) (past : List Event) (v : MachineView) (b : ℕ) (s : Submission) → IsTied plan past v → submission_of plan past b ≡ Some s → is_started past b ≡ true
    → first_of (BlockReasons plan past b) ≡ start_fault_of v.drains v.lists v.tree v.holds b
unfolding is_ready
of_started plan past v b s tied found started =
    let same : s.blk.0 ≡ b = eqb-true s.blk.0 b (found_is (λ t. t.blk.0 == b) (submitted plan past) s found) in
    let place : place_of v.lists b ≡ None =
    tied.places.waiting b
    ∙ (ap (option_and_then (place_in past)) found ∙ ap (λ u. cond u None (option_map (λ n. (n, s.barrier)) s.node)) (ap (is_started past) same ∙ started)) in
    rw (found, started, place) refl

-- one that has not waits on its node
of_waiting : (plan : PlanView) (past : List Event) (v : MachineView) (b : ℕ) (s : Submission) (n : Obj) → IsTied plan past v → submission_of plan past b ≡ Some s → is_started past b ≡ false
    → s.node ≡ Some n → first_of (BlockReasons plan past b) ≡ start_fault_of v.drains v.lists v.tree v.holds b
unfolding is_ready
of_waiting plan past v b s n tied found fresh node =
    let same : s.blk.0 ≡ b = eqb-true s.blk.0 b (found_is (λ t. t.blk.0 == b) (submitted plan past) s found) in
    let unstarted : is_started past s.blk.0 ≡ false = ap (is_started past) same ∙ fresh in
    let place : place_of v.lists b ≡ Some (n, s.barrier) =
    tied.places.waiting b
    ∙ (ap (option_and_then (place_in past)) found
    ∙ (ap (λ u. cond u None (option_map (λ q. (q, s.barrier)) s.node)) unstarted ∙ ap (option_map (λ q. (q, s.barrier))) node)) in
    let waits : waits_on past n.0 s ≡ true =
    and_from (is_on n.0 s) (not (is_started past s.blk.0)) (ap (λ o. option_map_or (λ q. q.0 == n.0) o false) node ∙ eq-eqb n.0 n.0 refl) (ap not unstarted) in
    let ready : is_ready plan past b ≡ true = ap (λ o. is_some o && not (is_started past b)) found ∙ ap not fresh in
    ap (λ u. first_of ((Unready, not u) ∷ node_reasons plan past (submission_of plan past b))) ready
    ∙ (ap (λ o. first_of (node_reasons plan past o)) found
    ∙ (ap (λ o. first_of (option_map_or (λ q. waiting_reasons plan past s.blk.0 s.barrier q.0) o [])) node
    ∙ (ap (λ k. first_of (waiting_reasons plan past k s.barrier n.0)) same
    ∙ (ap first_of (sym (waiting_reasons_are plan past v b s.barrier n s tied found waits))
    ∙ ap (λ o. first_of (place_reasons v.drains v.lists v.tree v.holds b o)) (sym place)))))

of_submitted : (plan : PlanView) (past : List Event) (v : MachineView) (b : ℕ) (s : Submission) → IsTied plan past v → (b ≡ 0 → ⊥) → submission_of plan past b ≡ Some s
    → first_of (BlockReasons plan past b) ≡ start_fault_of v.drains v.lists v.tree v.holds b
of_submitted plan past v b s tied other found =
    ⊎_elim
    (λ (started : is_started past b ≡ true). of_started plan past v b s tied found started)
    (λ (fresh : is_started past b ≡ false).
    let node = some_from_is_some s.node (has_node plan past b s tied.valid other found) in
    of_waiting plan past v b s node.0 tied found fresh node.1)
    (cases_Bool (is_started past b))

of_unsubmitted : (plan : PlanView) (past : List Event) (v : MachineView) (b : ℕ) → IsTied plan past v → submission_of plan past b ≡ None
    → first_of (BlockReasons plan past b) ≡ start_fault_of v.drains v.lists v.tree v.holds b
unfolding is_ready
of_unsubmitted plan past v b tied none =
    let place : place_of v.lists b ≡ None = tied.places.waiting b ∙ ap (option_and_then (place_in past)) none in
    rw (none, place) refl

of_other : (plan : PlanView) (past : List Event) (v : MachineView) (b : ℕ) → IsTied plan past v → (b ≡ 0 → ⊥)
    → first_of (BlockReasons plan past b) ≡ start_fault_of v.drains v.lists v.tree v.holds b
of_other plan past v b tied other =
    elim (submission_of plan past b) as (λ o. submission_of plan past b ≡ o → first_of (BlockReasons plan past b) ≡ start_fault_of v.drains v.lists v.tree v.holds b) [
      | None ↦ λ none. of_unsubmitted plan past v b tied none
      | Some s ↦ λ found. of_submitted plan past v b s tied other found
    ] refl

-- what keeps a block from starting on a worker without a run
pub block_fault_is : (plan : PlanView) (past : List Event) (v : MachineView) (b : ℕ) → IsTied plan past v → first_of (BlockReasons plan past b) ≡ block_fault_at v b
block_fault_is plan past v b tied =
    ⊎_elim
    (λ (main : b ≡ 0). subst (λ k. first_of (BlockReasons plan past k) ≡ block_fault_at v k) (sym main) (of_main plan past v tied))
    (λ (other : b ≡ 0 → ⊥).
    of_other plan past v b tied other
    ∙ sym (ap (λ u. cond u (cond (block_at v b).started (Some Unready) None) (start_fault_of v.drains v.lists v.tree v.holds b)) (ne_eqb b 0 other)))
    (cases_eq b 0)
