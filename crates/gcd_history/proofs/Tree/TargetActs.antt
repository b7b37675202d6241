-- What is known where a target act is no misuse, and which targets an event leaves.
use Rattle.std.proofs.Common.{◌≡◌, ⊎_elim, ℕ, Bool, true, false, not, ◌&&◌, ◌==◌, List, [], ◌∷◌, length, Some, None, is_some, option_and_then, unwrap_or, refl, ap, sym, ◌∙◌, subst}
use Rattle.std.specs.List.{list_any}
use Rattle.std.specs.Option.{option_map_or}
use Rattle.std.proofs.lemmas.Bool.{eq-eqb, or_left, and_from, not-false, both_ways, cases_eq, ne_eqb, and_cases}
use Rattle.gcd_plan.specs.PlanView.{PlanView, starts_active}
use Rattle.gcd_plan.specs.Kinds.{is_queue, is_node, is_node_kind}
use Rattle.gcd_plan.specs.Chains.{is_in}
use Rattle.gcd_plan.specs.Validity.{IsPlan}
use Rattle.gcd_plan.specs.declared.act.Act.{Act}
use Rattle.gcd_plan.specs.declared.act.Act.TheVariants.{Target}
use Rattle.gcd_plan.specs.declared.numbers.Obj.{Obj}
use Rattle.gcd_plan.specs.declared.numbers.Run.{Run}
use Rattle.gcd_plan.proofs.Within.{has_object}
use Rattle.gcd_event.specs.declared.event.Event.{Event}
use Rattle.gcd_event.specs.declared.event.Event.TheVariants.{Act as Acted}
use Rattle.gcd_history.specs.Runs.{act_at, act_of, is_open}
use Rattle.gcd_history.specs.Tree.{Aim, aim, aim_after, asked, target, is_moving, next_on_walk, node_of_run, chain, chain_of_run, is_open_on, would_cycle, aims_at, has_child}
use Rattle.gcd_history.specs.Holds.{is_active}
use Rattle.gcd_history.specs.Misuses.{first_code, is_released, named, misuse}
use Rattle.gcd_history.specs.Permitted.{IsLawful, misuse_at}
use Rattle.gcd_plan.proofs.Quantifiers.{list_any_in_range}
use Rattle.gcd_history.proofs.Runs.Open.{closes}
use Rattle.gcd_history.proofs.Permitted.Reasons.{at_act}
use Rattle.gcd_history.proofs.Waits.Woken.{open_kept}
use Rattle.gcd_history.proofs.Walks.{child_in, all_in}
use Rattle.gcd_history.proofs.Blocks.SubmittedOnNodes.{queue_is_node}
use Rattle.gcd_history.proofs.Runs.OpenNodes.{open_on_from, open_on_to, node_kept_open, open_node}

-- ## No misuse

pub code_none : (code : ℕ) (t : Bool) (rest : List (ℕ × Bool)) → is_some (first_code ((code, t) ∷ rest)) ≡ false → (t ≡ false) × (is_some (first_code rest) ≡ false)
code_none code true rest h = cc
code_none code false rest h = (refl, h)

pub record TargetFacts (plan : PlanView) (past : List Event) (o t : ℕ) : Type 0 where
  pub away : would_cycle plan past o t ≡ false
  pub still : (not (starts_active plan o) && is_active plan past o) ≡ false
  pub childless : (starts_active plan o && has_child plan past o) ≡ false

no_misuse : (plan : PlanView) (past : List Event) (p t : Obj) → is_some (misuse plan past (Target p t)) ≡ false → TargetFacts plan past p.0 t.0
unfolding misuse
no_misuse plan past p t h =
    let five = (5, starts_active plan p.0 && has_child plan past p.0) ∷ [] in
    let four = (4, not (starts_active plan p.0) && is_active plan past p.0) ∷ five in
    let three = (3, would_cycle plan past p.0 t.0) ∷ four in
    let one = code_none 6 (list_any (is_released plan past) (named (Target p t))) three h in
    let two = code_none 3 (would_cycle plan past p.0 t.0) four one.1 in
    let next = code_none 4 (not (starts_active plan p.0) && is_active plan past p.0) five two.1 in
    let last = code_none 5 (starts_active plan p.0 && has_child plan past p.0) [] next.1 in
    record { away = two.0; still = next.0; childless = last.0 }

pub no_misuse_at : (plan : PlanView) (past : List Event) (r : Run) (i : ℕ) (act : Act) → act_at plan r i ≡ Some act → is_some (misuse_at plan past r i) ≡ false → is_some (misuse plan past act) ≡ false
unfolding misuse_at
no_misuse_at plan past r i act at h = ap (λ o. is_some (option_and_then (misuse plan past) o)) (sym at) ∙ h

pub at_target : (plan : PlanView) (past : List Event) (w : ℕ) (r : Run) (i : ℕ) (p t : Obj) → IsLawful plan (Acted w r i ∷ past) → act_at plan r i ≡ Some (Target p t) → TargetFacts plan past p.0 t.0
at_target plan past w r i p t h at = no_misuse plan past p t (no_misuse_at plan past r i (Target p t) at (at_act plan past w r i h.1).proper)

-- where a target act on what is active is no misuse, that was created active
pub made_active : (plan : PlanView) (past : List Event) (o t : ℕ) → TargetFacts plan past o t → is_active plan past o ≡ true → starts_active plan o ≡ true
made_active plan past o t facts active =
    ⊎_elim
    (λ idle. not-false (starts_active plan o) idle)
    (λ other. absurd (both_ways (is_active plan past o) other active))
    (and_cases (not (starts_active plan o)) (is_active plan past o) facts.still)

-- and it has no child
pub no_child : (plan : PlanView) (past : List Event) (o t : ℕ) → TargetFacts plan past o t → is_active plan past o ≡ true → has_child plan past o ≡ false
no_child plan past o t facts active =
    ⊎_elim
    (λ other. absurd (both_ways (starts_active plan o) other (made_active plan past o t facts active)))
    (λ none. none)
    (and_cases (starts_active plan o) (has_child plan past o) facts.childless)

-- ## Who aims at an object

-- a node whose target is o is its child
pub child_found : (plan : PlanView) (past : List Event) (p o : ℕ) → (p ≡ 0 → ⊥) → (p ≡ o → ⊥) → is_node plan p ≡ true → target plan past p ≡ o → has_child plan past o ≡ true
child_found plan past p o low other node at =
    let aims : aims_at plan past p o ≡ true = or_left (target plan past p == o) _ (eq-eqb (target plan past p) o at) in
    let one : not (p == 0) ≡ true = ap not (ne_eqb p 0 low) in
    let two : not (p == o) ≡ true = ap not (ne_eqb p o other) in
    list_any_in_range (λ q. not (q == 0) && (is_node plan q && (not (q == o) && aims_at plan past q o))) (length plan.objects) p (has_object is_node_kind plan p node)
    (and_from (not (p == 0)) _ one (and_from (is_node plan p) _ node (and_from (not (p == o)) (aims_at plan past p o) two aims)))

-- the nodes of a run whose node is n are the chain of n
pub nodes_at : (plan : PlanView) (past : List Event) (q : Run) (n : ℕ) → node_of_run plan past q ≡ Some n → chain_of_run plan past q ≡ chain plan past n
nodes_at plan past q n node = ap (λ o. option_map_or (chain plan past) o []) node

-- a run that is beneath o has a node
pub node_beneath : (plan : PlanView) (past : List Event) (q : Run) (o : ℕ) → is_in o (chain_of_run plan past q) ≡ true → (n : ℕ) × (node_of_run plan past q ≡ Some n) × (is_in o (chain plan past n) ≡ true)
node_beneath plan past q o inside =
    elim (node_of_run plan past q) as (λ k. node_of_run plan past q ≡ k → is_in o (option_map_or (chain plan past) k []) ≡ true → (n : ℕ) × (node_of_run plan past q ≡ Some n) × (is_in o (chain plan past n) ≡ true)) [
      | None ↦ λ none h. cc
      | Some n ↦ λ some h. (n, some, h)
    ] refl inside

-- a run that is beneath a childless object is on it
pub on_it : (plan : PlanView) (past : List Event) (q : Run) (o : ℕ) → IsPlan plan → IsLawful plan past → ((m : ℕ) → is_queue plan (target plan past m) ≡ true) →
    is_open past q ≡ true → is_in o (chain_of_run plan past q) ≡ true → has_child plan past o ≡ false → node_of_run plan past q ≡ Some o
on_it plan past q o valid h queues live inside none =
    let at = node_beneath plan past q o inside in
    let node : is_node plan at.0 ≡ true = open_node plan past q at.0 valid h live at.1 in
    ⊎_elim
    (λ same. subst (λ m. node_of_run plan past q ≡ Some m) same at.1)
    (λ other.
    let c = child_in (target plan past) (length plan.objects) at.0 o at.2 other in
    let child_node : is_node plan c.child ≡ true = all_in (is_node plan) (target plan past) (length plan.objects) at.0 c.child node (λ m. queue_is_node plan (target plan past m) (queues m)) c.inside in
    absurd (both_ways (has_child plan past o) none (child_found plan past c.child o c.below_root c.other child_node c.parent)))
    (cases_eq at.0 o)

-- ## What an event leaves

-- a run on o that the event does not end keeps o open
pub still_open : (plan : PlanView) (e : Event) (past : List Event) (o : ℕ) → IsLawful plan past → ((q : Run) → is_open past q ≡ true → node_of_run plan past q ≡ Some o → closes e q ≡ false) → is_open_on plan past o ≡ true → is_open_on plan (e ∷ past) o ≡ true
still_open plan e past o h on was =
    let q = open_on_to plan past o was in
    open_on_from plan (e ∷ past) q.0 o (open_kept e past q.0 q.1 (on q.0 q.1 q.2)) (node_kept_open plan e past h q.0 q.1 ∙ q.2)

-- an object that is not asked for, and does not become idle, keeps its target and its request
aim_idle : (was now : Bool) (a : Aim) → (was ≡ true → now ≡ true) → aim_after None was now a ≡ a
aim_idle true true a h = refl
aim_idle true false a h = let k = h refl in cc
aim_idle false now a h = refl

pub aim_unasked : (plan : PlanView) (e : Event) (past : List Event) (o : ℕ) → asked o (act_of plan e) ≡ None → (is_open_on plan past o ≡ true → is_open_on plan (e ∷ past) o ≡ true) → aim plan (e ∷ past) o ≡ aim plan past o
aim_unasked plan e past o none on =
    ap (λ k. aim_after k (is_open_on plan past o) (is_open_on plan (e ∷ past) o) (aim plan past o)) none
    ∙ aim_idle (is_open_on plan past o) (is_open_on plan (e ∷ past) o) (aim plan past o) on

-- an object that has no request walks to its target
pub walk_unasked : (plan : PlanView) (past : List Event) (m : ℕ) → (next_on_walk plan past m ≡ target plan past m → ⊥) → is_moving plan past m ≡ true
walk_unasked plan past m differs =
    elim (aim plan past m).request as (λ o. (unwrap_or o (target plan past m) ≡ target plan past m → ⊥) → is_some o ≡ true) [
      | None ↦ λ k. absurd (k refl)
      | Some t ↦ λ k. refl
    ] differs
