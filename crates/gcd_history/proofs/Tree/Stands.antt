-- The tree of targets: it leads to root, stands still under open runs, and what is about to move is alone.
use Rattle.std.proofs.Common.{◌≡◌, ◌⊎◌, inl, inr, ⊎_elim, ℕ, suc, ◌-◌, ◌<◌, Bool, true, false, not, cond, ◌==◌, ltb, List, [], ◌∷◌, length, Option, Some, None, is_some, unwrap_or, option_map, refl, ap, sym, ◌∙◌, subst, arith}
use Rattle.std.specs.List.{slice_get}
use Rattle.std.specs.Option.{option_map_or}
use Rattle.std.proofs.lemmas.Bool.{eqb-true, eq-eqb, ne_eqb, ltb-true, or_left, and_parts, not-true, both_ways, cases_eq, cases_Bool}
use Rattle.std.proofs.lemmas.Option.{same_Some, none-some, slice_get_within}
use Rattle.gcd_plan.specs.PlanView.{PlanView, ObjView, first_target}
use Rattle.gcd_plan.specs.Kinds.{has_kind, is_queue, is_queue_kind, is_node_kind}
use Rattle.gcd_plan.specs.Chains.{chain_by, is_in}
use Rattle.gcd_plan.specs.Validity.{IsPlan, has_fields, is_held_object}
use Rattle.gcd_plan.specs.declared.act.Act.{Act}
use Rattle.gcd_plan.specs.declared.act.Act.TheVariants.{Target}
use Rattle.gcd_plan.specs.declared.kind.Kind.{Kind}
use Rattle.gcd_plan.specs.declared.kind.Kind.TheVariants.{Serial, Concurrent, Group, Semaphore}
use Rattle.gcd_plan.specs.declared.numbers.Obj.{Obj}
use Rattle.gcd_plan.specs.declared.numbers.Run.{Run}
use Rattle.gcd_plan.specs.declared.numbers.Run.TheVariants.{Block, Source}
use Rattle.gcd_plan.proofs.Within.{has_object}
use Rattle.gcd_event.specs.declared.event.Event.{Event}
use Rattle.gcd_event.specs.declared.event.Event.TheVariants.{Start, Act as Acted, End, Deliver, DeliverEnd}
use Rattle.gcd_history.specs.Runs.{same_run, opens, act_of, is_open}
use Rattle.gcd_history.specs.Tree.{Aim, aim, aim_after, asked, settled, target, is_moving, next_on_walk, node_of_run, chain, chain_of_run, is_open_on}
use Rattle.gcd_history.specs.Holds.{is_active, is_free, hold}
use Rattle.gcd_history.specs.Permitted.{IsLawful}
use Rattle.gcd_history.proofs.Runs.Open.{closes, same_run-true}
use Rattle.gcd_history.proofs.Runs.FreeAtStart.{BeginsAlone, start_begins_alone, deliver_begins_alone}
use Rattle.gcd_history.proofs.Blocks.SubmittedOnce.{object_fields}
use Rattle.gcd_plan.proofs.Walks.{chain_agree}
use Rattle.gcd_history.proofs.Walks.{reaches, reaches-in, reaches_agree, Rerouted, rerouted_reaches, no_way_back, same_or_leaves}
use Rattle.gcd_history.proofs.Blocks.SubmittedOnNodes.{recorded_fits}
use Rattle.gcd_history.proofs.Runs.OpenNodes.{open_cases, open_on_from, open_on_to, node_kept_open, node_kept_begun, open_node}
use Rattle.gcd_history.proofs.Tree.TargetActs.{TargetFacts, at_target, no_child, nodes_at, on_it, still_open, aim_unasked, walk_unasked}

-- what holds of the tree
pub record Standing (plan : PlanView) (past : List Event) : Type 0 where
  pub queues : (o : ℕ) → is_queue plan (target plan past o) ≡ true
  pub requests : (o t : ℕ) → (aim plan past o).request ≡ Some t → is_queue plan t ≡ true
  pub unmoved_root : (aim plan past 0).request ≡ None
  pub moving_open : (o : ℕ) → is_moving plan past o ≡ true → is_open_on plan past o ≡ true
  pub moving_alone : (o : ℕ) (q : Run) → is_moving plan past o ≡ true → is_open past q ≡ true → is_in o (chain_of_run plan past q) ≡ true → node_of_run plan past q ≡ Some o
  pub active : (o : ℕ) (q : Run) → is_open past q ≡ true → is_in o (chain_of_run plan past q) ≡ true → is_active plan past o ≡ true
  pub rooted : (n : ℕ) → n < length plan.objects → reaches (target plan past) (length plan.objects - 1) n ≡ true
  pub walks_rooted : (n : ℕ) → n < length plan.objects → reaches (next_on_walk plan past) (length plan.objects - 1) n ≡ true

-- ## At the outset

root_is_queue : (plan : PlanView) → IsPlan plan → is_queue plan 0 ≡ true
root_is_queue plan valid = ap (λ o. option_map_or is_queue_kind (option_map (λ obj. obj.kind) o) false) valid.root

by_kind : (plan : PlanView) (obj : ObjView) (kind : Kind) → IsPlan plan → has_fields plan kind obj ≡ true → is_queue plan obj.target.0 ≡ true
by_kind plan obj Serial valid fields = (and_parts (is_queue plan obj.target.0) _ fields).0
by_kind plan obj Concurrent valid fields = (and_parts (is_queue plan obj.target.0) _ fields).0
by_kind plan obj Group valid fields = subst (λ n. is_queue plan n ≡ true) (sym (eqb-true obj.target.0 0 (and_parts (obj.target.0 == 0) _ fields).0)) (root_is_queue plan valid)
by_kind plan obj (Semaphore n) valid fields = subst (λ n. is_queue plan n ≡ true) (sym (eqb-true obj.target.0 0 (and_parts (obj.target.0 == 0) _ fields).0)) (root_is_queue plan valid)
by_kind plan obj kind valid fields = (and_parts (is_queue plan obj.target.0) _ fields).0

first_queues : (plan : PlanView) (o : ℕ) → IsPlan plan → is_queue plan (first_target plan o) ≡ true
first_queues plan o valid =
    elim (slice_get plan.objects o) as (λ k. slice_get plan.objects o ≡ k → is_queue plan (option_map_or (λ obj. obj.target.0) k 0) ≡ true) [
      | None ↦ λ none. root_is_queue plan valid
      | Some obj ↦ λ some. by_kind plan obj obj.kind valid (object_fields plan o obj valid some)
    ] refl

pub some_objects : (plan : PlanView) → IsPlan plan → 0 < length plan.objects
some_objects plan valid = slice_get_within plan.objects 0 _ valid.root

first_rooted : (plan : PlanView) (n : ℕ) → IsPlan plan → n < length plan.objects → reaches (first_target plan) (length plan.objects - 1) n ≡ true
first_rooted plan n valid within =
    let some = some_objects plan valid in
    let one : length plan.objects ≡ suc (length plan.objects - 1) = omega arith in
    sym (reaches-in (first_target plan) (length plan.objects - 1) n) ∙ subst (λ k. is_in 0 (chain_by (first_target plan) k n) ≡ true) one (valid.targets n within)

stands_first : (plan : PlanView) → IsPlan plan → Standing plan []
stands_first plan valid = record {
  queues = λ o. first_queues plan o valid;
  requests = λ o t none. cc;
  unmoved_root = refl;
  moving_open = λ o moving. cc;
  moving_alone = λ o q moving live inside. cc;
  active = λ o q live inside. cc;
  rooted = λ n within. first_rooted plan n valid within;
  walks_rooted = λ n within. first_rooted plan n valid within;
}

-- ## What an event asks for

record Asked (o : ℕ) (act : Option Act) (t : ℕ) : Type 0 where
  pub of : Obj
  pub to : Obj
  pub by : act ≡ Some (Target of to)
  pub at : of.0 ≡ o
  pub goal : to.0 ≡ t

asked_facts : (o : ℕ) (act : Option Act) (t : ℕ) → asked o act ≡ Some t → Asked o act t
asked_facts o (Some (Target p u)) t h =
    elim (p.0 == o) as (λ v. p.0 == o ≡ v → cond v (Some u.0) None ≡ Some t → Asked o (Some (Target p u)) t) [
      | true ↦ λ at some. record { of = p; to = u; by = refl; at = eqb-true p.0 o at; goal = same_Some u.0 t some }
      | false ↦ λ at none. cc
    ] refl h
asked_facts o act t h = cc

-- an event that asks for a target is an act, which is no misuse and ends no run
pub record TargetEvent (plan : PlanView) (e : Event) (past : List Event) (o t : ℕ) : Type 0 where
  pub facts : TargetFacts plan past o t
  pub ends_none : (q : Run) → closes e q ≡ false
  pub queue : is_queue plan t ≡ true
  pub low : 0 < o

by_act : (plan : PlanView) (e : Event) (past : List Event) (p t : Obj) → IsPlan plan → IsLawful plan (e ∷ past) → act_of plan e ≡ Some (Target p t) → TargetEvent plan e past p.0 t.0
by_act plan (Acted w r i) past p t valid h at =
    let fits = recorded_fits plan (Acted w r i) (Target p t) valid at in
    let parts = and_parts (is_held_object plan p) (is_queue plan t.0) fits in
    let low = ltb-true 0 p.0 (and_parts (ltb 0 p.0) (has_kind is_node_kind plan p.0) parts.0).0 in
    record { facts = at_target plan past w r i p t h at; ends_none = λ q. refl; queue = parts.1; low = low }
by_act plan e past p t valid h at = cc

pub asks : (plan : PlanView) (e : Event) (past : List Event) (o t : ℕ) → IsPlan plan → IsLawful plan (e ∷ past) → asked o (act_of plan e) ≡ Some t → TargetEvent plan e past o t
asks plan e past o t valid h h_asked =
    let a = asked_facts o (act_of plan e) t h_asked in
    let one = by_act plan e past a.of a.to valid h a.by in
    subst (λ m. TargetEvent plan e past m t) a.at (subst (λ m. TargetEvent plan e past a.of.0 m) a.goal one)

-- ## The aim of one object, after the event

abbrev pub Step : PlanView → Event → List Event → Type 0
Step plan e past = IsPlan plan × IsLawful plan (e ∷ past) × Standing plan past

abbrev after : PlanView → Event → List Event → ℕ → Option ℕ → (was now : Bool) → Aim
after plan e past o k was now = aim_after k was now (aim plan past o)

-- its target is still the old one, what is asked for now, or what was asked for before
after_target : (P : ℕ → Type 0) (k : Option ℕ) (was now : Bool) (a : Aim) → P a.target → ((t : ℕ) → k ≡ Some t → P t) → ((t : ℕ) → a.request ≡ Some t → P t) → P (aim_after k was now a).target
after_target P (Some t) true now a old new waiting = old
after_target P (Some t) false now a old new waiting = new t refl
after_target P None true true a old new waiting = old
after_target P None true false a old new waiting =
    elim a.request as (λ o. a.request ≡ o → P (settled o a).target) [ None ↦ λ none. old | Some t ↦ λ some. waiting t some ] refl
after_target P None false now a old new waiting = old

-- its request is none, what is asked for now, or what was asked for before
after_request : (P : Option ℕ → Type 0) (k : Option ℕ) (was now : Bool) (a : Aim) → P None → ((t : ℕ) → k ≡ Some t → P (Some t)) → P a.request → P (aim_after k was now a).request
after_request P (Some t) true now a none new old = new t refl
after_request P (Some t) false now a none new old = old
after_request P None true true a none new old = old
after_request P None true false a none new old =
    elim a.request as (λ o. a.request ≡ o → P (settled o a).request) [ None ↦ λ k. old | Some t ↦ λ k. none ] refl
after_request P None false now a none new old = old

queues_step : (plan : PlanView) (e : Event) (past : List Event) → Step plan e past → (o : ℕ) → is_queue plan (target plan (e ∷ past) o) ≡ true
queues_step plan e past step o =
    after_target (λ m. is_queue plan m ≡ true) (asked o (act_of plan e)) (is_open_on plan past o) (is_open_on plan (e ∷ past) o) (aim plan past o)
    (step.2.queues o) (λ t k. (asks plan e past o t step.0 step.1 k).queue) (λ t k. step.2.requests o t k)

requests_step : (plan : PlanView) (e : Event) (past : List Event) → Step plan e past → (o t : ℕ) → (aim plan (e ∷ past) o).request ≡ Some t → is_queue plan t ≡ true
requests_step plan e past step o =
    after_request (λ k. (t : ℕ) → k ≡ Some t → is_queue plan t ≡ true) (asked o (act_of plan e)) (is_open_on plan past o) (is_open_on plan (e ∷ past) o) (aim plan past o)
    (λ t none. cc)
    (λ u k t some. subst (λ m. is_queue plan m ≡ true) (same_Some u t some) (asks plan e past o u step.0 step.1 k).queue)
    (λ t k. step.2.requests o t k)

root_step : (plan : PlanView) (e : Event) (past : List Event) → Step plan e past → (aim plan (e ∷ past) 0).request ≡ None
root_step plan e past step =
    after_request (λ k. k ≡ None) (asked 0 (act_of plan e)) (is_open_on plan past 0) (is_open_on plan (e ∷ past) 0) (aim plan past 0)
    refl (λ t k. let low = (asks plan e past 0 t step.0 step.1 k).low in absurd (omega arith)) step.2.unmoved_root

-- a request that stands after the event stood before it, or is asked for now
pub moving_before : (plan : PlanView) (e : Event) (past : List Event) (o : ℕ) → is_moving plan (e ∷ past) o ≡ true → (is_moving plan past o ≡ true) ⊎ ((t : ℕ) × (asked o (act_of plan e) ≡ Some t))
moving_before plan e past o =
    after_request (λ k. is_some k ≡ true → (is_moving plan past o ≡ true) ⊎ ((t : ℕ) × (asked o (act_of plan e) ≡ Some t)))
    (asked o (act_of plan e)) (is_open_on plan past o) (is_open_on plan (e ∷ past) o) (aim plan past o)
    (λ none. cc) (λ t k some. inr (t, k)) (λ old. inl old)

-- where no run was open on the object its request is as it was
idle_request : (k : Option ℕ) (now : Bool) (a : Aim) → (aim_after k false now a).request ≡ a.request
idle_request (Some t) now a = refl
idle_request None now a = refl

-- where its last run closed it has none
closed_request : (a : Aim) → (aim_after None true false a).request ≡ None
closed_request a = elim a.request as (λ o. a.request ≡ o → (settled o a).request ≡ None) [ None ↦ λ k. k | Some t ↦ λ k. refl ] refl

pub was_open : (plan : PlanView) (e : Event) (past : List Event) → Step plan e past → (o : ℕ) → is_moving plan (e ∷ past) o ≡ true → is_open_on plan past o ≡ true
was_open plan e past step o moving =
    ⊎_elim
    (λ was. was)
    (λ idle.
    let same : (aim plan (e ∷ past) o).request ≡ (aim plan past o).request =
    ap (λ v. (aim_after (asked o (act_of plan e)) v (is_open_on plan (e ∷ past) o) (aim plan past o)).request) idle ∙ idle_request (asked o (act_of plan e)) (is_open_on plan (e ∷ past) o) (aim plan past o) in
    step.2.moving_open o (sym (ap is_some same) ∙ moving))
    (cases_Bool (is_open_on plan past o))

open_step : (plan : PlanView) (e : Event) (past : List Event) → Step plan e past → (o : ℕ) → is_moving plan (e ∷ past) o ≡ true → is_open_on plan (e ∷ past) o ≡ true
open_step plan e past step o moving =
    let was = was_open plan e past step o moving in
    elim (asked o (act_of plan e)) as (λ k. asked o (act_of plan e) ≡ k → is_open_on plan (e ∷ past) o ≡ true) [
      | Some t ↦ λ some. still_open plan e past o step.1.0 (λ q live node. (asks plan e past o t step.0 step.1 some).ends_none q) was
      | None ↦ λ none. ⊎_elim
          (λ now. now)
          (λ shut.
          let gone : (aim plan (e ∷ past) o).request ≡ None =
          ap (λ k. (aim_after k (is_open_on plan past o) (is_open_on plan (e ∷ past) o) (aim plan past o)).request) none
          ∙ ap (λ v. (aim_after None v (is_open_on plan (e ∷ past) o) (aim plan past o)).request) was
          ∙ ap (λ v. (aim_after None true v (aim plan past o)).request) shut
          ∙ closed_request (aim plan past o) in
          absurd (both_ways (is_moving plan (e ∷ past) o) (ap is_some gone) moving))
          (cases_Bool (is_open_on plan (e ∷ past) o))
    ] refl

-- ## Chains of open runs

-- the same as above, with what led to each change
after_target_why : (P : ℕ → Type 0) (k : Option ℕ) (was now : Bool) (a : Aim) → P a.target → ((t : ℕ) → k ≡ Some t → was ≡ false → P t) → ((t : ℕ) → k ≡ None → was ≡ true → now ≡ false → a.request ≡ Some t → P t) → P (aim_after k was now a).target
after_target_why P (Some t) true now a old new waiting = old
after_target_why P (Some t) false now a old new waiting = new t refl refl
after_target_why P None true true a old new waiting = old
after_target_why P None true false a old new waiting =
    elim a.request as (λ o. a.request ≡ o → P (settled o a).target) [ None ↦ λ none. old | Some t ↦ λ some. waiting t refl refl refl some ] refl
after_target_why P None false now a old new waiting = old

-- a run beneath an object that a target act names is on it
on_asked : (plan : PlanView) (e : Event) (past : List Event) → Step plan e past → (q : Run) (o t : ℕ) → asked o (act_of plan e) ≡ Some t → is_open past q ≡ true → is_in o (chain_of_run plan past q) ≡ true → node_of_run plan past q ≡ Some o
on_asked plan e past step q o t k live inside =
    let none = no_child plan past o t (asks plan e past o t step.0 step.1 k).facts (step.2.active o q live inside) in
    on_it plan past q o step.0 step.1.0 step.2.queues live inside none

-- the target of an object above a run that stays open does not change
pub kept_at : (plan : PlanView) (e : Event) (past : List Event) → Step plan e past → (q : Run) (o : ℕ) → is_open past q ≡ true → is_open (e ∷ past) q ≡ true → is_in o (chain_of_run plan past q) ≡ true → target plan (e ∷ past) o ≡ target plan past o
kept_at plan e past step q o live on inside =
    after_target_why (λ m. m ≡ target plan past o) (asked o (act_of plan e)) (is_open_on plan past o) (is_open_on plan (e ∷ past) o) (aim plan past o)
    refl
    (λ t k idle. absurd (both_ways (is_open_on plan past o) idle (open_on_from plan past q o live (on_asked plan e past step q o t k live inside))))
    (λ t k was shut request.
    let node = step.2.moving_alone o q (ap is_some request) live inside in
    let now = open_on_from plan (e ∷ past) q o on (node_kept_open plan e past step.1.0 q live ∙ node) in
    absurd (both_ways (is_open_on plan (e ∷ past) o) shut now))

-- chains of runs whose node stays, and whose chain's targets stay
nodes_agree : (plan : PlanView) (e : Event) (past : List Event) (q : Run) → node_of_run plan (e ∷ past) q ≡ node_of_run plan past q → ((o : ℕ) → is_in o (chain_of_run plan past q) ≡ true → target plan (e ∷ past) o ≡ target plan past o) → chain_of_run plan (e ∷ past) q ≡ chain_of_run plan past q
nodes_agree plan e past q node same =
    ap (λ k. option_map_or (chain plan (e ∷ past)) k []) node
    ∙ elim (node_of_run plan past q) as (λ k. node_of_run plan past q ≡ k → option_map_or (chain plan (e ∷ past)) k [] ≡ option_map_or (chain plan past) k []) [
      | None ↦ λ none. refl
      | Some n ↦ λ at. chain_agree (target plan past) (target plan (e ∷ past)) (length plan.objects) n
          (λ o inside. same o (subst (λ l. is_in o l ≡ true) (sym (nodes_at plan past q n at)) inside))
    ] refl

pub chain_step : (plan : PlanView) (e : Event) (past : List Event) → Step plan e past → (q : Run) → is_open past q ≡ true → is_open (e ∷ past) q ≡ true → chain_of_run plan (e ∷ past) q ≡ chain_of_run plan past q
chain_step plan e past step q live on = nodes_agree plan e past q (node_kept_open plan e past step.1.0 q live) (λ o inside. kept_at plan e past step q o live on inside)

-- an event that begins a run is no act, and ends none
begins_quietly : (plan : PlanView) (e : Event) (q : Run) → opens e q ≡ true → (act_of plan e ≡ None) × ((r : Run) → closes e r ≡ false)
begins_quietly plan (Start w b) q now = (refl, λ r. refl)
begins_quietly plan (Deliver w s) q now = (refl, λ r. refl)
begins_quietly plan e q now = cc

pub begun_aim : (plan : PlanView) (e : Event) (past : List Event) → IsLawful plan past → (q : Run) (o : ℕ) → opens e q ≡ true → aim plan (e ∷ past) o ≡ aim plan past o
begun_aim plan e past h q o now =
    let quiet = begins_quietly plan e q now in
    aim_unasked plan e past o (ap (asked o) quiet.0) (still_open plan e past o h (λ r live node. quiet.1 r))

pub chain_begun : (plan : PlanView) (e : Event) (past : List Event) → IsLawful plan (e ∷ past) → (q : Run) → opens e q ≡ true → chain_of_run plan (e ∷ past) q ≡ chain_of_run plan past q
chain_begun plan e past h q now = nodes_agree plan e past q (node_kept_begun plan e past h q now) (λ o inside. ap (λ a. a.target) (begun_aim plan e past h.0 q o now))

pub begun_alone : (plan : PlanView) (e : Event) (past : List Event) → IsLawful plan (e ∷ past) → (q : Run) → opens e q ≡ true → BeginsAlone plan past q
begun_alone plan (Start w c) past h (Block b) now = subst (λ n. BeginsAlone plan past (Block (record { 0 = n }))) (eqb-true c.0 b.0 now) (start_begins_alone plan past w c h.1)
begun_alone plan (Deliver w t) past h (Source s) now = subst (λ n. BeginsAlone plan past (Source (record { 0 = n }))) (eqb-true t.0 s.0 now) (deliver_begins_alone plan past w t h.1)
begun_alone plan e past h q now = cc

free_active : (plan : PlanView) (past : List Event) (o : ℕ) → is_free plan past o ≡ true → is_active plan past o ≡ true
unfolding is_free
free_active plan past o free = (and_parts (is_active plan past o) _ free).0

free_unmoving : (plan : PlanView) (past : List Event) (o : ℕ) → is_free plan past o ≡ true → is_moving plan past o ≡ false
unfolding is_free
free_unmoving plan past o free = not-true (is_moving plan past o) (and_parts (hold plan past o == 0) (not (is_moving plan past o)) (and_parts (is_active plan past o) _ free).1).1

active_step : (plan : PlanView) (e : Event) (past : List Event) → Step plan e past → (o : ℕ) (q : Run) → is_open (e ∷ past) q ≡ true → is_in o (chain_of_run plan (e ∷ past) q) ≡ true → is_active plan (e ∷ past) o ≡ true
active_step plan e past step o q on inside =
    or_left (is_active plan past o) _ (⊎_elim
    (λ now.
    let there : is_in o (chain_of_run plan past q) ≡ true = sym (ap (is_in o) (chain_begun plan e past step.1 q now)) ∙ inside in
    free_active plan past o ((begun_alone plan e past step.1 q now).free o there))
    (λ live.
    let there : is_in o (chain_of_run plan past q) ≡ true = sym (ap (is_in o) (chain_step plan e past step q live on)) ∙ inside in
    step.2.active o q live there)
    (open_cases e past q on))

alone_step : (plan : PlanView) (e : Event) (past : List Event) → Step plan e past → (o : ℕ) (q : Run) → is_moving plan (e ∷ past) o ≡ true → is_open (e ∷ past) q ≡ true → is_in o (chain_of_run plan (e ∷ past) q) ≡ true → node_of_run plan (e ∷ past) q ≡ Some o
alone_step plan e past step o q moving on inside =
    ⊎_elim
    (λ now.
    let there : is_in o (chain_of_run plan past q) ≡ true = sym (ap (is_in o) (chain_begun plan e past step.1 q now)) ∙ inside in
    let still = free_unmoving plan past o ((begun_alone plan e past step.1 q now).free o there) in
    let same : is_moving plan (e ∷ past) o ≡ is_moving plan past o = ap (λ a. is_some a.request) (begun_aim plan e past step.1.0 q o now) in
    absurd (both_ways (is_moving plan past o) still (sym same ∙ moving)))
    (λ live.
    let there : is_in o (chain_of_run plan past q) ≡ true = sym (ap (is_in o) (chain_step plan e past step q live on)) ∙ inside in
    node_kept_open plan e past step.1.0 q live ∙ ⊎_elim
    (λ before. step.2.moving_alone o q before live there)
    (λ new. on_asked plan e past step q o new.0 new.1 live there)
    (moving_before plan e past o moving))
    (open_cases e past q on)

-- ## The way to root

target_within : (plan : PlanView) (o : ℕ) → is_queue plan o ≡ true → o < length plan.objects
target_within plan o h = has_object is_queue_kind plan o h

walk_queues : (plan : PlanView) (past : List Event) → ((o : ℕ) → is_queue plan (target plan past o) ≡ true) → ((o t : ℕ) → (aim plan past o).request ≡ Some t → is_queue plan t ≡ true) → (o : ℕ) → is_queue plan (next_on_walk plan past o) ≡ true
walk_queues plan past queues requests o =
    elim (aim plan past o).request as (λ k. (aim plan past o).request ≡ k → is_queue plan (unwrap_or k (target plan past o)) ≡ true) [
      | None ↦ λ none. queues o
      | Some t ↦ λ some. requests o t some
    ] refl

-- where the walk leaves the targets, beneath an object, a run is open beneath that object, on another
record Beneath (plan : PlanView) (past : List Event) (o : ℕ) : Type 0 where
  pub run : Run
  pub live : is_open past run ≡ true
  pub inside : is_in o (chain_of_run plan past run) ≡ true
  pub apart : node_of_run plan past run ≡ Some o → ⊥

-- a chain from t to o is a walk, or a run is open beneath o, on another
walk_or_run : (plan : PlanView) (past : List Event) → Standing plan past → (t o : ℕ) → is_in o (chain plan past t) ≡ true → (is_in o (chain_by (next_on_walk plan past) (length plan.objects) t) ≡ true) ⊎ Beneath plan past o
walk_or_run plan past stands t o inside =
    ⊎_elim
    (λ same. inl same)
    (λ leaves.
    let moving = walk_unasked plan past leaves.at leaves.differs in
    let q = open_on_to plan past leaves.at (stands.moving_open leaves.at moving) in
    inr (record {
      run = q.0;
      live = q.1;
      inside = subst (λ l. is_in o l ≡ true) (sym (nodes_at plan past q.0 leaves.at q.2)) leaves.inside;
      apart = λ node. leaves.apart (same_Some leaves.at o (sym q.2 ∙ node));
    }))
    (same_or_leaves (target plan past) (next_on_walk plan past) (length plan.objects) t o inside)

-- what an event does to the ways: nothing, or one object is led elsewhere, and that way does not come back
abbrev Leads : PlanView → (next other : ℕ → ℕ) → Type 0
Leads plan next other = ((m : ℕ) → other m ≡ next m) ⊎ ((o : ℕ) × (t : ℕ) × Rerouted next other (length plan.objects) o t × (t < length plan.objects))

led_reaches : (plan : PlanView) (next other : ℕ → ℕ) → IsPlan plan → ((m : ℕ) → other m < length plan.objects) → ((n : ℕ) → n < length plan.objects → reaches next (length plan.objects - 1) n ≡ true) → Leads plan next other →
    (n : ℕ) → n < length plan.objects → reaches other (length plan.objects - 1) n ≡ true
led_reaches plan next other valid below old leads n within =
    ⊎_elim
    (λ same. reaches_agree next other (length plan.objects - 1) n same (old n within))
    (λ way. rerouted_reaches next other (length plan.objects) way.0 way.1 n (some_objects plan valid) way.2 below way.3 within (old way.1 way.3) (old n within))
    leads

-- the event asks for a target, or for none
target_or_none : (act : Option Act) → ((p : Obj) × (t : Obj) × (act ≡ Some (Target p t))) ⊎ ((o : ℕ) → asked o act ≡ None)
target_or_none (Some (Target p t)) = inl (p, t, refl)
target_or_none act = inr (λ o. refl)

-- where nothing is asked for, the walk goes as before
walk_kept : (was now : Bool) (a : Aim) → unwrap_or (aim_after None was now a).request (aim_after None was now a).target ≡ unwrap_or a.request a.target
walk_kept true true a = refl
walk_kept true false a =
    elim a.request as (λ o. a.request ≡ o → unwrap_or (settled o a).request (settled o a).target ≡ unwrap_or a.request a.target) [
      | None ↦ λ none. refl
      | Some t ↦ λ some. sym (ap (λ o. unwrap_or o a.target) some)
    ] refl
walk_kept false now a = refl

-- and where a target is, it goes there
walk_asked : (t : ℕ) (was now : Bool) (a : Aim) → (was ≡ false → a.request ≡ None) → unwrap_or (aim_after (Some t) was now a).request (aim_after (Some t) was now a).target ≡ t
walk_asked t true now a idle = refl
walk_asked t false now a idle = ap (λ o. unwrap_or o t) (idle refl)

-- an object without open runs has no request
idle_unasked : (plan : PlanView) (past : List Event) → Standing plan past → (o : ℕ) → is_open_on plan past o ≡ false → (aim plan past o).request ≡ None
idle_unasked plan past stands o idle =
    elim (aim plan past o).request as (λ k. (aim plan past o).request ≡ k → k ≡ None) [
      | None ↦ λ none. refl
      | Some t ↦ λ some. absurd (both_ways (is_open_on plan past o) idle (stands.moving_open o (ap is_some some)))
    ] refl

asked_other : (p t : Obj) (act : Option Act) (m : ℕ) → act ≡ Some (Target p t) → (m ≡ p.0 → ⊥) → asked m act ≡ None
asked_other p t act m by other = ap (asked m) by ∙ ap (λ v. cond v (Some t.0) None) (ne_eqb p.0 m (λ same. other (sym same)))

asked_here : (p t : Obj) (act : Option Act) → act ≡ Some (Target p t) → asked p.0 act ≡ Some t.0
asked_here p t act by = ap (asked p.0) by ∙ ap (λ v. cond v (Some t.0) None) (eq-eqb p.0 p.0 refl)

other_aim : (plan : PlanView) (e : Event) (past : List Event) → Step plan e past → (p t : Obj) → act_of plan e ≡ Some (Target p t) → (m : ℕ) → (m ≡ p.0 → ⊥) → aim plan (e ∷ past) m ≡ aim plan past m
other_aim plan e past step p t by m other =
    aim_unasked plan e past m (asked_other p t (act_of plan e) m by other) (still_open plan e past m step.1.0 (λ q live node. (by_act plan e past p t step.0 step.1 by).ends_none q))

abbrev here : PlanView → Event → List Event → ℕ → ℕ → Aim
here plan e past o t = aim_after (Some t) (is_open_on plan past o) (is_open_on plan (e ∷ past) o) (aim plan past o)

its_aim : (plan : PlanView) (e : Event) (past : List Event) (p t : Obj) → act_of plan e ≡ Some (Target p t) → aim plan (e ∷ past) p.0 ≡ here plan e past p.0 t.0
its_aim plan e past p t by = ap (λ k. aim_after k (is_open_on plan past p.0) (is_open_on plan (e ∷ past) p.0) (aim plan past p.0)) (asked_here p t (act_of plan e) by)

walks_lead : (plan : PlanView) (e : Event) (past : List Event) → Step plan e past → Leads plan (next_on_walk plan past) (next_on_walk plan (e ∷ past))
walks_lead plan e past step =
    ⊎_elim
    (λ by.
    let it = by_act plan e past by.0 by.1 step.0 step.1 by.2 in
    let led : next_on_walk plan (e ∷ past) by.0.0 ≡ by.1.0 =
    ap (λ a. unwrap_or a.request a.target) (its_aim plan e past by.0 by.1 by.2)
    ∙ walk_asked by.1.0 (is_open_on plan past by.0.0) (is_open_on plan (e ∷ past) by.0.0) (aim plan past by.0.0) (idle_unasked plan past step.2 by.0.0) in
    inr (
      by.0.0,
      by.1.0,
      record {
        same = λ m other. ap (λ a. unwrap_or a.request a.target) (other_aim plan e past step by.0 by.1 by.2 m other);
        led = led;
        away = it.facts.away;
      },
      target_within plan by.1.0 it.queue,
    ))
    (λ none. inl (λ m.
    ap (λ k. unwrap_or (aim_after k (is_open_on plan past m) (is_open_on plan (e ∷ past) m) (aim plan past m)).request (aim_after k (is_open_on plan past m) (is_open_on plan (e ∷ past) m) (aim plan past m)).target) (none m)
    ∙ walk_kept (is_open_on plan past m) (is_open_on plan (e ∷ past) m) (aim plan past m)))
    (target_or_none (act_of plan e))

-- a target act on an object without open runs leads it elsewhere
target_leads : (plan : PlanView) (e : Event) (past : List Event) → Step plan e past → (p t : Obj) → act_of plan e ≡ Some (Target p t) → Leads plan (target plan past) (target plan (e ∷ past))
target_leads plan e past step p t by =
    let it = by_act plan e past p t step.0 step.1 by in
    ⊎_elim
    (λ was.
    let same : target plan (e ∷ past) p.0 ≡ target plan past p.0 =
    ap (λ a. a.target) (its_aim plan e past p t by) ∙ ap (λ v. (aim_after (Some t.0) v (is_open_on plan (e ∷ past) p.0) (aim plan past p.0)).target) was in
    inl (λ m. ⊎_elim
    (λ at. subst (λ k. target plan (e ∷ past) k ≡ target plan past k) (sym at) same)
    (λ other. ap (λ a. a.target) (other_aim plan e past step p t by m other))
    (cases_eq m p.0)))
    (λ idle.
    let led : target plan (e ∷ past) p.0 ≡ t.0 =
    ap (λ a. a.target) (its_aim plan e past p t by) ∙ ap (λ v. (aim_after (Some t.0) v (is_open_on plan (e ∷ past) p.0) (aim plan past p.0)).target) idle in
    let away : is_in p.0 (chain plan past t.0) ≡ false = ⊎_elim
    (λ inside. ⊎_elim
    (λ walk. absurd (both_ways (is_in p.0 (chain_by (next_on_walk plan past) (length plan.objects) t.0)) it.facts.away walk))
    (λ beneath. absurd (beneath.apart (on_asked plan e past step beneath.run p.0 t.0 (asked_here p t (act_of plan e) by) beneath.live beneath.inside)))
    (walk_or_run plan past step.2 t.0 p.0 inside))
    (λ out. out)
    (cases_Bool (is_in p.0 (chain plan past t.0))) in
    inr (
      p.0,
      t.0,
      record {
        same = λ m other. ap (λ a. a.target) (other_aim plan e past step p t by m other);
        led = led;
        away = away;
      },
      target_within plan t.0 it.queue,
    ))
    (cases_Bool (is_open_on plan past p.0))

-- the run that the event ends, if any
ended_run : (e : Event) → ((q : Run) → closes e q ≡ false) ⊎ ((x : Run) × ((q : Run) → closes e q ≡ same_run x q))
ended_run (End w b) = inr (Block b, λ q. refl)
ended_run (DeliverEnd w s) = inr (Source s, λ q. refl)
ended_run e = inl (λ q. refl)

-- away from the node of the run that ends, targets stay
away_from : (plan : PlanView) (e : Event) (past : List Event) → Step plan e past → ((o : ℕ) → asked o (act_of plan e) ≡ None) → (x : Run) → ((q : Run) → closes e q ≡ same_run x q) → (m : ℕ) → (node_of_run plan past x ≡ Some m → ⊥) → target plan (e ∷ past) m ≡ target plan past m
away_from plan e past step none x ends m apart =
    ap (λ a. a.target) (aim_unasked plan e past m (none m) (still_open plan e past m step.1.0 (λ q live node.
    ends q ∙ ⊎_elim
    (λ same. absurd (apart (subst (λ k. node_of_run plan past k ≡ Some m) (sym (same_run-true x q same)) node)))
    (λ other. other)
    (cases_Bool (same_run x q)))))

-- at that node, the target stays, or is what was asked for before
record Settles (plan : PlanView) (e : Event) (past : List Event) (n : ℕ) : Type 0 where
  pub goal : ℕ
  pub request : (aim plan past n).request ≡ Some goal
  pub led : target plan (e ∷ past) n ≡ goal

stays_or_settles : (plan : PlanView) (e : Event) (past : List Event) → ((o : ℕ) → asked o (act_of plan e) ≡ None) → (n : ℕ) → (target plan (e ∷ past) n ≡ target plan past n) ⊎ Settles plan e past n
stays_or_settles plan e past none n =
    ⊎_elim (λ same. inl same) (λ one. inr (record { goal = one.0; request = one.1; led = one.2 }))
    (after_target_why (λ m. (m ≡ target plan past n) ⊎ ((t : ℕ) × ((aim plan past n).request ≡ Some t) × (m ≡ t)))
    (asked n (act_of plan e)) (is_open_on plan past n) (is_open_on plan (e ∷ past) n) (aim plan past n)
    (inl refl)
    (λ t k idle. absurd (none-some t (sym (none n) ∙ k)))
    (λ t k was shut some. inr (t, some, refl)))

-- an object that settles goes where its walk went, and that does not come back
settles_away : (plan : PlanView) (e : Event) (past : List Event) → Step plan e past → (n : ℕ) (one : Settles plan e past n) → is_in n (chain plan past one.goal) ≡ false
settles_away plan e past step n one =
    let moving : is_moving plan past n ≡ true = ap is_some one.request in
    let q = open_on_to plan past n (step.2.moving_open n moving) in
    let within : n < length plan.objects = has_object is_node_kind plan n (open_node plan past q.0 n step.0 step.1.0 q.1 q.2) in
    let led : next_on_walk plan past n ≡ one.goal = ap (λ k. unwrap_or k (target plan past n)) one.request in
    ⊎_elim
    (λ inside. ⊎_elim
    (λ walk.
    let back : is_in n (chain_by (next_on_walk plan past) (length plan.objects) (next_on_walk plan past n)) ≡ true = subst (λ m. is_in n (chain_by (next_on_walk plan past) (length plan.objects) m) ≡ true) (sym led) walk in
    let low : n ≡ 0 → ⊥ = λ root. none-some one.goal (sym step.2.unmoved_root ∙ ap (λ m. (aim plan past m).request) (sym root) ∙ one.request) in
    absurd (no_way_back (next_on_walk plan past) (length plan.objects) (length plan.objects - 1) n (step.2.walks_rooted n within) low back))
    (λ beneath. absurd (beneath.apart (step.2.moving_alone n beneath.run moving beneath.live beneath.inside)))
    (walk_or_run plan past step.2 one.goal n inside))
    (λ out. out)
    (cases_Bool (is_in n (chain plan past one.goal)))

-- an event that asks for nothing leads at most the node of the run that it ends elsewhere
end_leads : (plan : PlanView) (e : Event) (past : List Event) → Step plan e past → ((o : ℕ) → asked o (act_of plan e) ≡ None) → (x : Run) → ((q : Run) → closes e q ≡ same_run x q) → Leads plan (target plan past) (target plan (e ∷ past))
end_leads plan e past step none x ends =
    elim (node_of_run plan past x) as (λ k. node_of_run plan past x ≡ k → Leads plan (target plan past) (target plan (e ∷ past))) [
      | None ↦ λ at. inl (λ m. away_from plan e past step none x ends m (λ node. none-some m (sym at ∙ node)))
      | Some n ↦ λ at.
          let others : (m : ℕ) → (m ≡ n → ⊥) → target plan (e ∷ past) m ≡ target plan past m = λ m other. away_from plan e past step none x ends m (λ node. other (same_Some m n (sym node ∙ at))) in
          ⊎_elim
          (λ same. inl (λ m. ⊎_elim (λ here. subst (λ k. target plan (e ∷ past) k ≡ target plan past k) (sym here) same) (others m) (cases_eq m n)))
          (λ one. inr (n, one.goal, record { same = others; led = one.led; away = settles_away plan e past step n one }, target_within plan one.goal (step.2.requests n one.goal one.request)))
          (stays_or_settles plan e past none n)
    ] refl

targets_lead : (plan : PlanView) (e : Event) (past : List Event) → Step plan e past → Leads plan (target plan past) (target plan (e ∷ past))
targets_lead plan e past step =
    ⊎_elim
    (λ by. target_leads plan e past step by.0 by.1 by.2)
    (λ none. ⊎_elim
    (λ quiet. inl (λ m. ap (λ a. a.target) (aim_unasked plan e past m (none m) (still_open plan e past m step.1.0 (λ q live node. quiet q)))))
    (λ ending. end_leads plan e past step none ending.0 ending.1)
    (ended_run e))
    (target_or_none (act_of plan e))

stands_step : (plan : PlanView) (e : Event) (past : List Event) → Step plan e past → Standing plan (e ∷ past)
stands_step plan e past step =
    let queues = queues_step plan e past step in
    let requests = requests_step plan e past step in
    record {
      queues = queues;
      requests = requests;
      unmoved_root = root_step plan e past step;
      moving_open = open_step plan e past step;
      moving_alone = alone_step plan e past step;
      active = active_step plan e past step;
      rooted = led_reaches plan (target plan past) (target plan (e ∷ past)) step.0 (λ m. target_within plan (target plan (e ∷ past) m) (queues m)) step.2.rooted (targets_lead plan e past step);
      walks_rooted = led_reaches plan (next_on_walk plan past) (next_on_walk plan (e ∷ past)) step.0
          (λ m. target_within plan (next_on_walk plan (e ∷ past) m) (walk_queues plan (e ∷ past) queues requests m)) step.2.walks_rooted (walks_lead plan e past step);
    }

pub stands : (plan : PlanView) (past : List Event) → IsPlan plan → IsLawful plan past → Standing plan past
stands plan [] valid h = stands_first plan valid
stands plan (e ∷ past) valid h = stands_step plan e past (valid, h, stands plan past valid h.0)
