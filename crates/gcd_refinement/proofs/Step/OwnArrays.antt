-- The machine's own arrays after an event: their lengths, and that what they name is of the plan.
use Rattle.std.proofs.Common.{◌≡◌, ◌⊎◌, inl, inr, ℕ, zero, suc, ◌+◌, ◌<◌, ◌==◌, ltb, Bool, true, false, not, ◌&&◌, cond, List, [], ◌∷◌, ◌++◌, length, drop, get_or, set, Option, Some, None, refl, ap, sym, ◌∙◌, subst, ⊎_elim}
use Rattle.std.specs.List.{fold, range_with_len}
use Rattle.std.specs.Option.{option_and_then, option_or}
use Rattle.std.proofs.lemmas.Bool.{and_parts, or_cases}
use Rattle.std.proofs.lemmas.List.{length-set, length-map}
use Rattle.std.proofs.lemmas.List.FromFn.{length-range_with_len}
use Rattle.std.proofs.lemmas.Option.{same_Some}
use Rattle.gcd_plan.specs.PlanView.{PlanView}
use Rattle.gcd_plan.specs.Kinds.{has_kind, is_group_kind, is_queue, is_queue_kind, is_source, is_read_kind}
use Rattle.gcd_plan.specs.Validity.{IsPlan, is_act, is_declared}
use Rattle.gcd_plan.specs.declared.act.Act.{Act}
use Rattle.gcd_plan.specs.declared.act.Act.TheVariants.{Sync, BarrierSync, GroupAsync, Notify, GroupWait, GroupWaitFor, Signal, Wait, WaitFor, Apply, WaitBlock, NotifyBlock}
use Rattle.gcd_plan.specs.declared.numbers.Blk.{Blk}
use Rattle.gcd_plan.specs.declared.numbers.Obj.{Obj}
use Rattle.gcd_plan.specs.declared.numbers.Run.{Run}
use Rattle.gcd_plan.specs.declared.numbers.Run.TheVariants.{Block, Source}
use Rattle.gcd_plan.proofs.Within.{has_object}
use Rattle.gcd_event.specs.declared.event.Event.{Event}
use Rattle.gcd_event.specs.declared.event.Event.TheVariants.{Start, Act as Acted, Wake, End, Deliver, DeliverEnd, Tick, Expire}
use Rattle.gcd_history.specs.declared.submission.Submission.{Submission}
use Rattle.gcd_history.specs.Runs.{opens, is_open, act_at, act_of}
use Rattle.gcd_history.specs.Submitted.{submitted, submission_of, cancels}
use Rattle.gcd_history.specs.Parked.{is_parking, has_run}
use Rattle.gcd_history.specs.Permitted.{IsLawful, is_worker, has_block, is_run_of}
use Rattle.gcd_history.proofs.Lists.{found_passes}
use Rattle.gcd_history.proofs.Permitted.Reasons.{allowed}
use Rattle.gcd_history.proofs.Runs.Open.{same_run-true, same_run-refl, closes, is_open-step}
use Rattle.gcd_history.proofs.Blocks.StartedOnce.{open_from_has_run}
use Rattle.gcd_history.proofs.Blocks.SubmittedOnNodes.{on_a_node, submitted_fit, recorded_fits}
use Rattle.gcd_lists.specs.ListsView.{ListsView, list_at, without}
use Rattle.gcd_group.specs.GroupsView.{count_at}
use Rattle.gcd_sema.specs.SemasView.{has_value_at}
use Rattle.gcd_sync.specs.WaitsView.{reason_at}
use Rattle.gcd_apply.specs.StripsView.{left_at}
use Rattle.gcd_refinement.specs.MachineView.{MachineView, handler_at, applier_at, ended_at, idle}
use Rattle.gcd_refinement.specs.declared.progress.BlockProgress.{BlockProgress}
use Rattle.gcd_refinement.specs.Shape.{OwnFit}
use Rattle.gcd_refinement.specs.Sleepers.{grouped, group_of, called_by, calls, caller_of}
use Rattle.gcd_refinement.specs.Ties.{BlocksAre, WorkersAre, is_run}
use Rattle.gcd_refinement.specs.Submits.{submits, emptied_by, done_by, come_by, activated_by, newly_cancelled}
use Rattle.gcd_refinement.specs.After.{woken, noted, blocks_by, delivered, handlers_after, marked, busy_at_event, ended_after, after}
use Rattle.gcd_refinement.specs.AfterSleepers.{popped, pushed_on, bed_of, removed, asleep, asleep_by_handler, asleep_after, all_woken, waiting_by, waiters_after, applied_by, none_applying, appliers_after}
use Rattle.gcd_refinement.specs.AfterLimits.{laid_ahead, laid_ripe, still_ahead, is_ripe_by, limit_asleep, ahead_at_event, ripe_at_event, without_limit, without_ripe}
use Rattle.gcd_refinement.specs.AfterTotals.{workers_after, live_begun, live_ended, live_after}
use Rattle.gcd_refinement.proofs.Lists.Writes.{entry_cleared}
use Rattle.gcd_refinement.proofs.Groups.NotifyQueues.{home_of, homed, homes_after}
use Rattle.gcd_refinement.proofs.Blocks.Registered.{registers_at}
use Rattle.gcd_refinement.proofs.Step.Blocks.{by_long}
use Rattle.gcd_refinement.proofs.Step.Lists.{node_within}
use Rattle.gcd_refinement.proofs.Step.NodeMarks.{event_long, marked_long}
use Rattle.gcd_refinement.proofs.Step.Waits.{known_block}
use Rattle.gcd_refinement.proofs.Step.Wakeable.{woken_long, wakeable_long}
use Rattle.gcd_source.specs.SourcesView.{is_cancelled_at}

-- ## What the history names is of the plan

node_known : (plan : PlanView) (past : List Event) (b : ℕ) (q : Obj) → IsPlan plan → option_and_then (λ (s : Submission). s.node) (submission_of plan past b) ≡ Some q → q.0 < length plan.objects
node_known plan past b q valid at =
    elim (submission_of plan past b) as (λ o. submission_of plan past b ≡ o → option_and_then (λ (s : Submission). s.node) o ≡ Some q → q.0 < length plan.objects) [
      | None ↦ λ none k. cc
      | Some s ↦ λ some k. node_within plan s (found_passes (λ t. t.blk.0 == b) (on_a_node plan) (submitted plan past) s some (submitted_fit plan past valid)).1 q k
    ] refl at

grouped_known : (plan : PlanView) (act : Act) (b : ℕ) (g : Obj) → is_act plan act ≡ true → grouped b (Some act) ≡ Some g → g.0 < length plan.objects
grouped_known plan (GroupAsync h q c) b g fits at =
    let low = has_object is_group_kind plan h.0 (and_parts (has_kind is_group_kind plan h.0) (is_queue plan q.0 && is_declared plan c) fits).0 in
    elim (c.0 == b) as (λ t. cond t (Some h) None ≡ Some g → g.0 < length plan.objects) [ true ↦ λ k. subst (λ o. o.0 < length plan.objects) (same_Some h g k) low | false ↦ λ k. cc ] at
grouped_known plan act b g fits at = cc

either : {X : Type 0} (P : X → Type 0) (o p : Option X) (x : X) → ((y : X) → o ≡ Some y → P y) → ((y : X) → p ≡ Some y → P y) → option_or o p ≡ Some x → P x
either P None p x first second at = second x at
either P (Some y) p x first second at = subst P (same_Some y x at) (first y refl)

group_known : (plan : PlanView) (past : List Event) (b : ℕ) (g : Obj) → IsPlan plan → group_of plan past b ≡ Some g → g.0 < length plan.objects
group_known plan [] b g valid at = cc
group_known plan (e ∷ past) b g valid at =
    either (λ (o : Obj). o.0 < length plan.objects) (grouped b (act_of plan e)) (group_of plan past b) g
    (λ h now. by (act_of plan e) refl h now)
    (λ h was. group_known plan past b h valid was) at
  where
    by : (act : Option Act) → act_of plan e ≡ act → (h : Obj) → grouped b act ≡ Some h → h.0 < length plan.objects
    by None is h now = cc
    by (Some act) is h now = grouped_known plan act b h (recorded_fits plan e act valid is) now

called_is_own : (c : ℕ) (b d : Blk) (act : Option Act) → called_by c b act ≡ Some d → b ≡ d
called_is_own c b d (Some (Sync q k)) at = elim (k.0 == c) as (λ t. cond t (Some b) None ≡ Some d → b ≡ d) [ true ↦ λ h. same_Some b d h | false ↦ λ h. cc ] at
called_is_own c b d (Some (BarrierSync q k)) at = elim (k.0 == c) as (λ t. cond t (Some b) None ≡ Some d → b ≡ d) [ true ↦ λ h. same_Some b d h | false ↦ λ h. cc ] at
called_is_own c b d act at = cc

call_known : (plan : PlanView) (past : List Event) (e : Event) (c : ℕ) (d : Blk) → IsLawful plan (e ∷ past) → calls plan c e ≡ Some d → d.0 < length plan.blocks
call_known plan past (Acted w (Block b) i) c d lawful at = subst (λ k. k.0 < length plan.blocks) (called_is_own c b d (act_at plan (Block b) i) at) (known_block plan past w b i lawful)
call_known plan past (Acted w (Source s) i) c d lawful at = cc
call_known plan past e c d lawful at = cc

caller_known : (plan : PlanView) (past : List Event) (c : ℕ) (d : Blk) → IsLawful plan past → caller_of plan past c ≡ Some d → d.0 < length plan.blocks
caller_known plan [] c d lawful at = cc
caller_known plan (e ∷ past) c d lawful at =
    either (λ (k : Blk). k.0 < length plan.blocks) (calls plan c e) (caller_of plan past c) d (λ k now. call_known plan past e c k lawful now) (λ k was. caller_known plan past c k lawful.0 was) at

-- an open run is of the plan
opens_known : (plan : PlanView) (past : List Event) (e : Event) (run : Run) → IsLawful plan (e ∷ past) → opens e run ≡ true → is_run_of plan run ≡ true
opens_known plan past (Start w b) run lawful now =
    subst (λ r. is_run_of plan r ≡ true) (same_run-true (Block b) run now) (and_parts (is_worker w) (has_block plan b.0) (allowed plan past (Start w b) lawful.1).known).1
opens_known plan past (Deliver w s) run lawful now =
    subst (λ r. is_run_of plan r ≡ true) (same_run-true (Source s) run now) (and_parts (is_worker w) (is_source plan s.0) (allowed plan past (Deliver w s) lawful.1).known).1
opens_known plan past e run lawful now = cc

open_known : (plan : PlanView) (past : List Event) (run : Run) → IsLawful plan past → is_open past run ≡ true → is_run_of plan run ≡ true
open_known plan [] run lawful live = cc
open_known plan (e ∷ past) run lawful live =
    ⊎_elim
    (λ now. opens_known plan past e run lawful now)
    (λ was. open_known plan past run lawful.0 (and_parts (not (closes e run)) (is_open past run) was).1)
    (or_cases (opens e run) (not (closes e run) && is_open past run) (sym (is_open-step e past run) ∙ live))

-- ## Lengths

record Alike (a b : ListsView) : Type 0 where
  lists : length b.lists ≡ length a.lists
  blocks : b.blocks ≡ a.blocks

same_lists : (a : ListsView) → Alike a a
same_lists a = record { lists = refl; blocks = refl }

pushed_alike : (a : ListsView) (n : Obj) (b : Blk) (barrier : Bool) → Alike a (pushed_on a n b barrier)
pushed_alike a n b barrier = record { lists = length-set a.lists n.0 (list_at a n.0 ++ (b, barrier) ∷ []); blocks = refl }

popped_alike : (a : ListsView) (n : Obj) → Alike a (popped a (Some n))
popped_alike a n = record { lists = length-set a.lists n.0 (drop 1 (list_at a n.0)); blocks = refl }

slept_alike : (t : Bool) (a : ListsView) (o : Obj) (b : Blk) → Alike a (cond t a (pushed_on a o b false))
slept_alike true a o b = same_lists a
slept_alike false a o b = pushed_alike a o b false

asleep_alike : (v : MachineView) (b : Blk) (act : Option Act) → Alike v.sleepers (asleep v b act)
asleep_alike v b (Some (Wait s)) = slept_alike (has_value_at v.semas s.0) v.sleepers s b
asleep_alike v b (Some (WaitFor s ms)) = slept_alike (has_value_at v.semas s.0) v.sleepers s b
asleep_alike v b (Some (GroupWait g)) = slept_alike (count_at v.groups g.0 == 0) v.sleepers g b
asleep_alike v b (Some (GroupWaitFor g ms)) = slept_alike (count_at v.groups g.0 == 0) v.sleepers g b
asleep_alike v b (Some (Signal s)) = popped_alike v.sleepers s
asleep_alike v b act = same_lists v.sleepers

handler_alike : (v : MachineView) (act : Option Act) → Alike v.sleepers (asleep_by_handler v act)
handler_alike v (Some (Signal s)) = popped_alike v.sleepers s
handler_alike v act = same_lists v.sleepers

waiting_alike : (v : MachineView) (b : Blk) (act : Option Act) → Alike v.waiters (waiting_by v b act)
waiting_alike v b (Some (WaitBlock c)) = slept_alike (ended_at v c.0) v.waiters (record { 0 = c.0 }) b
waiting_alike v b act = same_lists v.waiters

waiters_alike : (plan : PlanView) (v : MachineView) (e : Event) → Alike v.waiters (waiters_after plan v e)
waiters_alike plan v (Acted w (Block b) i) = waiting_alike v b (act_at plan (Block b) i)
waiters_alike plan v (Acted w (Source s) i) = same_lists v.waiters
waiters_alike plan v (End w b) = record { lists = length-set v.waiters.lists b.0 []; blocks = refl }
waiters_alike plan v e = same_lists v.waiters

applied_long : (v : MachineView) (b : Blk) (act : Option Act) → length (applied_by v b act) ≡ length v.appliers
applied_long v b (Some (Apply q a)) =
    elim (left_at v.strips a == 0) as (λ t. length (cond t v.appliers (set v.appliers a (Some b))) ≡ length v.appliers) [ true ↦ refl | false ↦ length-set v.appliers a (Some b) ]
applied_long v b act = refl

appliers_long : (plan : PlanView) (v : MachineView) (e : Event) → length (appliers_after plan v e) ≡ length v.appliers
appliers_long plan v (Acted w (Block b) i) = applied_long v b (act_at plan (Block b) i)
appliers_long plan v (Acted w (Source s) i) = refl
appliers_long plan v (End w b) =
    by (done_by v b)
  where
    by : (o : Option ℕ) → length (none_applying v.appliers o) ≡ length v.appliers
    by None = refl
    by (Some a) = length-set v.appliers a None
appliers_long plan v e = refl

removed_alike : (a : ListsView) (o : Option Obj) (b : Blk) → Alike a (removed a o b)
removed_alike a None b = same_lists a
removed_alike a (Some o) b = record { lists = length-set a.lists o.0 (without b.0 (list_at a o.0)); blocks = refl }

event_alike : (plan : PlanView) (v : MachineView) (e : Event) → Alike v.sleepers (asleep_after plan v e)
event_alike plan v (Acted w (Block b) i) = asleep_alike v b (act_at plan (Block b) i)
event_alike plan v (Acted w (Source s) i) = handler_alike v (act_at plan (Source s) i)
event_alike plan v (Expire b) = removed_alike v.sleepers (bed_of (reason_at v.waits b.0)) b
event_alike plan v e = same_lists v.sleepers

woken_alike : (a b : ListsView) (o : Option Obj) → Alike a b → Alike a (all_woken b o)
woken_alike a b None alike = alike
woken_alike a b (Some g) alike = record { lists = length-set b.lists g.0 [] ∙ alike.lists; blocks = alike.blocks }

noted_long : (subs : List Submission) (blocks : List BlockProgress) → length (fold noted blocks subs) ≡ length blocks
noted_long [] blocks = refl
noted_long (s ∷ subs) blocks = noted_long subs (noted blocks s) ∙ length-set blocks s.blk.0 (record (get_or blocks s.blk.0 idle) { node = s.node; barrier = s.barrier })

over_long : (bs : List Blk) (ahead : List (Option ℕ)) → length (fold without_limit ahead bs) ≡ length ahead
over_long [] ahead = refl
over_long (b ∷ bs) ahead = over_long bs (without_limit ahead b) ∙ length-set ahead b.0 None

pub unripe_long : (ripe : List Bool) (bs : List Blk) → length (fold without_ripe ripe bs) ≡ length ripe
unripe_long ripe [] = refl
unripe_long ripe (b ∷ bs) = unripe_long (set ripe b.0 false) bs ∙ length-set ripe b.0 false

laid_long : (v : MachineView) (b : Blk) (limit : Option ℕ) → (length (laid_ahead v b limit) ≡ length v.ahead) × (length (laid_ripe v b limit) ≡ length v.ripe)
laid_long v b None = (refl, refl)
laid_long v b (Some end) =
    elim (ltb v.timers.moment end) as (λ t. (length (cond t (set v.ahead b.0 (Some end)) v.ahead) ≡ length v.ahead) × (length (cond t v.ripe (set v.ripe b.0 true)) ≡ length v.ripe)) [
      | true ↦ (length-set v.ahead b.0 (Some end), refl)
      | false ↦ (refl, length-set v.ripe b.0 true)
    ]

pub ahead_long : (plan : PlanView) (v : MachineView) (e : Event) → length (ahead_at_event plan v e) ≡ length v.ahead
ahead_long plan v (Acted w (Block b) i) = (laid_long v b (limit_asleep v b (act_at plan (Block b) i))).0
ahead_long plan v (Acted w (Source s) i) = refl
ahead_long plan v (Tick t) = length-map v.ahead (still_ahead t)
ahead_long plan v e = refl

pub ripe_long : (plan : PlanView) (v : MachineView) (e : Event) → length (ripe_at_event plan v e) ≡ length v.ripe
ripe_long plan v (Acted w (Block b) i) = (laid_long v b (limit_asleep v b (act_at plan (Block b) i))).1
ripe_long plan v (Acted w (Source s) i) = refl
ripe_long plan v (Tick t) = length-map (range_with_len 0 (length v.ripe)) (is_ripe_by v t) ∙ length-range_with_len 0 (length v.ripe)
ripe_long plan v e = refl

all_marked_long : (subs : List Submission) (busy : List Bool) → length (fold marked busy subs) ≡ length busy
all_marked_long [] busy = refl
all_marked_long (s ∷ subs) busy = all_marked_long subs (marked busy s) ∙ marked_long busy s

ended_long : (v : MachineView) (e : Event) → length (ended_after v e) ≡ length v.ended
ended_long v (End w b) = length-set v.ended b.0 true
ended_long v e = refl

handlers_long : (v : MachineView) (e : Event) → length (handlers_after v e) ≡ length v.handlers
handlers_long v (Deliver w s) = length-set v.handlers s.0 (delivered v s.0)
handlers_long v (Acted w (Block b) i) = refl
handlers_long v (Acted w (Source s) i) = length-set v.handlers s.0 (record (handler_at v s.0) { done = (handler_at v s.0).done + 1 })
handlers_long v e = refl

workers_long : (plan : PlanView) (v : MachineView) (e : Event) → length (workers_after plan v e) ≡ length v.workers
workers_long plan v (Start w b) = length-set v.workers w (Some (Block b))
workers_long plan v (Wake w b) = length-set v.workers w (Some (Block b))
workers_long plan v (Deliver w s) = length-set v.workers w (Some (Source s))
workers_long plan v (End w b) = length-set v.workers w None
workers_long plan v (DeliverEnd w s) = length-set v.workers w None
workers_long plan v (Acted w r i) = elim (is_parking (act_at plan r i)) as (λ t. length (cond t (set v.workers w None) v.workers) ≡ length v.workers) [ true ↦ length-set v.workers w None | false ↦ refl ]
workers_long plan v e = refl

live_ended_long : (live : List Bool) (o : Option Obj) → length (live_ended live o) ≡ length live
live_ended_long live None = refl
live_ended_long live (Some s) = length-set live s.0 false

pub live_begun_long : (plan : PlanView) (v : MachineView) (o : Option Obj) → length (live_begun plan v o) ≡ length v.live
live_begun_long plan v None = refl
live_begun_long plan v (Some o) =
    elim (has_kind is_read_kind plan o.0 && not (is_cancelled_at v.sources o.0)) as (λ t. length (cond t (set v.live o.0 true) v.live) ≡ length v.live) [
      | true ↦ length-set v.live o.0 true
      | false ↦ refl
    ]

pub live_long : (plan : PlanView) (v : MachineView) (e : Event) → length (live_after plan v e) ≡ length v.live
live_long plan v e =
    live_ended_long (live_begun plan v (activated_by v (act_of plan e))) (newly_cancelled v (cancels plan e))
    ∙ live_begun_long plan v (activated_by v (act_of plan e))

-- ## The step

home_known : (plan : PlanView) (e : Event) (b : ℕ) (h : Obj) (act : Option Act) → IsPlan plan → act_of plan e ≡ act → h.0 < length plan.objects → (homed b act h).0 < length plan.objects
home_known plan e b h (Some (Notify g q c)) valid at low =
    let queue = has_object is_queue_kind plan q.0 (and_parts (is_queue plan q.0) (is_declared plan c) (and_parts (has_kind is_group_kind plan g.0) (is_queue plan q.0 && is_declared plan c) (recorded_fits plan e (Notify g q c) valid at)).1).0 in
    elim (c.0 == b) as (λ t. (cond t q h).0 < length plan.objects) [ true ↦ queue | false ↦ low ]
home_known plan e b h (Some (NotifyBlock d q c)) valid at low =
    let queue = has_object is_queue_kind plan q.0 (and_parts (is_queue plan q.0) (is_declared plan c) (and_parts (is_declared plan d) (is_queue plan q.0 && is_declared plan c) (recorded_fits plan e (NotifyBlock d q c) valid at)).1).0 in
    elim (c.0 == b) as (λ t. (cond t q h).0 < length plan.objects) [ true ↦ queue | false ↦ low ]
home_known plan e b h act valid at low = low

-- who applied a strip is of the plan
set_some : (xs : List (Option Blk)) (i k : ℕ) (c b : Blk) → get_or (set xs i (Some c)) k None ≡ Some b → (get_or xs k None ≡ Some b) ⊎ (c ≡ b)
set_some [] i k c b at = inl at
set_some (x ∷ xs) zero zero c b at = inr (same_Some c b at)
set_some (x ∷ xs) zero (suc k) c b at = inl at
set_some (x ∷ xs) (suc i) zero c b at = inl at
set_some (x ∷ xs) (suc i) (suc k) c b at = set_some xs i k c b at

applied_known : (plan : PlanView) (past : List Event) (e : Event) (v : MachineView) (a : ℕ) (b : Blk) → IsLawful plan (e ∷ past) → ((k : ℕ) (c : Blk) → applier_at v k ≡ Some c → c.0 < length plan.blocks) → get_or (appliers_after plan v e) a None ≡ Some b
    → b.0 < length plan.blocks
applied_known plan past (Acted w (Block c) i) v a b lawful own at =
    by (act_at plan (Block c) i) at
  where
    by : (act : Option Act) → get_or (applied_by v c act) a None ≡ Some b → b.0 < length plan.blocks
    by (Some (Apply q k)) at =
        elim (left_at v.strips k == 0) as (λ t. get_or (cond t v.appliers (set v.appliers k (Some c))) a None ≡ Some b → b.0 < length plan.blocks) [
          | true ↦ λ old. own a b old
          | false ↦ λ new. ⊎_elim (λ old. own a b old) (λ same. subst (λ d. d.0 < length plan.blocks) same (known_block plan past w c i lawful)) (set_some v.appliers k a c b new)
        ] at
    by act at = own a b at
applied_known plan past (End w c) v a b lawful own at =
    by (done_by v c) at
  where
    by : (o : Option ℕ) → get_or (none_applying v.appliers o) a None ≡ Some b → b.0 < length plan.blocks
    by None at = own a b at
    by (Some k) at =
        elim (k == a) as (λ t. cond t None (get_or v.appliers a None) ≡ Some b → b.0 < length plan.blocks) [ true ↦ λ none. cc | false ↦ λ old. own a b old ] (sym (entry_cleared v.appliers k a None) ∙ at)
applied_known plan past (Acted w (Source s) i) v a b lawful own at = own a b at
applied_known plan past e v a b lawful own at = own a b at

-- what the arrays name follows from the ties after the event
pub own_step : (plan : PlanView) (past : List Event) (e : Event) (v : MachineView) → IsPlan plan → IsLawful plan (e ∷ past) → OwnFit plan v → BlocksAre plan (e ∷ past) (after plan v e) → WorkersAre plan (e ∷ past) (after plan v e) → OwnFit plan (after plan v e)
own_step plan past e v valid lawful own blocks workers =
    let sleepers = woken_alike v.sleepers (asleep_after plan v e) (emptied_by plan v e) (event_alike plan v e) in
    let waiters = waiters_alike plan v e in
    let wide = own.blocks in
    record {
      sleepers = sleepers.lists ∙ own.sleepers;
      sleeper_blocks = sleepers.blocks ∙ own.sleeper_blocks;
      blocks = noted_long (submits plan v e) (blocks_by plan v e) ∙ (by_long plan v e ∙ own.blocks);
      ended = ended_long v e ∙ own.ended;
      wakeable = wakeable_long (woken v.wakeable e) (come_by plan v e) ∙ (woken_long v.wakeable e ∙ own.wakeable);
      ahead = over_long (come_by plan v e) (ahead_at_event plan v e) ∙ (ahead_long plan v e ∙ own.ahead);
      ripe = unripe_long (ripe_at_event plan v e) (come_by plan v e) ∙ (ripe_long plan v e ∙ own.ripe);
      handlers = handlers_long v e ∙ own.handlers;
      busy = all_marked_long (submits plan v e) (busy_at_event plan v e) ∙ (event_long plan v e ∙ own.busy);
      live = live_long plan v e ∙ own.live;
      workers = workers_long plan v e ∙ own.workers;
      nodes = λ b q at. node_known plan (e ∷ past) b q valid (sym (blocks.node b) ∙ at);
      groups = λ b g at. group_known plan (e ∷ past) b g valid (sym (blocks.group b) ∙ at);
      homes = λ b.
          subst (λ (o : Obj). o.0 < length plan.objects)
          (sym (homes_after plan v e b (registers_at plan e (length v.blocks) valid wide)))
          (home_known plan e b (home_of v.blocks b) (act_of plan e) valid refl (own.homes b));
      waiters = waiters.lists ∙ own.waiters;
      waiter_blocks = waiters.blocks ∙ own.waiter_blocks;
      appliers = appliers_long plan v e ∙ own.appliers;
      applied_by = λ a b at. applied_known plan past e v a b lawful own.applied_by at;
      callers = λ b c at. caller_known plan (e ∷ past) b c lawful (sym (blocks.caller b) ∙ at);
      runs = λ w run at.
          let has : has_run plan (e ∷ past) w run ≡ true = workers.runs w run ∙ (ap (is_run run) at ∙ same_run-refl run) in
          open_known plan (e ∷ past) run lawful (open_from_has_run plan (e ∷ past) w run has);
    }
