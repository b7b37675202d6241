-- In every history of a valid plan each block is submitted on a queue or source, and main alone on nothing.
use Rattle.std.proofs.Common.{◌≡◌, ℕ, Bool, true, false, cond, ◌==◌, List, [], ◌∷◌, ◌++◌, length, Option, Some, None, is_none, option_and_then, option_map, refl, ap, ◌∙◌}
use Rattle.std.specs.List.{list_all, slice_get, flat_map, range_with_len}
use Rattle.std.specs.Option.{option_map_or, IfSome}
use Rattle.std.proofs.lemmas.Bool.{and_parts, and_from, both_ways}
use Rattle.std.proofs.lemmas.List.Folds.{list_all-append}
use Rattle.gcd_plan.specs.PlanView.{PlanView, ObjView, kind_of, cancel_block}
use Rattle.gcd_plan.specs.Kinds.{has_kind, is_queue, is_node, is_source, is_queue_kind, is_node_kind, is_source_kind, is_group_kind}
use Rattle.gcd_plan.specs.Made.{strip_blocks}
use Rattle.gcd_plan.specs.Validity.{IsPlan, IsIntake, is_act, is_block, is_work, has_fields, is_declared}
use Rattle.gcd_plan.specs.declared.act.Act.{Act}
use Rattle.gcd_plan.specs.declared.act.Act.TheVariants.{Async, Barrier, Sync, BarrierSync, GroupAsync, Notify, Apply, NotifyBlock}
use Rattle.gcd_plan.specs.declared.kind.Kind.{Kind}
use Rattle.gcd_plan.specs.declared.kind.Kind.TheVariants.{Serial, Concurrent, Group, Semaphore}
use Rattle.gcd_plan.specs.declared.numbers.Blk.{Blk}
use Rattle.gcd_plan.specs.declared.numbers.Obj.{Obj}
use Rattle.gcd_plan.specs.declared.numbers.Run.{Run}
use Rattle.gcd_plan.specs.declared.numbers.Run.TheVariants.{Block, Source}
use Rattle.gcd_event.specs.declared.event.Event.{Event}
use Rattle.gcd_event.specs.declared.event.Event.TheVariants.{Act as Acted, Accept}
use Rattle.gcd_history.specs.declared.submission.Submission.{Submission}
use Rattle.gcd_history.specs.Runs.{act_at, act_of, is_ended}
use Rattle.gcd_history.specs.Groups.{count}
use Rattle.gcd_history.specs.Submitted.{submission, on_node, submitted_by, accepted_by, cancels, is_cancelled, at_cancel, registered, notify_blocks, at_empty, registered_at_end, end_notify_blocks, at_end, new_submissions, submitted}
use Rattle.gcd_plan.proofs.Quantifiers.{list_all_get}
use Rattle.gcd_history.proofs.Lists.{all_flat, all_map}
use Rattle.gcd_history.proofs.Blocks.SubmittedOnce.{handler_act, object_fields}

-- ## Queues and sources

-- a kind that passes one test passes another
pub kind_implies : (p q : Kind → Bool) (plan : PlanView) (o : ℕ) → ((kind : Kind) → p kind ≡ true → q kind ≡ true) → has_kind p plan o ≡ true → has_kind q plan o ≡ true
kind_implies p q plan o implies h =
    elim (kind_of plan o) as (λ k. option_map_or p k false ≡ true → option_map_or q k false ≡ true) [
      | None ↦ λ k. cc
      | Some kind ↦ λ k. implies kind k
    ] h

queue_kind_is_node : (kind : Kind) → is_queue_kind kind ≡ true → is_node_kind kind ≡ true
queue_kind_is_node Serial h = refl
queue_kind_is_node Concurrent h = refl
queue_kind_is_node kind h = cc

source_kind_is_node : (kind : Kind) → is_source_kind kind ≡ true → is_node_kind kind ≡ true
source_kind_is_node Serial h = cc
source_kind_is_node Concurrent h = cc
source_kind_is_node kind h = h

pub queue_is_node : (plan : PlanView) (o : ℕ) → is_queue plan o ≡ true → is_node plan o ≡ true
queue_is_node plan o h = kind_implies is_queue_kind is_node_kind plan o queue_kind_is_node h

pub source_is_node : (plan : PlanView) (o : ℕ) → is_source plan o ≡ true → is_node plan o ≡ true
source_is_node plan o h = kind_implies is_source_kind is_node_kind plan o source_kind_is_node h

-- ## Acts

-- an act of the plan is one that it may have
block_act : (plan : PlanView) (b : Blk) (i : ℕ) (act : Act) → IsPlan plan → act_at plan (Block b) i ≡ Some act → is_act plan act ≡ true
block_act plan b i act valid at =
    elim (slice_get plan.blocks b.0) as (λ o. slice_get plan.blocks b.0 ≡ o → slice_get (option_map_or (λ blk. blk.acts) o []) i ≡ Some act → is_act plan act ≡ true) [
      | None ↦ λ none k. cc
      | Some blk ↦ λ some k.
          let fine = (and_parts (option_map_or (is_work plan) blk.work true) (list_all (is_act plan) blk.acts) (list_all_get (is_block plan) plan.blocks b.0 blk valid.blocks some)).1 in
          list_all_get (is_act plan) blk.acts i act fine k
    ] refl at

pub act_fits : (plan : PlanView) (run : Run) (i : ℕ) (act : Act) → IsPlan plan → act_at plan run i ≡ Some act → is_act plan act ≡ true
act_fits plan (Block b) i act valid at = block_act plan b i act valid at
act_fits plan (Source s) i act valid at = (handler_act plan s i act valid at).1

-- the act that an event records
pub recorded_fits : (plan : PlanView) (e : Event) (act : Act) → IsPlan plan → act_of plan e ≡ Some act → is_act plan act ≡ true
recorded_fits plan (Acted w r i) act valid at = act_fits plan r i act valid at
recorded_fits plan e act valid at = cc

-- ## Submissions

-- it was submitted on a queue or source, or is main
abbrev pub on_a_node : PlanView → Submission → Bool
on_a_node plan s = option_map_or (λ o. is_node plan o.0) s.node (s.blk.0 == 0)

one_fits : (plan : PlanView) (q : Obj) (b : Blk) (barrier : Bool) → is_node plan q.0 ≡ true → list_all (on_a_node plan) (on_node q b barrier) ≡ true
one_fits plan q b barrier h = and_from (is_node plan q.0) true h refl

own_fit : (plan : PlanView) (act : Act) → is_act plan act ≡ true → list_all (on_a_node plan) (submitted_by plan (Some act)) ≡ true
own_fit plan (Async q b) h = one_fits plan q b false (queue_is_node plan q.0 (and_parts (is_queue plan q.0) _ h).0)
own_fit plan (Barrier q b) h = one_fits plan q b true (queue_is_node plan q.0 (and_parts (is_queue plan q.0) _ h).0)
own_fit plan (Sync q b) h = one_fits plan q b false (queue_is_node plan q.0 (and_parts (is_queue plan q.0) _ h).0)
own_fit plan (BarrierSync q b) h = one_fits plan q b true (queue_is_node plan q.0 (and_parts (is_queue plan q.0) _ h).0)
own_fit plan (GroupAsync g q b) h = one_fits plan q b false (queue_is_node plan q.0 (and_parts (is_queue plan q.0) _ (and_parts (has_kind is_group_kind plan g.0) _ h).1).0)
own_fit plan (Apply q a) h = all_map (on_a_node plan) (submission q false) (strip_blocks plan a) (λ b. queue_is_node plan q.0 (and_parts (is_queue plan q.0) _ h).0)
own_fit plan act h = refl

registered_fit : (plan : PlanView) (g : ℕ) (act : Act) → is_act plan act ≡ true → list_all (on_a_node plan) (registered g (Some act)) ≡ true
registered_fit plan g (Notify k q b) h =
    let one = one_fits plan q b false (queue_is_node plan q.0 (and_parts (is_queue plan q.0) _ (and_parts (has_kind is_group_kind plan k.0) _ h).1).0) in
    elim (k.0 == g) as (λ v. list_all (on_a_node plan) (cond v (on_node q b false) []) ≡ true) [ true ↦ one | false ↦ refl ]
registered_fit plan g act h = refl

registered_at_end_fit : (plan : PlanView) (b : ℕ) (act : Act) → is_act plan act ≡ true → list_all (on_a_node plan) (registered_at_end b (Some act)) ≡ true
registered_at_end_fit plan b (NotifyBlock c q n) h =
    let one = one_fits plan q n false (queue_is_node plan q.0 (and_parts (is_queue plan q.0) _ (and_parts (is_declared plan c) _ h).1).0) in
    elim (c.0 == b) as (λ v. list_all (on_a_node plan) (cond v (on_node q n false) []) ≡ true) [ true ↦ one | false ↦ refl ]
registered_at_end_fit plan b act h = refl

-- of the act that an event records, if it records one
of_recorded : (P : Option Act → Bool) (plan : PlanView) (e : Event) → IsPlan plan → P None ≡ true → ((act : Act) → is_act plan act ≡ true → P (Some act) ≡ true) → P (act_of plan e) ≡ true
of_recorded P plan e valid none some =
    elim (act_of plan e) as (λ o. act_of plan e ≡ o → P o ≡ true) [
      | None ↦ λ k. none
      | Some act ↦ λ k. some act (recorded_fits plan e act valid k)
    ] refl

both_fit : (plan : PlanView) (xs ys : List Submission) → list_all (on_a_node plan) xs ≡ true → list_all (on_a_node plan) ys ≡ true → list_all (on_a_node plan) (xs ++ ys) ≡ true
both_fit plan xs ys h k = list_all-append (on_a_node plan) xs ys ∙ and_from (list_all (on_a_node plan) xs) (list_all (on_a_node plan) ys) h k

notify_and_new : (plan : PlanView) (past : List Event) (e : Event) (g : ℕ) → IsPlan plan → list_all (on_a_node plan) (notify_blocks plan past g) ≡ true → list_all (on_a_node plan) (notify_blocks plan past g ++ registered g (act_of plan e)) ≡ true
notify_and_new plan past e g valid old =
    both_fit plan (notify_blocks plan past g) (registered g (act_of plan e)) old
    (of_recorded (λ o. list_all (on_a_node plan) (registered g o)) plan e valid refl (registered_fit plan g))

notify_fit : (plan : PlanView) (past : List Event) (g : ℕ) → IsPlan plan → list_all (on_a_node plan) (notify_blocks plan past g) ≡ true
notify_fit plan [] g valid = refl
notify_fit plan (e ∷ past) g valid =
    let all = notify_and_new plan past e g valid (notify_fit plan past g valid) in
    elim (count plan (e ∷ past) g == 0) as (λ v. list_all (on_a_node plan) (cond v [] (notify_blocks plan past g ++ registered g (act_of plan e))) ≡ true) [ true ↦ refl | false ↦ all ]

fired_fit : (plan : PlanView) (past : List Event) (e : Event) (g : ℕ) → IsPlan plan → list_all (on_a_node plan) (at_empty plan past e g) ≡ true
fired_fit plan past e g valid =
    let all = notify_and_new plan past e g valid (notify_fit plan past g valid) in
    elim (count plan (e ∷ past) g == 0) as (λ v. list_all (on_a_node plan) (cond v (notify_blocks plan past g ++ registered g (act_of plan e)) []) ≡ true) [ true ↦ all | false ↦ refl ]

all_fired_fit : (plan : PlanView) (past : List Event) (e : Event) (gs : List ℕ) → IsPlan plan → list_all (on_a_node plan) (flat_map (at_empty plan past e) gs) ≡ true
all_fired_fit plan past e [] valid = refl
all_fired_fit plan past e (g ∷ gs) valid =
    both_fit plan (at_empty plan past e g) (flat_map (at_empty plan past e) gs) (fired_fit plan past e g valid) (all_fired_fit plan past e gs valid)

end_notify_and_new : (plan : PlanView) (past : List Event) (e : Event) (b : ℕ) → IsPlan plan → list_all (on_a_node plan) (end_notify_blocks plan past b) ≡ true → list_all (on_a_node plan) (end_notify_blocks plan past b ++ registered_at_end b (act_of plan e)) ≡ true
end_notify_and_new plan past e b valid old =
    both_fit plan (end_notify_blocks plan past b) (registered_at_end b (act_of plan e)) old
    (of_recorded (λ o. list_all (on_a_node plan) (registered_at_end b o)) plan e valid refl (registered_at_end_fit plan b))

end_notify_fit : (plan : PlanView) (past : List Event) (b : ℕ) → IsPlan plan → list_all (on_a_node plan) (end_notify_blocks plan past b) ≡ true
end_notify_fit plan [] b valid = refl
end_notify_fit plan (e ∷ past) b valid =
    let all = end_notify_and_new plan past e b valid (end_notify_fit plan past b valid) in
    elim (is_ended (e ∷ past) b) as (λ v. list_all (on_a_node plan) (cond v [] (end_notify_blocks plan past b ++ registered_at_end b (act_of plan e))) ≡ true) [ true ↦ refl | false ↦ all ]

at_end_fit : (plan : PlanView) (past : List Event) (e : Event) (b : ℕ) → IsPlan plan → list_all (on_a_node plan) (at_end plan past e b) ≡ true
at_end_fit plan past e b valid =
    let all = end_notify_and_new plan past e b valid (end_notify_fit plan past b valid) in
    elim (is_ended (e ∷ past) b) as (λ v. list_all (on_a_node plan) (cond v (end_notify_blocks plan past b ++ registered_at_end b (act_of plan e)) []) ≡ true) [ true ↦ all | false ↦ refl ]

-- what is accepted is submitted on the intake's queue
accepted_fit : (plan : PlanView) (e : Event) → IsPlan plan → list_all (on_a_node plan) (accepted_by plan e) ≡ true
accepted_fit plan (Accept b s) valid =
    elim plan.intake as (λ o. IfSome o (IsIntake plan) → list_all (on_a_node plan) (option_map_or (λ i. on_node i.queue b false) o []) ≡ true) [
      | None ↦ λ none. refl
      | Some i ↦ λ some. one_fits plan i.queue b false (queue_is_node plan i.queue.0 (and_parts (is_queue plan i.queue.0) _ some.fits).0)
    ] valid.intake
accepted_fit plan e valid = refl

-- what has a cancellation block is a source
cancelled_kind : (plan : PlanView) (obj : ObjView) (b : Blk) (kind : Kind) → has_fields plan kind obj ≡ true → obj.cancel ≡ Some b → is_node_kind kind ≡ true
cancelled_kind plan obj b Group fields at =
    let none = (and_parts (length obj.handler == 0) (is_none obj.cancel) (and_parts obj.active _ (and_parts (obj.target.0 == 0) _ fields).1).1).1 in
    absurd (both_ways (is_none obj.cancel) (ap is_none at) none)
cancelled_kind plan obj b (Semaphore n) fields at =
    let none = (and_parts (length obj.handler == 0) (is_none obj.cancel) (and_parts obj.active _ (and_parts (obj.target.0 == 0) _ fields).1).1).1 in
    absurd (both_ways (is_none obj.cancel) (ap is_none at) none)
cancelled_kind plan obj b kind fields at = refl

cancelled_node : (plan : PlanView) (s : ℕ) (b : Blk) → IsPlan plan → cancel_block plan s ≡ Some b → is_node plan s ≡ true
cancelled_node plan s b valid at =
    elim (slice_get plan.objects s) as (λ o. slice_get plan.objects s ≡ o → option_and_then (λ obj. obj.cancel) o ≡ Some b → option_map_or is_node_kind (option_map (λ obj. obj.kind) o) false ≡ true) [
      | None ↦ λ none k. cc
      | Some obj ↦ λ some k. cancelled_kind plan obj b obj.kind (object_fields plan s obj valid some) k
    ] refl at

cancel_fit : (plan : PlanView) (past : List Event) (o : Option Obj) → IsPlan plan → list_all (on_a_node plan) (at_cancel plan past o) ≡ true
cancel_fit plan past None valid = refl
cancel_fit plan past (Some s) valid =
    elim (is_cancelled plan past s.0) as (λ v. list_all (on_a_node plan) (cond v [] (option_map_or (λ b. on_node s b false) (cancel_block plan s.0) [])) ≡ true) [
      | true ↦ refl
      | false ↦ elim (cancel_block plan s.0) as (λ o. cancel_block plan s.0 ≡ o → list_all (on_a_node plan) (option_map_or (λ b. on_node s b false) o []) ≡ true) [
        | None ↦ λ none. refl
        | Some b ↦ λ some. one_fits plan s b false (cancelled_node plan s.0 b valid some)
      ] refl
    ]

-- each submission is
pub submitted_fit : (plan : PlanView) (past : List Event) → IsPlan plan → list_all (on_a_node plan) (submitted plan past) ≡ true
submitted_fit plan [] valid = refl
submitted_fit plan (e ∷ past) valid =
    let own = submitted_by plan (act_of plan e) in
    let accepted = accepted_by plan e in
    let cancelled = at_cancel plan past (cancels plan e) in
    let ended = flat_map (at_end plan past e) (range_with_len 0 (length plan.blocks)) in
    let emptied = flat_map (at_empty plan past e) (range_with_len 0 (length plan.objects)) in
    let acts = of_recorded (λ o. list_all (on_a_node plan) (submitted_by plan o)) plan e valid refl (own_fit plan) in
    both_fit plan (submitted plan past) (new_submissions plan past e) (submitted_fit plan past valid)
    (both_fit plan (own ++ accepted ++ cancelled ++ ended) emptied
    (both_fit plan (own ++ accepted ++ cancelled) ended
    (both_fit plan (own ++ accepted) cancelled (both_fit plan own accepted acts (accepted_fit plan e valid)) (cancel_fit plan past (cancels plan e) valid))
    (all_flat (on_a_node plan) (at_end plan past e) (range_with_len 0 (length plan.blocks)) (λ b. at_end_fit plan past e b valid)))
    (all_fired_fit plan past e (range_with_len 0 (length plan.objects)) valid))
