-- The blocks that parts submit are the plan's, where acts and objects fit.
use Rattle.std.proofs.Common.{◌≡◌, ℕ, zero, suc, ◌+◌, ◌<◌, ◌≤◌, ◌==◌, Bool, true, false, cond, ◌&&◌, nat_le, List, [], ◌∷◌, ◌++◌, length, nat_lt, Option, Some, None, refl, ap, ◌∙◌, arith, is_none}
use Rattle.std.specs.List.{count_by, flat_map, list_all, range_with_len, slice_get}
use Rattle.std.specs.Option.{option_map_or, option_to_list}
use Rattle.std.proofs.lemmas.Bool.{and_from, and_parts, eqb-true, leb-true, lt-ltb, ltb-true, ne_eqb}
use Rattle.std.proofs.lemmas.List.{nil_from_length}
use Rattle.std.proofs.lemmas.List.Folds.{list_all-append, list_all-map}
use Rattle.gcd_plan.specs.declared.act.Act.{Act}
use Rattle.gcd_plan.specs.declared.act.Act.TheVariants.{Async, Barrier, Sync, BarrierSync, GroupAsync, Notify, Enter, Leave, GroupWait, GroupWaitFor, Signal, Wait, WaitFor, Suspend, Resume, Activate, Target, Merge, Cancel, Retain, Release, Apply, CancelBlock, WaitBlock, NotifyBlock}
use Rattle.gcd_plan.specs.declared.kind.Kind.{Kind}
use Rattle.gcd_plan.specs.declared.kind.Kind.TheVariants.{Serial, Concurrent, Group, Semaphore, Add, Or, Replace, Timer, Read}
use Rattle.gcd_plan.specs.declared.numbers.Blk.{Blk}
use Rattle.gcd_plan.specs.PlanView.{PlanView, ObjView, BlkView, StripView}
use Rattle.gcd_plan.specs.Made.{blocks_in, strip_span}
use Rattle.gcd_plan.specs.Kinds.{has_kind, is_group_kind, is_queue}
use Rattle.gcd_plan.specs.Validity.{IsStrip, blocks_by, blocks_of, submitted_blocks, is_declared, is_act, is_handler_act, has_queue_fields, has_no_fields, has_source_fields, has_fields, is_object, is_block}
use Rattle.gcd_plan.proofs.Options.{none_from_is_none}
use Rattle.gcd_plan.proofs.Sums.{count_by-cons}

-- the block is one of the plan's
abbrev is_there : PlanView → Blk → Bool
is_there plan b = nat_lt b.0 (length plan.blocks)

-- each strip fits
abbrev StripsFit : PlanView → Type 0
StripsFit plan = (a : ℕ) (s : StripView) → slice_get plan.strips a ≡ Some s → IsStrip plan s

declared_there : (plan : PlanView) (b : Blk) → is_declared plan b ≡ true → is_there plan b ≡ true
declared_there plan b h = (and_parts (is_there plan b) _ (and_parts (nat_lt 0 b.0) _ h).1).0

one_there : (plan : PlanView) (b : Blk) → is_declared plan b ≡ true → list_all (is_there plan) (b ∷ []) ≡ true
one_there plan b h = and_from _ _ (declared_there plan b h) refl

range_there : (n first count : ℕ) → first + count ≤ n → list_all (λ b. nat_lt b n) (range_with_len first count) ≡ true
range_there n first zero within = refl
range_there n first (suc count) within = and_from _ _ (lt-ltb first n (omega arith)) (range_there n (first + 1) count (omega arith))

strip_there : (plan : PlanView) (o : Option StripView) → ((s : StripView) → o ≡ Some s → IsStrip plan s)
    → list_all (is_there plan) (option_map_or (λ s. blocks_in (strip_span s)) o []) ≡ true
strip_there plan None fits = refl
strip_there plan (Some s) fits =
    let among = (and_parts (nat_le 1 s.first) _ (fits s refl).among).1 in
    list_all-map (is_there plan) (λ b. record { 0 = b }) (range_with_len s.first s.count)
    ∙ range_there (length plan.blocks) s.first s.count (leb-true _ _ among)

-- the blocks that an act submits are the plan's
act_names : (plan : PlanView) → StripsFit plan → (act : Act) → is_act plan act ≡ true → list_all (is_there plan) (blocks_by plan act) ≡ true
act_names plan fits (Async q b) h = one_there plan b (and_parts (is_queue plan q.0) (is_declared plan b) h).1
act_names plan fits (Barrier q b) h = one_there plan b (and_parts (is_queue plan q.0) (is_declared plan b) h).1
act_names plan fits (Sync q b) h = one_there plan b (and_parts (is_queue plan q.0) (is_declared plan b) h).1
act_names plan fits (BarrierSync q b) h = one_there plan b (and_parts (is_queue plan q.0) (is_declared plan b) h).1
act_names plan fits (GroupAsync g q b) h =
    one_there plan b (and_parts (is_queue plan q.0) (is_declared plan b) (and_parts (has_kind is_group_kind plan g.0) _ h).1).1
act_names plan fits (Notify g q b) h =
    one_there plan b (and_parts (is_queue plan q.0) (is_declared plan b) (and_parts (has_kind is_group_kind plan g.0) _ h).1).1
act_names plan fits (Enter g) h = refl
act_names plan fits (Leave g) h = refl
act_names plan fits (GroupWait g) h = refl
act_names plan fits (GroupWaitFor g ms) h = refl
act_names plan fits (Signal s) h = refl
act_names plan fits (Wait s) h = refl
act_names plan fits (WaitFor s ms) h = refl
act_names plan fits (Suspend o) h = refl
act_names plan fits (Resume o) h = refl
act_names plan fits (Activate o) h = refl
act_names plan fits (Target o t) h = refl
act_names plan fits (Merge s n) h = refl
act_names plan fits (Cancel s) h = refl
act_names plan fits (Retain o) h = refl
act_names plan fits (Release o) h = refl
act_names plan fits (Apply q a) h = strip_there plan (slice_get plan.strips a) (fits a)
act_names plan fits (CancelBlock b) h = refl
act_names plan fits (WaitBlock b) h = refl
act_names plan fits (NotifyBlock b q c) h =
    one_there plan c (and_parts (is_queue plan q.0) (is_declared plan c) (and_parts (is_declared plan b) _ h).1).1

acts_name : (plan : PlanView) → StripsFit plan → (acts : List Act) → list_all (is_act plan) acts ≡ true
    → list_all (is_there plan) (blocks_of plan acts) ≡ true
acts_name plan fits [] h = refl
acts_name plan fits (act ∷ acts) h =
    let each = and_parts (is_act plan act) (list_all (is_act plan) acts) h in
    list_all-append (is_there plan) (blocks_by plan act) (blocks_of plan acts)
    ∙ and_from _ _ (act_names plan fits act each.0) (acts_name plan fits acts each.1)

handlers_act : (plan : PlanView) (acts : List Act) → list_all (λ act. is_handler_act act && is_act plan act) acts ≡ true → list_all (is_act plan) acts ≡ true
handlers_act plan [] h = refl
handlers_act plan (act ∷ acts) h =
    let each = and_parts (is_handler_act act && is_act plan act) _ h in
    and_from _ _ (and_parts (is_handler_act act) (is_act plan act) each.0).1 (handlers_act plan acts each.1)

cancel_named : (plan : PlanView) (cancel : Option Blk) → option_map_or (is_declared plan) cancel true ≡ true
    → list_all (is_there plan) (option_to_list cancel) ≡ true
cancel_named plan None h = refl
cancel_named plan (Some b) h = one_there plan b h

-- the blocks that an object submits
abbrev submitted_by : PlanView → ObjView → List Blk
submitted_by plan o = blocks_of plan o.handler ++ option_to_list o.cancel

none_submitted : (plan : PlanView) (o : ObjView) → (length o.handler == 0 && is_none o.cancel) ≡ true → list_all (is_there plan) (submitted_by plan o) ≡ true
none_submitted plan o h =
    let each = and_parts (length o.handler == 0) (is_none o.cancel) h in
    let acts : o.handler ≡ [] = nil_from_length o.handler (eqb-true _ _ each.0) in
    let cancel : o.cancel ≡ None = none_from_is_none o.cancel each.1 in
    ap (λ l. list_all (is_there plan) (blocks_of plan l ++ option_to_list o.cancel)) acts
    ∙ ap (λ c. list_all (is_there plan) (option_to_list c)) cancel

queue_names : (plan : PlanView) (o : ObjView) → has_queue_fields plan o ≡ true → list_all (is_there plan) (submitted_by plan o) ≡ true
queue_names plan o h = none_submitted plan o (and_parts (is_queue plan o.target.0) _ h).1

rest_names : (plan : PlanView) (o : ObjView) → has_no_fields o ≡ true → list_all (is_there plan) (submitted_by plan o) ≡ true
rest_names plan o h = none_submitted plan o (and_parts o.active _ (and_parts (o.target.0 == 0) _ h).1).1

source_names : (plan : PlanView) → StripsFit plan → (o : ObjView) → has_source_fields plan o ≡ true → list_all (is_there plan) (submitted_by plan o) ≡ true
source_names plan fits o h =
    let inner = and_parts _ _ (and_parts _ _ (and_parts (is_queue plan o.target.0) _ h).1).1 in
    list_all-append (is_there plan) (blocks_of plan o.handler) (option_to_list o.cancel)
    ∙ and_from _ _ (acts_name plan fits o.handler (handlers_act plan o.handler inner.0)) (cancel_named plan o.cancel inner.1)

fields_name : (plan : PlanView) → StripsFit plan → (kind : Kind) (o : ObjView) → has_fields plan kind o ≡ true → list_all (is_there plan) (submitted_by plan o) ≡ true
fields_name plan fits Serial o h = queue_names plan o h
fields_name plan fits Concurrent o h = queue_names plan o h
fields_name plan fits Group o h = rest_names plan o h
fields_name plan fits (Semaphore n) o h = rest_names plan o h
fields_name plan fits Add o h = source_names plan fits o h
fields_name plan fits Or o h = source_names plan fits o h
fields_name plan fits Replace o h = source_names plan fits o h
fields_name plan fits (Timer start every) o h = source_names plan fits o h
fields_name plan fits Read o h = source_names plan fits o h

blocks_name : (plan : PlanView) → StripsFit plan → (bs : List BlkView) → list_all (is_block plan) bs ≡ true
    → list_all (is_there plan) (flat_map (λ b. blocks_of plan b.acts) bs) ≡ true
blocks_name plan fits [] h = refl
blocks_name plan fits (b ∷ bs) h =
    let each = and_parts (is_block plan b) _ h in
    list_all-append (is_there plan) (blocks_of plan b.acts) (flat_map (λ d. blocks_of plan d.acts) bs)
    ∙ and_from _ _ (acts_name plan fits b.acts (and_parts _ (list_all (is_act plan) b.acts) each.0).1) (blocks_name plan fits bs each.1)

objects_name : (plan : PlanView) → StripsFit plan → (os : List ObjView) → list_all (is_object plan) os ≡ true
    → list_all (is_there plan) (flat_map (submitted_by plan) os) ≡ true
objects_name plan fits [] h = refl
objects_name plan fits (o ∷ os) h =
    let each = and_parts (is_object plan o) _ h in
    list_all-append (is_there plan) (submitted_by plan o) (flat_map (submitted_by plan) os)
    ∙ and_from _ _ (fields_name plan fits o.kind o (and_parts _ (has_fields plan o.kind o) (and_parts _ _ each.0).1).1) (objects_name plan fits os each.1)

-- no block past the plan's is submitted
none_past : (plan : PlanView) (bs : List Blk) → list_all (is_there plan) bs ≡ true → (b : ℕ) → length plan.blocks ≤ b → count_by (λ c. c.0 == b) bs ≡ 0
none_past plan [] all b past = refl
none_past plan (c ∷ bs) all b past =
    let each = and_parts (is_there plan c) _ all in
    let below : c.0 < length plan.blocks = ltb-true c.0 (length plan.blocks) each.0 in
    let other : (c.0 == b) ≡ false = ne_eqb c.0 b (λ (e : c.0 ≡ b). omega arith) in
    let none : ◌≡◌ {A = ℕ} (cond (c.0 == b) 1 0) 0 = ap (λ v. cond v 1 0) other in
    let more = count_by-cons (λ (d : Blk). d.0 == b) c bs in
    let rest = none_past plan bs each.1 b past in
    omega arith

pub past_the_blocks : (plan : PlanView) → StripsFit plan → list_all (is_block plan) plan.blocks ≡ true → list_all (is_object plan) plan.objects ≡ true
    → (b : ℕ) → length plan.blocks ≤ b → count_by (λ c. c.0 == b) (submitted_blocks plan) ≡ 0
past_the_blocks plan fits blocks objects =
    none_past plan (submitted_blocks plan)
    (list_all-append (is_there plan) (flat_map (λ b. blocks_of plan b.acts) plan.blocks) (flat_map (submitted_by plan) plan.objects)
    ∙ and_from _ _ (blocks_name plan fits plan.blocks blocks) (objects_name plan fits plan.objects objects))
