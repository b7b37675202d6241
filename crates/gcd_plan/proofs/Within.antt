-- What a valid plan names is one of its blocks or objects.
use Rattle.std.proofs.Common.{◌≡◌, ℕ, zero, suc, ◌<◌, ◌≤◌, Bool, true, false, eqb, ltb, List, [], ◌∷◌, length, Some, ap, sym, subst, arith, codes}
use Rattle.std.specs.List.{slice_get}
use Rattle.std.specs.Option.{option_map, option_map_or}
use Rattle.std.proofs.lemmas.Bool.{and_parts, eqb-true, ltb-true}
use Rattle.std.proofs.lemmas.Option.{same_Some}
use Rattle.gcd_plan.specs.Kinds.{has_kind, is_group_kind, is_queue, is_queue_kind}
use Rattle.gcd_plan.specs.PlanView.{PlanView, BlkView, ObjView, first_target}
use Rattle.gcd_plan.specs.Validity.{IsPlan, block_of, has_fields, has_path, is_act, is_declared, is_kind, is_object, root_view}
use Rattle.gcd_plan.specs.declared.act.Act.{Act}
use Rattle.gcd_plan.specs.declared.act.Act.TheVariants.{Async, Barrier, Sync, BarrierSync, GroupAsync, Notify, NotifyBlock}
use Rattle.gcd_plan.specs.declared.kind.Kind.{Kind}
use Rattle.gcd_plan.specs.declared.kind.Kind.TheVariants.{Serial, Concurrent, Group, Semaphore, Add, Or, Replace, Timer, Read}
use Rattle.gcd_plan.specs.declared.numbers.Blk.{Blk}
use Rattle.gcd_plan.proofs.Places.{slice_get_some}
use Rattle.gcd_plan.proofs.Quantifiers.{list_all_get}

-- ## Blocks

-- a valid plan has main
pub has_main : (blocks : List BlkView) → option_map (λ (b : BlkView). b.name) (slice_get blocks 0) ≡ Some (codes "main") → 1 ≤ length blocks
has_main [] main = cc
has_main (b ∷ blocks) main = omega arith

-- a declared block is one of the plan's
pub declared_within : (plan : PlanView) (b : Blk) → is_declared plan b ≡ true → b.0 < length plan.blocks
declared_within plan b h = ltb-true b.0 (length plan.blocks) (and_parts (ltb b.0 (length plan.blocks)) _ (and_parts (ltb 0 b.0) _ h).1).0

one_declared : (plan : PlanView) (b c : Blk) → is_declared plan b ≡ true → Some b ≡ Some c → is_declared plan c ≡ true
one_declared plan b c fits is = subst (λ d. is_declared plan d ≡ true) (same_Some b c is) fits

-- the block that an act submits is declared
pub act_declared : (plan : PlanView) (a : Act) (c : Blk) → is_act plan a ≡ true → block_of a ≡ Some c → is_declared plan c ≡ true
act_declared plan (Async q b) c fits is = one_declared plan b c (and_parts (is_queue plan q.0) _ fits).1 is
act_declared plan (Barrier q b) c fits is = one_declared plan b c (and_parts (is_queue plan q.0) _ fits).1 is
act_declared plan (Sync q b) c fits is = one_declared plan b c (and_parts (is_queue plan q.0) _ fits).1 is
act_declared plan (BarrierSync q b) c fits is = one_declared plan b c (and_parts (is_queue plan q.0) _ fits).1 is
act_declared plan (GroupAsync g q b) c fits is = one_declared plan b c (and_parts (is_queue plan q.0) _ (and_parts (has_kind is_group_kind plan g.0) _ fits).1).1 is
act_declared plan (Notify g q b) c fits is = one_declared plan b c (and_parts (is_queue plan q.0) _ (and_parts (has_kind is_group_kind plan g.0) _ fits).1).1 is
act_declared plan (NotifyBlock b q d) c fits is = one_declared plan d c (and_parts (is_queue plan q.0) _ (and_parts (is_declared plan b) _ fits).1).1 is
act_declared plan a c fits is = cc

-- and one of the plan's
pub act_block_within : (plan : PlanView) (a : Act) (c : Blk) → is_act plan a ≡ true → block_of a ≡ Some c → c.0 < length plan.blocks
act_block_within plan a c fits is = declared_within plan c (act_declared plan a c fits is)

-- ## Objects

-- an object that has a kind is one of the plan's
kind_within : (objects : List ObjView) (o : ℕ) (t : Kind → Bool) → option_map_or t (option_map (λ (obj : ObjView). obj.kind) (slice_get objects o)) false ≡ true → o < length objects
kind_within [] o t h = cc
kind_within (x ∷ xs) zero t h = omega arith
kind_within (x ∷ xs) (suc o) t h = let later = kind_within xs o t h in omega arith

pub has_object : (test : Kind → Bool) (plan : PlanView) (o : ℕ) → has_kind test plan o ≡ true → o < length plan.objects
has_object test plan o h = kind_within plan.objects o test h

-- root is a queue
pub root_is_queue : (plan : PlanView) → slice_get plan.objects 0 ≡ Some root_view → has_kind is_queue_kind plan 0 ≡ true
root_is_queue plan first = ap (λ o. option_map_or is_queue_kind (option_map (λ (obj : ObjView). obj.kind) o) false) first

-- the target of a plan's object is a queue, because root is one
target_by_kind : (plan : PlanView) (kind : Kind) (o : ObjView) → has_fields plan kind o ≡ true → has_kind is_queue_kind plan 0 ≡ true → is_queue plan o.target.0 ≡ true
target_by_kind plan Serial o h root = (and_parts (is_queue plan o.target.0) _ h).0
target_by_kind plan Concurrent o h root = (and_parts (is_queue plan o.target.0) _ h).0
target_by_kind plan Group o h root =
    let none = eqb-true o.target.0 0 (and_parts (eqb o.target.0 0) _ h).0 in
    subst (λ t. is_queue plan t ≡ true) (sym none) root
target_by_kind plan (Semaphore n) o h root =
    let none = eqb-true o.target.0 0 (and_parts (eqb o.target.0 0) _ h).0 in
    subst (λ t. is_queue plan t ≡ true) (sym none) root
target_by_kind plan Add o h root = (and_parts (is_queue plan o.target.0) _ h).0
target_by_kind plan Or o h root = (and_parts (is_queue plan o.target.0) _ h).0
target_by_kind plan Replace o h root = (and_parts (is_queue plan o.target.0) _ h).0
target_by_kind plan (Timer start every) o h root = (and_parts (is_queue plan o.target.0) _ h).0
target_by_kind plan Read o h root = (and_parts (is_queue plan o.target.0) _ h).0

pub target_is_queue : (plan : PlanView) → slice_get plan.objects 0 ≡ Some root_view → (o : ObjView) → is_object plan o ≡ true → is_queue plan o.target.0 ≡ true
target_is_queue plan root o h =
    let parts = and_parts (is_kind o.kind) _ h in
    let fields = and_parts (has_path o.kind o.path) (has_fields plan o.kind o) parts.1 in
    target_by_kind plan o.kind o fields.1 (root_is_queue plan root)

-- the first target of an object of a plan is one of its objects
pub target_within : (plan : PlanView) → IsPlan plan → (o : ℕ) → o < length plan.objects → first_target plan o < length plan.objects
target_within plan valid o within =
    let at = slice_get_some plan.objects o within in
    let fits = list_all_get (is_object plan) plan.objects o at.0 valid.objects at.1 in
    let queue = target_is_queue plan valid.root at.0 fits in
    let is : first_target plan o ≡ at.0.target.0 = ap (λ v. option_map_or (λ (obj : ObjView). obj.target.0) v 0) at.1 in
    subst (λ t. t < length plan.objects) (sym is) (has_object is_queue_kind plan at.0.target.0 queue)
