-- What holds in a plan holds in one that has more.
use Rattle.std.proofs.Common.{ℕ, ◌≡◌, ◌<◌, ◌≤◌, ◌==◌, Bool, true, false, not, ◌&&◌, ltb, leb, List, [], ◌∷◌, length, Option, Some, None, is_none, refl, ap, ◌∙◌, arith}
use Rattle.std.specs.List.{list_all}
use Rattle.std.specs.Option.{option_map_or}
use Rattle.std.proofs.lemmas.Bool.{and_parts, and_from, ltb-true, lt-ltb, not-true, not_from_false}
use Rattle.gcd_plan.specs.Limits.{max_value, max_time, max_file_bytes}
use Rattle.gcd_plan.specs.Made.{is_made}
use Rattle.gcd_plan.specs.PlanView.{PlanView, ObjView, BlkView, kind_of}
use Rattle.gcd_plan.specs.Kinds.{has_kind, is_queue, is_queue_kind, is_group_kind, is_semaphore_kind, is_merge_kind, is_source_kind, is_node_kind}
use Rattle.gcd_plan.specs.Validity.{is_declared, is_held_object, is_act, is_handler_act, is_object, is_work, is_block, has_fields, is_kind, has_path}
use Rattle.gcd_plan.specs.declared.act.Act.{Act}
use Rattle.gcd_plan.specs.declared.act.Act.TheVariants.{Async, Barrier, Sync, BarrierSync, GroupAsync, Notify, Enter, Leave, GroupWait, GroupWaitFor, Signal, Wait, WaitFor, Suspend, Resume, Activate, Target, Merge, Cancel, Retain, Release, Apply, CancelBlock, WaitBlock, NotifyBlock}
use Rattle.gcd_plan.specs.declared.kind.Kind.{Kind}
use Rattle.gcd_plan.specs.declared.kind.Kind.TheVariants.{Serial, Concurrent, Group, Semaphore, Read}
use Rattle.gcd_plan.specs.declared.numbers.Blk.{Blk}
use Rattle.gcd_plan.specs.declared.numbers.Obj.{Obj}
use Rattle.gcd_plan.specs.declared.work.Work.{Work}

-- both tests go over
pub and_map : (a b c d : Bool) → (a ≡ true → c ≡ true) → (b ≡ true → d ≡ true) → (a && b) ≡ true → (c && d) ≡ true
and_map a b c d f g h = let parts = and_parts a b h in and_from c d (f parts.0) (g parts.1)

pub list_all_map : {X : Type 0} (p q : X → Bool) → ((x : X) → p x ≡ true → q x ≡ true) → (xs : List X) → list_all p xs ≡ true → list_all q xs ≡ true
list_all_map p q f [] h = refl
list_all_map p q f (x ∷ xs) h = and_map (p x) (list_all p xs) (q x) (list_all q xs) (f x) (list_all_map p q f xs) h

option_all_map : {X : Type 0} (p q : X → Bool) → ((x : X) → p x ≡ true → q x ≡ true) → (o : Option X) → option_map_or p o true ≡ true → option_map_or q o true ≡ true
option_all_map p q f None h = refl
option_all_map p q f (Some x) h = f x h

-- the second plan has all that the first has
pub record Grows (old new : PlanView) : Type 0 where
  pub kinds : (o : ℕ) (kind : Kind) → kind_of old o ≡ Some kind → kind_of new o ≡ Some kind
  pub objects : length old.objects ≤ length new.objects
  pub blocks : length old.blocks ≤ length new.blocks
  pub files : length old.files ≤ length new.files
  pub strips : length old.strips ≤ length new.strips
  pub declared : (b : ℕ) → b < length old.blocks → is_made old b ≡ false → is_made new b ≡ false

pub below_more : (i m n : ℕ) → m ≤ n → ltb i m ≡ true → ltb i n ≡ true
below_more i m n more h = let below = ltb-true i m h in lt-ltb i n (omega arith)

module _ (old new : PlanView) (grows : Grows old new) where
  pub has_kind_grows : (t : Kind → Bool) (o : ℕ) → has_kind t old o ≡ true → has_kind t new o ≡ true
  has_kind_grows t o h =
      elim (kind_of old o) as (λ v. kind_of old o ≡ v → option_map_or t v false ≡ true → has_kind t new o ≡ true) [
        | None ↦ λ e h. cc
        | Some kind ↦ λ e h. ap (λ v. option_map_or t v false) (grows.kinds o kind e) ∙ h
      ] refl h

  declared_grows : (b : Blk) → is_declared old b ≡ true → is_declared new b ≡ true
  declared_grows b h =
      let parts = and_parts (ltb 0 b.0) (ltb b.0 (length old.blocks) && not (is_made old b.0)) h in
      let rest = and_parts (ltb b.0 (length old.blocks)) (not (is_made old b.0)) parts.1 in
      and_from (ltb 0 b.0) (ltb b.0 (length new.blocks) && not (is_made new b.0)) parts.0
      (and_from (ltb b.0 (length new.blocks)) (not (is_made new b.0)) (below_more b.0 (length old.blocks) (length new.blocks) grows.blocks rest.0)
      (not_from_false (is_made new b.0) (grows.declared b.0 (ltb-true b.0 (length old.blocks) rest.0) (not-true (is_made old b.0) rest.1))))

  held_grows : (o : Obj) → is_held_object old o ≡ true → is_held_object new o ≡ true
  held_grows o = and_map (ltb 0 o.0) (has_kind is_node_kind old o.0) (ltb 0 o.0) (has_kind is_node_kind new o.0) (λ h. h) (has_kind_grows is_node_kind o.0)

  queue_and_block : (q : Obj) (b : Blk) → (is_queue old q.0 && is_declared old b) ≡ true → (is_queue new q.0 && is_declared new b) ≡ true
  queue_and_block q b = and_map (is_queue old q.0) (is_declared old b) (is_queue new q.0) (is_declared new b) (has_kind_grows is_queue_kind q.0) (declared_grows b)

  group_and_block : (g q : Obj) (b : Blk) → (has_kind is_group_kind old g.0 && (is_queue old q.0 && is_declared old b)) ≡ true → (has_kind is_group_kind new g.0 && (is_queue new q.0 && is_declared new b)) ≡ true
  group_and_block g q b = and_map (has_kind is_group_kind old g.0) (is_queue old q.0 && is_declared old b) (has_kind is_group_kind new g.0) (is_queue new q.0 && is_declared new b) (has_kind_grows is_group_kind g.0) (queue_and_block q b)

  referred_grows : (o : Obj) → (ltb 0 o.0 && ltb o.0 (length old.objects)) ≡ true → (ltb 0 o.0 && ltb o.0 (length new.objects)) ≡ true
  referred_grows o = and_map (ltb 0 o.0) (ltb o.0 (length old.objects)) (ltb 0 o.0) (ltb o.0 (length new.objects)) (λ h. h) (below_more o.0 (length old.objects) (length new.objects) grows.objects)

  pub act_grows : (act : Act) → is_act old act ≡ true → is_act new act ≡ true
  act_grows (Async q b) h = queue_and_block q b h
  act_grows (Barrier q b) h = queue_and_block q b h
  act_grows (Sync q b) h = queue_and_block q b h
  act_grows (BarrierSync q b) h = queue_and_block q b h
  act_grows (GroupAsync g q b) h = group_and_block g q b h
  act_grows (Notify g q b) h = group_and_block g q b h
  act_grows (Enter g) h = has_kind_grows is_group_kind g.0 h
  act_grows (Leave g) h = has_kind_grows is_group_kind g.0 h
  act_grows (GroupWait g) h = has_kind_grows is_group_kind g.0 h
  act_grows (GroupWaitFor g ms) h = and_map (has_kind is_group_kind old g.0) (leb ms max_time) (has_kind is_group_kind new g.0) (leb ms max_time) (has_kind_grows is_group_kind g.0) (λ k. k) h
  act_grows (Signal s) h = has_kind_grows is_semaphore_kind s.0 h
  act_grows (Wait s) h = has_kind_grows is_semaphore_kind s.0 h
  act_grows (WaitFor s ms) h = and_map (has_kind is_semaphore_kind old s.0) (leb ms max_time) (has_kind is_semaphore_kind new s.0) (leb ms max_time) (has_kind_grows is_semaphore_kind s.0) (λ k. k) h
  act_grows (Suspend o) h = held_grows o h
  act_grows (Resume o) h = held_grows o h
  act_grows (Activate o) h = held_grows o h
  act_grows (Target o t) h = and_map (is_held_object old o) (is_queue old t.0) (is_held_object new o) (is_queue new t.0) (held_grows o) (has_kind_grows is_queue_kind t.0) h
  act_grows (Merge s n) h = and_map (has_kind is_merge_kind old s.0) (leb n max_value) (has_kind is_merge_kind new s.0) (leb n max_value) (has_kind_grows is_merge_kind s.0) (λ k. k) h
  act_grows (Cancel s) h = has_kind_grows is_source_kind s.0 h
  act_grows (Retain o) h = referred_grows o h
  act_grows (Release o) h = referred_grows o h
  act_grows (Apply q a) h = and_map (is_queue old q.0) (ltb a (length old.strips)) (is_queue new q.0) (ltb a (length new.strips)) (has_kind_grows is_queue_kind q.0) (below_more a (length old.strips) (length new.strips) grows.strips) h
  act_grows (CancelBlock b) h = declared_grows b h
  act_grows (WaitBlock b) h = declared_grows b h
  act_grows (NotifyBlock b q c) h = and_map (is_declared old b) (is_queue old q.0 && is_declared old c) (is_declared new b) (is_queue new q.0 && is_declared new c) (declared_grows b) (queue_and_block q c) h

  work_grows : (w : Work) → is_work old w ≡ true → is_work new w ≡ true
  work_grows w = and_map (ltb w.file (length old.files)) (leb w.start max_file_bytes && leb w.len max_file_bytes) (ltb w.file (length new.files)) (leb w.start max_file_bytes && leb w.len max_file_bytes) (below_more w.file (length old.files) (length new.files) grows.files) (λ k. k)

  target_and_rest : (t : Obj) (rest : Bool) → (is_queue old t.0 && rest) ≡ true → (is_queue new t.0 && rest) ≡ true
  target_and_rest t rest = and_map (is_queue old t.0) rest (is_queue new t.0) rest (has_kind_grows is_queue_kind t.0) (λ k. k)

  handler_act_grows : (act : Act) → (is_handler_act act && is_act old act) ≡ true → (is_handler_act act && is_act new act) ≡ true
  handler_act_grows act = and_map (is_handler_act act) (is_act old act) (is_handler_act act) (is_act new act) (λ k. k) (act_grows act)

  -- what a source has
  source_grows : (o : ObjView) → has_fields old Read o ≡ true → has_fields new Read o ≡ true
  source_grows o =
      let handler = λ (plan : PlanView). list_all (λ act. is_handler_act act && is_act plan act) o.handler in
      let cancel = λ (plan : PlanView). option_map_or (is_declared plan) o.cancel true in
      and_map (is_queue old o.target.0) (not o.active && (handler old && cancel old)) (is_queue new o.target.0) (not o.active && (handler new && cancel new))
      (has_kind_grows is_queue_kind o.target.0)
      (and_map (not o.active) (handler old && cancel old) (not o.active) (handler new && cancel new) (λ k. k)
      (and_map (handler old) (cancel old) (handler new) (cancel new)
      (list_all_map (λ act. is_handler_act act && is_act old act) (λ act. is_handler_act act && is_act new act) handler_act_grows o.handler)
      (option_all_map (is_declared old) (is_declared new) declared_grows o.cancel)))

  fields_grow : (kind : Kind) (o : ObjView) → has_fields old kind o ≡ true → has_fields new kind o ≡ true
  fields_grow Serial o h = target_and_rest o.target (length o.handler == 0 && is_none o.cancel) h
  fields_grow Concurrent o h = target_and_rest o.target (length o.handler == 0 && is_none o.cancel) h
  fields_grow Group o h = h
  fields_grow (Semaphore n) o h = h
  fields_grow _ o h = source_grows o h

  pub object_grows : (o : ObjView) → is_object old o ≡ true → is_object new o ≡ true
  object_grows o =
      and_map (is_kind o.kind) (has_path o.kind o.path && has_fields old o.kind o) (is_kind o.kind) (has_path o.kind o.path && has_fields new o.kind o) (λ k. k)
      (and_map (has_path o.kind o.path) (has_fields old o.kind o) (has_path o.kind o.path) (has_fields new o.kind o) (λ k. k) (fields_grow o.kind o))

  pub block_grows : (b : BlkView) → is_block old b ≡ true → is_block new b ≡ true
  block_grows b =
      and_map (option_map_or (is_work old) b.work true) (list_all (is_act old) b.acts) (option_map_or (is_work new) b.work true) (list_all (is_act new) b.acts)
      (option_all_map (is_work old) (is_work new) work_grows b.work)
      (list_all_map (is_act old) (is_act new) act_grows b.acts)
