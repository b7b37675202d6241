-- The acts whose words mean something fit the plan.
use Rattle.std.proofs.Common.{ℕ, ◌≡◌, true, ◌&&◌, ltb, leb, List, [], ◌∷◌, length, Option, Some, None, Ok, Err, ap, subst}
use Rattle.std.specs.Option.{option_map_or}
use Rattle.std.proofs.lemmas.Bool.{and_parts, and_from, lt-ltb}
use Rattle.gcd_plan.specs.Kinds.{has_kind, is_queue, is_queue_kind, is_node_kind, is_group_kind, is_semaphore_kind, is_merge_kind}
use Rattle.gcd_plan.specs.Limits.{max_value, max_time}
use Rattle.gcd_plan.specs.PlanView.{PlanView}
use Rattle.gcd_plan.specs.Validity.{IsPlan, is_act, is_declared}
use Rattle.gcd_plan.specs.declared.act.Act.{Act}
use Rattle.gcd_plan.specs.declared.act.Act.TheVariants as act
use Rattle.gcd_plan.specs.declared.numbers.Blk.{Blk}
use Rattle.gcd_plan.specs.declared.numbers.Obj.{Obj}
use Rattle.gcd_plan.specs.declared.numbers.Run.{Run}
use Rattle.gcd_plan.proofs.Within.{has_object}
use Rattle.gcd_script.specs.declared.keyword.Submission.{Submission}
use Rattle.gcd_script.specs.declared.keyword.Submission.TheVariants.{Async, Barrier, Sync, BarrierSync}
use Rattle.gcd_script.specs.declared.keyword.GroupSubmission.{GroupSubmission}
use Rattle.gcd_script.specs.declared.keyword.GroupSubmission.TheVariants.{GroupAsync, Notify}
use Rattle.gcd_script.specs.declared.keyword.LimitedWait.{LimitedWait}
use Rattle.gcd_script.specs.declared.keyword.LimitedWait.TheVariants.{WaitFor, GroupWaitFor}
use Rattle.gcd_script.specs.declared.keyword.ObjectAct.{ObjectAct}
use Rattle.gcd_script.specs.declared.keyword.ObjectAct.TheVariants.{Enter, Leave, GroupWait, Signal, Wait, Suspend, Resume, Activate, Cancel, Retain, Release}
use Rattle.gcd_script.specs.declared.keyword.BlockAct.{BlockAct}
use Rattle.gcd_script.specs.declared.keyword.BlockAct.TheVariants.{CancelBlock, WaitBlock}
use Rattle.gcd_script.specs.declared.line.Line.{Line}
use Rattle.gcd_script.specs.declared.line.Line.TheVariants.{AddAct}
use Rattle.gcd_script.specs.declared.refusal.Refusal.TheVariants.{NoForm}
use Rattle.gcd_script.specs.Acts.{act_line, submitting, submit_act, group_submitting, group_submit_act, asked_of, acting, object_act, waited_of, waiting, limited_act, target_act, merge_act, apply_act, acting_on, block_act, notify_block_act}
use Rattle.gcd_builder.specs.Asked.{asks}
use Rattle.gcd_script.specs.Drafts.{DraftView}
use Rattle.gcd_script.specs.Meant.{Meant, both}
use Rattle.gcd_script.specs.Sound.{Fits}
use Rattle.gcd_script.specs.Words.{number, block, queue, strip, object, object_but_root}
use Rattle.gcd_script.proofs.Inversions.{made_of, both_are, in_range}
use Rattle.gcd_script.proofs.Known.{block_declared, strip_within, object_asked, object_above}

submitting_fits : (plan : PlanView) (how : Submission) (q : Obj) (b : Blk) → is_queue plan q.0 ≡ true → is_declared plan b ≡ true → is_act plan (submitting how q b) ≡ true
submitting_fits plan Async q b on is = and_from (is_queue plan q.0) (is_declared plan b) on is
submitting_fits plan Barrier q b on is = and_from (is_queue plan q.0) (is_declared plan b) on is
submitting_fits plan Sync q b on is = and_from (is_queue plan q.0) (is_declared plan b) on is
submitting_fits plan BarrierSync q b on is = and_from (is_queue plan q.0) (is_declared plan b) on is

group_submitting_fits : (plan : PlanView) (how : GroupSubmission) (g q : Obj) (b : Blk) → has_kind is_group_kind plan g.0 ≡ true → is_queue plan q.0 ≡ true → is_declared plan b ≡ true → is_act plan (group_submitting how g q b) ≡ true
group_submitting_fits plan GroupAsync g q b of on is =
    and_from (has_kind is_group_kind plan g.0) (is_queue plan q.0 && is_declared plan b) of (and_from (is_queue plan q.0) (is_declared plan b) on is)
group_submitting_fits plan Notify g q b of on is =
    and_from (has_kind is_group_kind plan g.0) (is_queue plan q.0 && is_declared plan b) of (and_from (is_queue plan q.0) (is_declared plan b) on is)

referred_fits : (plan : PlanView) (o : Obj) → ltb 0 o.0 ≡ true → has_kind (λ kind. true) plan o.0 ≡ true → (ltb 0 o.0 && ltb o.0 (length plan.objects)) ≡ true
referred_fits plan o above is =
    and_from (ltb 0 o.0) (ltb o.0 (length plan.objects)) above
    (lt-ltb o.0 (length plan.objects) (has_object (λ kind. true) plan o.0 is))

held_fits : (plan : PlanView) (o : Obj) → ltb 0 o.0 ≡ true → has_kind is_node_kind plan o.0 ≡ true → (ltb 0 o.0 && has_kind is_node_kind plan o.0) ≡ true
held_fits plan o above is = and_from (ltb 0 o.0) (has_kind is_node_kind plan o.0) above is

acting_fits : (plan : PlanView) (what : ObjectAct) (o : Obj) → ltb 0 o.0 ≡ true → has_kind (asks (asked_of what)) plan o.0 ≡ true → is_act plan (acting what o) ≡ true
acting_fits plan Enter o above is = is
acting_fits plan Leave o above is = is
acting_fits plan GroupWait o above is = is
acting_fits plan Signal o above is = is
acting_fits plan Wait o above is = is
acting_fits plan Suspend o above is = held_fits plan o above is
acting_fits plan Resume o above is = held_fits plan o above is
acting_fits plan Activate o above is = held_fits plan o above is
acting_fits plan Cancel o above is = is
acting_fits plan Retain o above is = referred_fits plan o above is
acting_fits plan Release o above is = referred_fits plan o above is

waiting_fits : (plan : PlanView) (what : LimitedWait) (o : Obj) (ms : ℕ) → has_kind (asks (waited_of what)) plan o.0 ≡ true → leb ms max_time ≡ true → is_act plan (waiting what o ms) ≡ true
waiting_fits plan WaitFor o ms is low = and_from (has_kind is_semaphore_kind plan o.0) (leb ms max_time) is low
waiting_fits plan GroupWaitFor o ms is low = and_from (has_kind is_group_kind plan o.0) (leb ms max_time) is low

module _ (plan : PlanView) (valid : IsPlan plan) where
  pub submit_fits : (how : Submission) (words : List (List ℕ)) (a : Act) → submit_act plan how words ≡ Ok a → is_act plan a ≡ true
  submit_fits how (q ∷ b ∷ []) a h =
      let m = made_of (λ (o, c). submitting how o c) (both (queue plan q) (block plan b)) a h in
      let p = both_are (queue plan q) (block plan b) m.0.0 m.0.1 m.1 in
      subst (λ x. is_act plan x ≡ true) m.2
      (submitting_fits plan how m.0.0 m.0.1 (object_asked plan is_queue_kind q m.0.0 p.0) (block_declared plan valid b m.0.1 p.1))
  submit_fits how _ a h = cc

  pub group_submit_fits : (how : GroupSubmission) (words : List (List ℕ)) (a : Act) → group_submit_act plan how words ≡ Ok a → is_act plan a ≡ true
  group_submit_fits how (g ∷ q ∷ b ∷ []) a h =
      let m = made_of (λ (o, (t, c)). group_submitting how o t c) (both (object plan is_group_kind g) (both (queue plan q) (block plan b))) a h in
      let outer = both_are (object plan is_group_kind g) (both (queue plan q) (block plan b)) m.0.0 m.0.1 m.1 in
      let inner = both_are (queue plan q) (block plan b) m.0.1.0 m.0.1.1 outer.1 in
      subst (λ x. is_act plan x ≡ true) m.2
      (group_submitting_fits plan how m.0.0 m.0.1.0 m.0.1.1 (object_asked plan is_group_kind g m.0.0 outer.0)
      (object_asked plan is_queue_kind q m.0.1.0 inner.0) (block_declared plan valid b m.0.1.1 inner.1))
  group_submit_fits how _ a h = cc

  pub object_act_fits : (what : ObjectAct) (words : List (List ℕ)) (a : Act) → object_act plan what words ≡ Ok a → is_act plan a ≡ true
  object_act_fits what (o ∷ []) a h =
      let m = made_of (acting what) (object_but_root plan (asks (asked_of what)) o) a h in
      let is = object_above plan (asks (asked_of what)) o m.0 m.1 in
      subst (λ x. is_act plan x ≡ true) m.2 (acting_fits plan what m.0 is.0 is.1)
  object_act_fits what _ a h = cc

  pub limited_fits : (what : LimitedWait) (words : List (List ℕ)) (a : Act) → limited_act plan what words ≡ Ok a → is_act plan a ≡ true
  limited_fits what (o ∷ n ∷ []) a h =
      let m = made_of (λ (waited, ms). waiting what waited ms) (both (object plan (asks (waited_of what)) o) (number 0 max_time n)) a h in
      let p = both_are (object plan (asks (waited_of what)) o) (number 0 max_time n) m.0.0 m.0.1 m.1 in
      let low = and_parts (leb 0 m.0.1) (leb m.0.1 max_time) (in_range 0 max_time n m.0.1 p.1) in
      subst (λ x. is_act plan x ≡ true) m.2
      (waiting_fits plan what m.0.0 m.0.1 (object_asked plan (asks (waited_of what)) o m.0.0 p.0) low.1)
  limited_fits what _ a h = cc

  pub target_fits : (words : List (List ℕ)) (a : Act) → target_act plan words ≡ Ok a → is_act plan a ≡ true
  target_fits (o ∷ t ∷ []) a h =
      let m = made_of (λ (from, to). act.Target from to) (both (object_but_root plan is_node_kind o) (queue plan t)) a h in
      let p = both_are (object_but_root plan is_node_kind o) (queue plan t) m.0.0 m.0.1 m.1 in
      let is = object_above plan is_node_kind o m.0.0 p.0 in
      subst (λ x. is_act plan x ≡ true) m.2
      (and_from (ltb 0 m.0.0.0 && has_kind is_node_kind plan m.0.0.0) (is_queue plan m.0.1.0) (held_fits plan m.0.0 is.0 is.1)
      (object_asked plan is_queue_kind t m.0.1 p.1))
  target_fits _ a h = cc

  pub merge_fits : (words : List (List ℕ)) (a : Act) → merge_act plan words ≡ Ok a → is_act plan a ≡ true
  merge_fits (s ∷ n ∷ []) a h =
      let m = made_of (λ (o, v). act.Merge o v) (both (object plan is_merge_kind s) (number 0 max_value n)) a h in
      let p = both_are (object plan is_merge_kind s) (number 0 max_value n) m.0.0 m.0.1 m.1 in
      let low = and_parts (leb 0 m.0.1) (leb m.0.1 max_value) (in_range 0 max_value n m.0.1 p.1) in
      subst (λ x. is_act plan x ≡ true) m.2
      (and_from (has_kind is_merge_kind plan m.0.0.0) (leb m.0.1 max_value) (object_asked plan is_merge_kind s m.0.0 p.0) low.1)
  merge_fits _ a h = cc

  pub apply_fits : (words : List (List ℕ)) (a : Act) → apply_act plan words ≡ Ok a → is_act plan a ≡ true
  apply_fits (q ∷ s ∷ []) a h =
      let m = made_of (λ (o, n). act.Apply o n) (both (queue plan q) (strip plan s)) a h in
      let p = both_are (queue plan q) (strip plan s) m.0.0 m.0.1 m.1 in
      subst (λ x. is_act plan x ≡ true) m.2
      (and_from (is_queue plan m.0.0.0) (ltb m.0.1 (length plan.strips)) (object_asked plan is_queue_kind q m.0.0 p.0)
      (lt-ltb m.0.1 (length plan.strips) (strip_within plan s m.0.1 p.1)))
  apply_fits _ a h = cc

  acting_on_fits : (what : BlockAct) (b : Blk) → is_declared plan b ≡ true → is_act plan (acting_on what b) ≡ true
  acting_on_fits CancelBlock b is = is
  acting_on_fits WaitBlock b is = is

  pub block_act_fits : (what : BlockAct) (words : List (List ℕ)) (a : Act) → block_act plan what words ≡ Ok a → is_act plan a ≡ true
  block_act_fits what (b ∷ []) a h =
      let m = made_of (acting_on what) (block plan b) a h in
      subst (λ x. is_act plan x ≡ true) m.2 (acting_on_fits what m.0 (block_declared plan valid b m.0 m.1))
  block_act_fits what _ a h = cc

  pub notify_block_fits : (words : List (List ℕ)) (a : Act) → notify_block_act plan words ≡ Ok a → is_act plan a ≡ true
  notify_block_fits (b ∷ q ∷ c ∷ []) a h =
      let m = made_of (λ (awaited, (o, noted)). act.NotifyBlock awaited o noted) (both (block plan b) (both (queue plan q) (block plan c))) a h in
      let outer = both_are (block plan b) (both (queue plan q) (block plan c)) m.0.0 m.0.1 m.1 in
      let inner = both_are (queue plan q) (block plan c) m.0.1.0 m.0.1.1 outer.1 in
      subst (λ x. is_act plan x ≡ true) m.2
      (and_from (is_declared plan m.0.0) (is_queue plan m.0.1.0.0 && is_declared plan m.0.1.1) (block_declared plan valid b m.0.0 outer.0)
      (and_from (is_queue plan m.0.1.0.0) (is_declared plan m.0.1.1) (object_asked plan is_queue_kind q m.0.1.0 inner.0) (block_declared plan valid c m.0.1.1 inner.1)))
  notify_block_fits _ a h = cc

body_of : (body : Option Run) (run : Run) → option_map_or Ok body (Err NoForm) ≡ Ok run → body ≡ Some run
body_of None run h = cc
body_of (Some r) run h = let same : r ≡ run = cc in ap Some same

-- an act's line
pub act_fits : (d : DraftView) (what : Meant Act) (line : Line (List ℕ)) → ((a : Act) → what ≡ Ok a → is_act d.plan a ≡ true) → act_line d.body what ≡ Ok line → Fits d line
act_fits d what line is h =
    let m = made_of (λ (run, a). AddAct run a) (both (option_map_or Ok d.body (Err NoForm)) what) line h in
    let b = both_are (option_map_or Ok d.body (Err NoForm)) what m.0.0 m.0.1 m.1 in
    subst (Fits d) m.2 (body_of d.body m.0.0 b.0, is m.0.1 b.1)
