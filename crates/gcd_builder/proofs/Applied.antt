-- The blocks of a strip that no line applies are not submitted: acts and cancellations name declared blocks, and no other strip has them.
use Rattle.std.proofs.Common.{ltb, ℕ, ◌≡◌, ◌<◌, ◌==◌, true, false, not, ◌&&◌, ◌||◌, cond, List, [], ◌∷◌, ◌++◌, length, map, Option, Some, None, is_none, option_to_list, slice_get, count_by, refl, sym, ap, ◌∙◌, subst, arith}
use Rattle.std.specs.List.{flat_map, list_all, list_any}
use Rattle.std.specs.Option.{option_map_or}
use Rattle.std.proofs.lemmas.Bool.{ltb-true, and_parts, both_ways, eqb-true, eq-eqb, false_from_ne_true, not-true, or_from, or_parts}
use Rattle.std.proofs.lemmas.List.{nil_from_length}
use Rattle.std.proofs.lemmas.List.Folds.{list_any-append}
use Rattle.std.proofs.lemmas.Option.{same_Some}
use Rattle.gcd_plan.specs.Checked.{submits}
use Rattle.gcd_plan.specs.Kinds.{is_queue}
use Rattle.gcd_plan.specs.Made.{is_within, is_made, is_of_strip, intake_span, strip_span}
use Rattle.gcd_plan.specs.PlanView.{PlanView, ObjView, BlkView, StripView}
use Rattle.gcd_plan.specs.Validity.{IsPlan, block_of, strip_of, blocks_of, submitted_blocks, is_act, is_handler_act, is_block, is_declared, is_kind, is_object, is_work, has_fields, has_path, has_source_fields}
use Rattle.gcd_plan.specs.declared.act.Act.{Act}
use Rattle.gcd_plan.specs.declared.act.Act.TheVariants.{Async, Barrier, Sync, BarrierSync, GroupAsync, Notify, Enter, Leave, GroupWait, GroupWaitFor, Signal, Wait, WaitFor, Suspend, Resume, Activate, Target, Merge, Cancel, Retain, Release, Apply, CancelBlock, WaitBlock, NotifyBlock}
use Rattle.gcd_plan.specs.declared.kind.Kind.{Kind}
use Rattle.gcd_plan.specs.declared.kind.Kind.TheVariants.{Serial, Concurrent, Group, Semaphore, Add, Or, Replace, Timer, Read}
use Rattle.gcd_plan.specs.declared.numbers.Blk.{Blk}
use Rattle.gcd_plan.proofs.Options.{none_from_is_none}
use Rattle.gcd_plan.proofs.Spans.{made_of_strip}
use Rattle.gcd_plan.proofs.Submits.{acts_counted}
use Rattle.gcd_plan.proofs.Sums.{count_by-append, count_by-cons, count_by-map, one_place}
use Rattle.gcd_plan.proofs.Within.{act_declared}
use Rattle.gcd_builder.specs.Taken.{strips_of, applied_strips, is_unapplied}

-- ## What acts name

-- the strip that an act applies is one of the plan's
pub act_strip_within : (plan : PlanView) (a : Act) (n : ℕ) → is_act plan a ≡ true → strip_of a ≡ Some n → n < length plan.strips
act_strip_within plan (Async q b) n fits is = cc
act_strip_within plan (Barrier q b) n fits is = cc
act_strip_within plan (Sync q b) n fits is = cc
act_strip_within plan (BarrierSync q b) n fits is = cc
act_strip_within plan (GroupAsync g q b) n fits is = cc
act_strip_within plan (Notify g q b) n fits is = cc
act_strip_within plan (Enter g) n fits is = cc
act_strip_within plan (Leave g) n fits is = cc
act_strip_within plan (GroupWait g) n fits is = cc
act_strip_within plan (GroupWaitFor g ms) n fits is = cc
act_strip_within plan (Signal s) n fits is = cc
act_strip_within plan (Wait s) n fits is = cc
act_strip_within plan (WaitFor s ms) n fits is = cc
act_strip_within plan (Suspend o) n fits is = cc
act_strip_within plan (Resume o) n fits is = cc
act_strip_within plan (Activate o) n fits is = cc
act_strip_within plan (Target o t) n fits is = cc
act_strip_within plan (Merge s m) n fits is = cc
act_strip_within plan (Cancel s) n fits is = cc
act_strip_within plan (Retain o) n fits is = cc
act_strip_within plan (Release o) n fits is = cc
act_strip_within plan (Apply q a) n fits is = subst (λ k. k < length plan.strips) (same_Some a n is) (ltb-true a (length plan.strips) (and_parts (is_queue plan q.0) (ltb a (length plan.strips)) fits).1)
act_strip_within plan (CancelBlock b) n fits is = cc
act_strip_within plan (WaitBlock b) n fits is = cc
act_strip_within plan (NotifyBlock b q c) n fits is = cc

-- a handler's act submits nothing
record Idle (a : Act) : Type 0 where
  block : block_of a ≡ None
  strip : strip_of a ≡ None

handler_idle : (a : Act) → is_handler_act a ≡ true → Idle a
handler_idle (Async q b) h = cc
handler_idle (Barrier q b) h = cc
handler_idle (Sync q b) h = cc
handler_idle (BarrierSync q b) h = cc
handler_idle (GroupAsync g q b) h = cc
handler_idle (Notify g q b) h = cc
handler_idle (Enter g) h = record { block = refl; strip = refl }
handler_idle (Leave g) h = record { block = refl; strip = refl }
handler_idle (GroupWait g) h = cc
handler_idle (GroupWaitFor g ms) h = cc
handler_idle (Signal s) h = record { block = refl; strip = refl }
handler_idle (Wait s) h = cc
handler_idle (WaitFor s ms) h = cc
handler_idle (Suspend o) h = record { block = refl; strip = refl }
handler_idle (Resume o) h = record { block = refl; strip = refl }
handler_idle (Activate o) h = record { block = refl; strip = refl }
handler_idle (Target o t) h = record { block = refl; strip = refl }
handler_idle (Merge s n) h = record { block = refl; strip = refl }
handler_idle (Cancel s) h = record { block = refl; strip = refl }
handler_idle (Retain o) h = record { block = refl; strip = refl }
handler_idle (Release o) h = record { block = refl; strip = refl }
handler_idle (Apply q a) h = cc
handler_idle (CancelBlock b) h = record { block = refl; strip = refl }
handler_idle (WaitBlock b) h = cc
handler_idle (NotifyBlock b q c) h = cc

pub handler_no_strip : (a : Act) → is_handler_act a ≡ true → strip_of a ≡ None
handler_no_strip a h = (handler_idle a h).strip

pub handler_no_block : (a : Act) → is_handler_act a ≡ true → block_of a ≡ None
handler_no_block a h = (handler_idle a h).block

-- ## The acts and the cancellation block of an object

abbrev Parts : PlanView → ObjView → Type 0
Parts plan o = (list_all (λ act. is_handler_act act && is_act plan act) o.handler ≡ true) × (option_map_or (is_declared plan) o.cancel true ≡ true)

no_parts : (plan : PlanView) (o : ObjView) → (length o.handler == 0 && is_none o.cancel) ≡ true → Parts plan o
no_parts plan o h =
    let each = and_parts (length o.handler == 0) (is_none o.cancel) h in (
      ap (list_all (λ act. is_handler_act act && is_act plan act)) (nil_from_length o.handler (eqb-true _ _ each.0)),
      ap (λ c. option_map_or (is_declared plan) c true) (none_from_is_none o.cancel each.1),
    )

source_parts : (plan : PlanView) (o : ObjView) → has_source_fields plan o ≡ true → Parts plan o
source_parts plan o h =
    let target = and_parts (is_queue plan o.target.0) _ h in
    let active = and_parts (not o.active) _ target.1 in
    and_parts (list_all (λ act. is_handler_act act && is_act plan act) o.handler) (option_map_or (is_declared plan) o.cancel true) active.1

pub own_parts : (plan : PlanView) (o : ObjView) (kind : Kind) → o.kind ≡ kind → has_fields plan kind o ≡ true → Parts plan o
own_parts plan o Serial is h = no_parts plan o (and_parts (is_queue plan o.target.0) _ h).1
own_parts plan o Concurrent is h = no_parts plan o (and_parts (is_queue plan o.target.0) _ h).1
own_parts plan o Group is h = no_parts plan o (and_parts o.active _ (and_parts (o.target.0 == 0) _ h).1).1
own_parts plan o (Semaphore n) is h = no_parts plan o (and_parts o.active _ (and_parts (o.target.0 == 0) _ h).1).1
own_parts plan o Add is h = source_parts plan o h
own_parts plan o Or is h = source_parts plan o h
own_parts plan o Replace is h = source_parts plan o h
own_parts plan o (Timer start every) is h = source_parts plan o h
own_parts plan o Read is h = source_parts plan o h

-- ## A strip that is not applied

-- the strip of a block that is of one
of_strip_at : (plan : PlanView) (a b : ℕ) → is_of_strip plan a b ≡ true → (s : StripView) × (slice_get plan.strips a ≡ Some s) × (is_within b (strip_span s) ≡ true)
of_strip_at plan a b h = found (slice_get plan.strips a) refl h
  where
    found : (o : Option StripView) → slice_get plan.strips a ≡ o → option_map_or (λ s. is_within b (strip_span s)) o false ≡ true → (s : StripView) × (slice_get plan.strips a ≡ Some s) × (is_within b (strip_span s) ≡ true)
    found None is h = cc
    found (Some s) is h = (s, is, h)

module _ (plan : PlanView) (valid : IsPlan plan) (a b : ℕ) (of : is_of_strip plan a b ≡ true) where
  made : is_made plan b ≡ true
  made = let at = of_strip_at plan a b of in made_of_strip plan a at.0 at.1 b at.2

  -- a declared block is another
  other_block : (c : Blk) → is_declared plan c ≡ true → (c.0 == b) ≡ false
  other_block c declared =
      let rest = (and_parts _ (not (is_made plan c.0)) (and_parts _ _ declared).1).1 in
      false_from_ne_true (c.0 == b)
      (λ e. both_ways (is_made plan b) (subst (λ n. is_made plan n ≡ false) (eqb-true c.0 b e) (not-true (is_made plan c.0) rest)) made)

  -- no other strip has the block
  other_strip : (c : ℕ) → (c == a) ≡ false → is_of_strip plan c b ≡ false
  other_strip c other =
      false_from_ne_true (is_of_strip plan c b)
      (λ also.
      let at = of_strip_at plan a b of in
      let there = of_strip_at plan c b also in
      let split = count_by-append (is_within b) (map intake_span (option_to_list plan.intake)) (map strip_span plan.strips) in
      let mapped = count_by-map (is_within b) strip_span plan.strips in
      let few = valid.apart b in
      let same = one_place (λ s. is_within b (strip_span s)) plan.strips c a there.0 at.0 there.1 at.1 there.2 at.2 (omega (arith, split, mapped, few)) in
      both_ways (c == a) other (eq-eqb c a same))

  free_block : (o : Option Blk) → ((c : Blk) → o ≡ Some c → is_declared plan c ≡ true) → option_map_or (λ (c : Blk). c.0 == b) o false ≡ false
  free_block None h = refl
  free_block (Some c) h = other_block c (h c refl)

  free_strip : (o : Option ℕ) → list_any (λ c. c == a) (option_to_list o) ≡ false → option_map_or (λ c. is_of_strip plan c b) o false ≡ false
  free_strip None h = refl
  free_strip (Some c) h = other_strip c (or_parts (c == a) false h).0

  act_free : (act : Act) → is_act plan act ≡ true → list_any (λ c. c == a) (option_to_list (strip_of act)) ≡ false → submits plan b act ≡ false
  act_free act fits other =
      or_from (option_map_or (λ (c : Blk). c.0 == b) (block_of act) false) (option_map_or (λ c. is_of_strip plan c b) (strip_of act) false)
      (free_block (block_of act) (λ c is. act_declared plan act c fits is)) (free_strip (strip_of act) other)

  acts_free : (acts : List Act) → list_all (is_act plan) acts ≡ true → list_any (λ c. c == a) (strips_of acts) ≡ false → count_by (submits plan b) acts ≡ 0
  acts_free [] fits other = refl
  acts_free (act ∷ acts) fits other =
      let each = and_parts (is_act plan act) (list_all (is_act plan) acts) fits in
      let apart = or_parts (list_any (λ c. c == a) (option_to_list (strip_of act))) (list_any (λ c. c == a) (strips_of acts)) (sym (list_any-append (λ c. c == a) (option_to_list (strip_of act)) (strips_of acts)) ∙ other) in
      let step = count_by-cons (submits plan b) act acts in
      let own : ◌≡◌ {A = ℕ} (cond (submits plan b act) 1 0) 0 = ap (λ v. cond v 1 0) (act_free act each.0 apart.0) in
      let rest = acts_free acts each.1 apart.1 in
      omega (arith, step, own, rest)

  blocks_free : (blocks : List BlkView) → list_all (is_block plan) blocks ≡ true → list_any (λ c. c == a) (flat_map (λ d. strips_of d.acts) blocks) ≡ false
      → count_by (λ (c : Blk). c.0 == b) (flat_map (λ d. blocks_of plan d.acts) blocks) ≡ 0
  blocks_free [] fits other = refl
  blocks_free (d ∷ blocks) fits other =
      let each = and_parts (is_block plan d) (list_all (is_block plan) blocks) fits in
      let acts = (and_parts (option_map_or (is_work plan) d.work true) (list_all (is_act plan) d.acts) each.0).1 in
      let apart = or_parts (list_any (λ c. c == a) (strips_of d.acts)) (list_any (λ c. c == a) (flat_map (λ (e : BlkView). strips_of e.acts) blocks)) (sym (list_any-append (λ c. c == a) (strips_of d.acts) (flat_map (λ (e : BlkView). strips_of e.acts) blocks)) ∙ other) in
      let split = count_by-append (λ (c : Blk). c.0 == b) (blocks_of plan d.acts) (flat_map (λ (e : BlkView). blocks_of plan e.acts) blocks) in
      let own = acts_counted plan b d.acts ∙ acts_free d.acts acts apart.0 in
      let rest = blocks_free blocks each.1 apart.1 in
      omega (arith, split, own, rest)

  handled_free : (acts : List Act) → list_all (λ act. is_handler_act act && is_act plan act) acts ≡ true → count_by (submits plan b) acts ≡ 0
  handled_free [] h = refl
  handled_free (act ∷ acts) h =
      let each = and_parts (is_handler_act act && is_act plan act) (list_all (λ act. is_handler_act act && is_act plan act) acts) h in
      let handles = (and_parts (is_handler_act act) (is_act plan act) each.0).0 in
      let none : submits plan b act ≡ false =
      ap (λ o. option_map_or (λ (c : Blk). c.0 == b) o false || option_map_or (λ c. is_of_strip plan c b) (strip_of act) false) (handler_no_block act handles)
      ∙ ap (λ o. option_map_or (λ c. is_of_strip plan c b) o false) (handler_no_strip act handles)
      in
      let step = count_by-cons (submits plan b) act acts in
      let own : ◌≡◌ {A = ℕ} (cond (submits plan b act) 1 0) 0 = ap (λ v. cond v 1 0) none in
      let rest = handled_free acts each.1 in
      omega (arith, step, own, rest)

  cancel_free : (o : Option Blk) → option_map_or (is_declared plan) o true ≡ true → count_by (λ (c : Blk). c.0 == b) (option_to_list o) ≡ 0
  cancel_free None h = refl
  cancel_free (Some c) h =
      let step = count_by-cons (λ (d : Blk). d.0 == b) c [] in
      let own : ◌≡◌ {A = ℕ} (cond (c.0 == b) 1 0) 0 = ap (λ v. cond v 1 0) (other_block c h) in
      omega (arith, step, own)

  object_free : (o : ObjView) → is_object plan o ≡ true → count_by (λ (c : Blk). c.0 == b) (blocks_of plan o.handler ++ option_to_list o.cancel) ≡ 0
  object_free o whole =
      let kind = and_parts (is_kind o.kind) (has_path o.kind o.path && has_fields plan o.kind o) whole in
      let fields = (and_parts (has_path o.kind o.path) (has_fields plan o.kind o) kind.1).1 in
      let parts = own_parts plan o o.kind refl fields in
      let split = count_by-append (λ (c : Blk). c.0 == b) (blocks_of plan o.handler) (option_to_list o.cancel) in
      let acts = acts_counted plan b o.handler ∙ handled_free o.handler parts.0 in
      let cancel = cancel_free o.cancel parts.1 in
      omega (arith, split, acts, cancel)

  objects_free : (objects : List ObjView) → list_all (is_object plan) objects ≡ true
      → count_by (λ (c : Blk). c.0 == b) (flat_map (λ o. blocks_of plan o.handler ++ option_to_list o.cancel) objects) ≡ 0
  objects_free [] fits = refl
  objects_free (o ∷ objects) fits =
      let each = and_parts (is_object plan o) (list_all (is_object plan) objects) fits in
      let split = count_by-append (λ (c : Blk). c.0 == b) (blocks_of plan o.handler ++ option_to_list o.cancel) (flat_map (λ (p : ObjView). blocks_of plan p.handler ++ option_to_list p.cancel) objects) in
      let own = object_free o each.0 in
      let rest = objects_free objects each.1 in
      omega (arith, split, own, rest)

  -- where no line applies the strip, no line submits the block
  pub unapplied_free : is_unapplied plan a ≡ true → count_by (λ (c : Blk). c.0 == b) (submitted_blocks plan) ≡ 0
  unapplied_free unapplied =
      let first = blocks_free plan.blocks valid.blocks (not-true (list_any (λ c. c == a) (applied_strips plan)) unapplied) in
      let second = objects_free plan.objects valid.objects in
      let split = count_by-append (λ (c : Blk). c.0 == b) (flat_map (λ (d : BlkView). blocks_of plan d.acts) plan.blocks) (flat_map (λ (o : ObjView). blocks_of plan o.handler ++ option_to_list o.cancel) plan.objects) in
      omega (arith, split, first, second)
