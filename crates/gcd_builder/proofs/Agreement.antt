-- What a draft holds beside its plan agrees with it after each change.
use Rattle.std.proofs.Common.{ℕ, zero, suc, ◌≡◌, ◌<◌, ◌+◌, ◌==◌, Bool, true, false, cond, ltb, List, [], ◌∷◌, ◌++◌, length, set, Option, Some, None, IfSome, is_none, option_to_list, slice_get, get_or, count_by, refl, sym, ap, ◌∙◌, subst, arith, map, option_map, flat_map, ◌≤◌, ◌||◌}
use Rattle.std.specs.List.{list_any, flat_map, range_with_len}
use Rattle.std.specs.Str.{bytes_eq}
use Rattle.std.proofs.lemmas.List.{length_push, length-set, append-nil, append_assoc}
use Rattle.std.proofs.lemmas.List.Sums.{sum_by_push}
use Rattle.gcd_plan.specs.Kinds.{is_queue, is_source, is_source_kind}
use Rattle.gcd_plan.specs.PlanView.{PlanView, ObjView, BlkView, cancel_block, IsRun}
use Rattle.gcd_plan.specs.Validity.{IsPlan, submitted_blocks, block_of, is_act, is_declared, strip_of, blocks_by, is_handler_act}
use Rattle.gcd_plan.specs.declared.act.Act.{Act}
use Rattle.gcd_plan.specs.declared.kind.Kind.{Kind}
use Rattle.gcd_plan.specs.declared.numbers.Blk.{Blk}
use Rattle.gcd_plan.specs.declared.numbers.Obj.{Obj}
use Rattle.gcd_plan.specs.declared.numbers.Run.{Run}
use Rattle.gcd_plan.specs.declared.numbers.Run.TheVariants as run
use Rattle.gcd_plan.proofs.Places.{slice_get_some}
use Rattle.gcd_plan.specs.declared.work.Work.{Work}
use Rattle.gcd_plan.proofs.Within.{declared_within, act_block_within, has_object}
use Rattle.gcd_builder.specs.declared.meaning.Meaning.{Meaning}
use Rattle.gcd_builder.specs.declared.meaning.Meaning.TheVariants.{File, Object, Block, Strip}
use Rattle.gcd_builder.specs.Agreement.{AgreeWithPlan, Declares, flags_with, AreSetToo, marks_with, AreMore}
use Rattle.gcd_builder.specs.Changes.{new_file, new_object, with_file, with_object, with_block, with_act, with_cancel, new_intake, new_strip, with_intake, with_strip}
use Rattle.gcd_builder.specs.Changes.{new_block}
use Rattle.gcd_builder.specs.Bodies.{IsBody}
use Rattle.gcd_builder.specs.Names.{meaning_of, is_unused}
use Rattle.gcd_builder.proofs.BlockActs as block_acts
use Rattle.gcd_builder.proofs.Declares.{file_declares, object_declares, block_declares, same_meanings, strip_declares, unnamed_blocks}
use Rattle.gcd_builder.proofs.Inserts.{fit_from}
use Rattle.gcd_builder.proofs.ObjectChanges.{StandsAsSource, source_stands}
use Rattle.gcd_builder.proofs.SourceChanges as source_changes
use Rattle.gcd_builder.proofs.Submitted.{flag_after, flag_same, any_counts}
use Rattle.gcd_builder.proofs.Valid.{object_submits, block_submits, block_applies}
use Rattle.gcd_builder.proofs.Applied.{act_strip_within, handler_no_strip}
use Rattle.std.specs.Option.{option_map_or}
use Rattle.gcd_builder.specs.Taken.{strips_of, applied_strips}
use Rattle.gcd_builder.specs.Bodies.{may_have}
use Rattle.gcd_plan.specs.Made.{is_of_strip, strip_blocks, strip_span, made_by_intake, made_by_strip, intake_block, strip_block}
use Rattle.gcd_plan.specs.Limits.{max_intake, max_blocks}
use Rattle.gcd_plan.specs.Breaks.{Has}
use Rattle.gcd_plan.specs.declared.work.How.{How}
use Rattle.gcd_plan.proofs.MadeBlocks.{any_mapped}
use Rattle.gcd_plan.proofs.Spans.{among_from}
use Rattle.gcd_plan.proofs.Submits.{blocks_counted}
use Rattle.gcd_plan.proofs.Sums.{count_by-append, count_by-map}
use Rattle.gcd_builder.proofs.Makes.{longer, few_acts_in, intake_submits}
use Rattle.gcd_builder.proofs.StripMakes.{strip_submits}
use Rattle.gcd_builder.proofs.MadeNames.{none_named, intake_unnamed, strip_unnamed}
use Rattle.std.proofs.lemmas.List.Concat.{flat_map-append}
use Rattle.std.proofs.lemmas.List.Folds.{list_any-append}
use Rattle.std.proofs.lemmas.Option.{same_Some}
use Rattle.gcd_builder.proofs.Marked.{push_unset}

-- what a new look-up finds is what a name means in the new plan
means_after : (old new : List ℕ → Option Meaning) (before after : PlanView) (name : List ℕ) (meaning : Meaning) → ((q : List ℕ) → old q ≡ meaning_of before q) → Declares old new name meaning → Declares (meaning_of before) (meaning_of after) name meaning → (q : List ℕ) → new q ≡ meaning_of after q
means_after old new before after name meaning known adds means q =
    adds q ∙ ap (λ o. cond (bytes_eq name q) (Some meaning) o) (known q) ∙ sym (means q)

module _ (old new : List ℕ → Option Meaning) (flags applied : List Bool) (count : ℕ) (plan : PlanView) (agrees : AgreeWithPlan old flags applied count plan) where
  pub file_agrees : (number : ℕ) (name path : List ℕ) → is_unused plan name ≡ true → (file : ℕ) → file ≡ length plan.files → Declares old new name (File file) → AgreeWithPlan new flags applied count (with_file (new_file number name path) plan)
  unfolding meaning_of
  file_agrees number name path unused file same adds =
      let file_view = new_file number name path in
      record {
        means = means_after old new plan (with_file file_view plan) name (File (length plan.files)) agrees.means (subst (λ n. Declares old new name (File n)) same adds) (file_declares plan file_view (fit_from plan name unused));
        flags = agrees.flags;
        blocks = agrees.blocks;
        marks = agrees.marks;
        strips = agrees.strips;
        count = agrees.count;
      }

  pub object_agrees : (name : List ℕ) (kind : Kind) (target : Obj) (active : Bool) (path : List ℕ) → is_unused plan name ≡ true → (object : ℕ) → object ≡ length plan.objects → Declares old new name (Object (record { 0 = object })) → AgreeWithPlan new flags applied count (with_object (new_object name kind target active path) plan)
  unfolding meaning_of
  object_agrees name kind target active path unused object same adds =
      let made = new_object name kind target active path in
      let acts = sum_by_push (λ (o : ObjView). length o.handler) plan.objects made in
      record {
        means = means_after old new plan (with_object made plan) name (Object (record { 0 = length plan.objects })) agrees.means (subst (λ n. Declares old new name (Object (record { 0 = n }))) same adds) (object_declares plan made (fit_from plan name unused));
        flags = agrees.flags;
        blocks = λ b. agrees.blocks b ∙ ap (list_any (λ (c : Blk). c.0 == b)) (sym (object_submits plan name kind target active path));
        marks = agrees.marks;
        strips = agrees.strips;
        count = omega (arith, agrees.count);
      }

  pub block_agrees : (name : List ℕ) (work : Option Work) → is_unused plan name ≡ true → (block : ℕ) → block ≡ length plan.blocks → Declares old new name (Block (record { 0 = block })) → AgreeWithPlan new (flags ++ false ∷ []) applied count (with_block (new_block name work) plan)
  unfolding meaning_of
  block_agrees name work unused block same adds =
      let made = new_block name work in
      let acts = sum_by_push (λ (b : BlkView). length b.acts) plan.blocks made in
      record {
        means = means_after old new plan (with_block made plan) name (Block (record { 0 = length plan.blocks })) agrees.means (subst (λ n. Declares old new name (Block (record { 0 = n }))) same adds) (block_declares plan made (fit_from plan name unused));
        flags = length_push flags false ∙ ap (λ n. n + 1) agrees.flags ∙ sym (length_push plan.blocks made);
        blocks = λ b. push_unset flags b ∙ agrees.blocks b ∙ ap (list_any (λ (c : Blk). c.0 == b)) (sym (block_submits plan name work));
        marks = agrees.marks;
        strips = λ a. agrees.strips a ∙ ap (list_any (λ c. c == a)) (sym (block_applies plan name work));
        count = omega (arith, agrees.count);
      }

-- an intake and a strip apply nothing
idle_applies : (make : ℕ → BlkView) → ((k : ℕ) → (make k).acts ≡ []) → (a n : ℕ) → flat_map (λ b. strips_of b.acts) (map make (range_with_len a n)) ≡ []
idle_applies make idle a zero = refl
idle_applies make idle a (suc n) =
    ap (λ acts. strips_of acts ++ flat_map (λ b. strips_of b.acts) (map make (range_with_len (a + 1) n))) (idle a) ∙ idle_applies make idle (a + 1) n

made_applies : (blocks : List BlkView) (make : ℕ → BlkView) → ((k : ℕ) → (make k).acts ≡ []) → (a n : ℕ)
    → flat_map (λ b. strips_of b.acts) (blocks ++ map make (range_with_len a n)) ≡ flat_map (λ b. strips_of b.acts) blocks
made_applies blocks make idle a n =
    flat_map-append (λ (b : BlkView). strips_of b.acts) blocks (map make (range_with_len a n))
    ∙ ap (λ l. flat_map (λ (b : BlkView). strips_of b.acts) blocks ++ l) (idle_applies make idle a n)
    ∙ append-nil (flat_map (λ (b : BlkView). strips_of b.acts) blocks)

module _ (old new : List ℕ → Option Meaning) (flags flags' applied : List Bool) (count : ℕ) (plan : PlanView) (valid : IsPlan plan) (agrees : AgreeWithPlan old flags applied count plan) (n : ℕ) (more : AreMore flags flags' n) where
  pub intake_agrees : (queue : Obj) → is_none plan.intake ≡ true → is_queue plan queue.0 ≡ true → 1 ≤ n → n ≤ max_intake → length plan.blocks + n ≤ max_blocks → AgreeWithPlan old flags' applied count (with_intake (new_intake queue n plan) plan)
  unfolding meaning_of
  intake_agrees queue none on low high room =
      let made = made_by_intake (new_intake queue n plan) in
      let longer_by = longer plan valid (with_intake (new_intake queue n plan) plan) intake_block 1 n (λ k. refl) refl in
      let acts = few_acts_in plan valid (with_intake (new_intake queue n plan) plan) intake_block 1 n (λ k. refl) refl in
      record {
        means = λ q. agrees.means q ∙ sym (unnamed_blocks plan made (none_named intake_block 1 n intake_unnamed) q);
        flags = omega (arith, more.size, agrees.flags, longer_by);
        blocks = λ b. more.each b ∙ agrees.blocks b ∙ ap (list_any (λ (c : Blk). c.0 == b)) (sym (intake_submits plan valid queue n none on low high room));
        marks = agrees.marks;
        strips = λ a. agrees.strips a ∙ ap (list_any (λ c. c == a)) (sym (made_applies plan.blocks intake_block (λ k. refl) 1 n));
        count = omega (arith, agrees.count, acts);
      }

  pub strip_agrees : (name : List ℕ) (how : How) (file len : ℕ) → is_unused plan name ≡ true → (strip : ℕ) → strip ≡ length plan.strips → Declares old new name (Strip strip) → AgreeWithPlan new flags' (applied ++ false ∷ []) count (with_strip (new_strip name how file len n plan) plan)
  unfolding meaning_of
  strip_agrees name how file len unused strip same adds =
      let s = new_strip name how file len n plan in
      let named : PlanView = record plan { strips = plan.strips ++ s ∷ [] } in
      let longer_by = longer plan valid (with_strip s plan) (strip_block s) 0 n (λ k. refl) refl in
      let acts = few_acts_in plan valid (with_strip s plan) (strip_block s) 0 n (λ k. refl) refl in
      record {
        means = λ q.
            means_after old new plan named name (Strip (length plan.strips)) agrees.means (subst (λ k. Declares old new name (Strip k)) same adds) (strip_declares plan s (fit_from plan name unused)) q
            ∙ sym (unnamed_blocks named (made_by_strip s) (none_named (strip_block s) 0 n (strip_unnamed s)) q);
        flags = omega (arith, more.size, agrees.flags, longer_by);
        blocks = λ b. more.each b ∙ agrees.blocks b ∙ ap (list_any (λ (c : Blk). c.0 == b)) (sym (strip_submits plan valid name how file len n));
        marks = length_push applied false ∙ ap (λ k. k + 1) agrees.marks ∙ sym (length_push plan.strips s);
        strips = λ a. push_unset applied a ∙ agrees.strips a ∙ ap (list_any (λ c. c == a)) (sym (made_applies plan.blocks (strip_block s) (λ k. refl) 0 n));
        count = omega (arith, agrees.count, acts);
      }

-- they are as many
pub length_flags : (flags : List Bool) (o : Option Blk) → length (flags_with flags o) ≡ length flags
length_flags flags None = refl
length_flags flags (Some c) = length-set flags c.0 true

-- flags agree with the blocks that are submitted after an act
flags_agree : (flags : List Bool) (old new : List Blk) (o : Option Blk) → ((b : ℕ) → get_or flags b false ≡ list_any (λ (d : Blk). d.0 == b) old) → ((c : Blk) → o ≡ Some c → c.0 < length flags) → ((q : ℕ) → count_by (λ (d : Blk). d.0 == q) new ≡ count_by (λ (d : Blk). d.0 == q) old + count_by (λ (d : Blk). d.0 == q) (option_to_list o)) → (q : ℕ) → get_or (flags_with flags o) q false ≡ list_any (λ (d : Blk). d.0 == q) new
flags_agree flags old new None agrees within more q = flag_same flags old new agrees (λ r. let m = more r in omega arith) q
flags_agree flags old new (Some c) agrees within more q = flag_after flags old new c agrees (within c refl) more q

-- the flags of applied strips, as those of blocks
abbrev as_block : ℕ → Blk
as_block a = record { 0 = a }

marks_as_flags : (marks : List Bool) (o : Option ℕ) → marks_with marks o ≡ flags_with marks (option_map as_block o)
marks_as_flags marks None = refl
marks_as_flags marks (Some a) = refl

list_as_blocks : (o : Option ℕ) → option_to_list (option_map as_block o) ≡ map as_block (option_to_list o)
list_as_blocks None = refl
list_as_blocks (Some a) = refl

any_as_blocks : (a : ℕ) (xs : List ℕ) → list_any (λ c. c == a) xs ≡ list_any (λ (d : Blk). d.0 == a) (map as_block xs)
any_as_blocks a xs = sym (any_mapped (λ (d : Blk). d.0 == a) as_block xs)

length_marks : (marks : List Bool) (o : Option ℕ) → length (marks_with marks o) ≡ length marks
length_marks marks None = refl
length_marks marks (Some a) = length-set marks a true

some_within : (o : Option ℕ) (n : ℕ) → ((a : ℕ) → o ≡ Some a → a < n) → (c : Blk) → option_map as_block o ≡ Some c → c.0 < n
some_within None n within c is = cc
some_within (Some a) n within c is = subst (λ (d : Blk). d.0 < n) (same_Some (as_block a) c is) (within a refl)

-- marks agree with the strips that are applied after an act
marks_agree : (marks : List Bool) (old new : List ℕ) (o : Option ℕ) → ((a : ℕ) → get_or marks a false ≡ list_any (λ c. c == a) old) → ((a : ℕ) → o ≡ Some a → a < length marks) → ((q : ℕ) → count_by (λ c. c == q) new ≡ count_by (λ c. c == q) old + count_by (λ c. c == q) (option_to_list o)) → (q : ℕ) → get_or (marks_with marks o) q false ≡ list_any (λ c. c == q) new
marks_agree marks old new o agrees within more q =
    ap (λ l. get_or l q false) (marks_as_flags marks o)
    ∙ flags_agree marks (map as_block old) (map as_block new) (option_map as_block o) (λ b. agrees b ∙ any_as_blocks b old) (some_within o (length marks) within)
    (λ r.
    let p = λ (d : Blk). d.0 == r in
    let first = count_by-map p as_block new in
    let second = count_by-map p as_block old in
    let third = ap (count_by p) (list_as_blocks o) ∙ count_by-map p as_block (option_to_list o) in
    let counted = more r in
    omega (arith, first, second, third, counted)) q
    ∙ sym (any_as_blocks q new)

-- what is counted alike is found alike
any_same : {X : Type 0} (p : X → Bool) (xs ys : List X) → count_by p xs ≡ count_by p ys → list_any p xs ≡ list_any p ys
any_same p xs ys same = any_counts p xs ∙ ap (ltb 0) same ∙ sym (any_counts p ys)

strip_found : (plan : PlanView) (o : Option ℕ) (q : ℕ) → list_any (λ (d : Blk). d.0 == q) (option_map_or (strip_blocks plan) o []) ≡ option_map_or (λ a. is_of_strip plan a q) o false
strip_found plan None q = refl
strip_found plan (Some a) q = any_counts (λ (d : Blk). d.0 == q) (strip_blocks plan a) ∙ ap (ltb 0) (blocks_counted plan a q) ∙ flag_back (is_of_strip plan a q)
  where
    flag_back : (v : Bool) → ltb 0 (cond v 1 0) ≡ v
    flag_back true = refl
    flag_back false = refl

-- flags of blocks after an act: its own block's, and those of its strip
module _ (plan : PlanView) (flags flags' : List Bool) (act : Act) (new : List Blk)
    (agrees : (b : ℕ) → get_or flags b false ≡ list_any (λ (d : Blk). d.0 == b) (submitted_blocks plan))
    (within : (c : Blk) → block_of act ≡ Some c → c.0 < length flags)
    (marked : AreSetToo (flags_with flags (block_of act)) flags' (λ q. option_map_or (λ a. is_of_strip plan a q) (strip_of act) false))
    (more : (q : ℕ) → count_by (λ (d : Blk). d.0 == q) new ≡ count_by (λ (d : Blk). d.0 == q) (submitted_blocks plan) + count_by (λ (d : Blk). d.0 == q) (blocks_by plan act)) where
  act_flags : (q : ℕ) → get_or flags' q false ≡ list_any (λ (d : Blk). d.0 == q) new
  act_flags q =
      let p = λ (d : Blk). d.0 == q in
      let old = submitted_blocks plan in
      let own = option_to_list (block_of act) in
      let strips = option_map_or (strip_blocks plan) (strip_of act) [] in
      let whole = count_by-append p old (blocks_by plan act) in
      let counted = more q in
      marked.each q
      ∙ ap (λ v. v || option_map_or (λ a. is_of_strip plan a q) (strip_of act) false)
      (flags_agree flags old (old ++ own) (block_of act) agrees within (λ r. count_by-append (λ (d : Blk). d.0 == r) old own) q)
      ∙ ap (λ v. list_any p (old ++ own) || v) (sym (strip_found plan (strip_of act) q))
      ∙ sym (list_any-append p (old ++ own) strips)
      ∙ ap (list_any p) (append_assoc old own strips)
      ∙ any_same p (old ++ (own ++ strips)) new (omega (arith, whole, counted))

module _ (meanings : List ℕ → Option Meaning) (flags applied : List Bool) (count : ℕ) (plan : PlanView) (agrees : AgreeWithPlan meanings flags applied count plan) (valid : IsPlan plan) where
  flag_within : (a : Act) → is_act plan a ≡ true → (c : Blk) → block_of a ≡ Some c → c.0 < length flags
  flag_within a fits c submits = subst (λ n. c.0 < n) (sym agrees.flags) (act_block_within plan a c fits submits)

  mark_within : (a : Act) → is_act plan a ≡ true → (s : ℕ) → strip_of a ≡ Some s → s < length applied
  mark_within a fits s is = subst (λ n. s < n) (sym agrees.marks) (act_strip_within plan a s fits is)

  module _ (a : Act) (fits : is_act plan a ≡ true) (flags' : List Bool) (marked : AreSetToo (flags_with flags (block_of a)) flags' (λ q. option_map_or (λ s. is_of_strip plan s q) (strip_of a) false)) where
    -- they are as many
    same_size : length flags' ≡ length plan.blocks
    same_size = marked.size ∙ length_flags flags (block_of a) ∙ agrees.flags

    -- an act of a block's body
    block_act_agrees : (b : Blk) (block : BlkView) (stands : slice_get plan.blocks b.0 ≡ Some block) → AgreeWithPlan meanings flags' (marks_with applied (strip_of a)) (count + 1) (block_acts.new plan valid b block stands a)
    block_act_agrees b block stands =
        let new = block_acts.new plan valid b block stands a in
        record {
          means = λ q. agrees.means q ∙ same_meanings plan new refl refl refl (sym (block_acts.same_map plan valid b block stands a (λ blk. blk.name) refl)) q;
          flags = same_size ∙ sym (block_acts.same_length plan valid b block stands a);
          blocks = act_flags plan flags flags' a (submitted_blocks new) agrees.blocks (flag_within a fits) marked (block_acts.submitted plan valid b block stands a);
          marks = length_marks applied (strip_of a) ∙ agrees.marks;
          strips = marks_agree applied (applied_strips plan) (applied_strips new) (strip_of a) agrees.strips (mark_within a fits) (block_acts.more_applied plan valid b block stands a);
          count = let more = block_acts.more_acts plan valid b block stands a in omega (arith, agrees.count);
        }

    -- an act of a handler, which applies no strip
    handler_act_agrees : is_handler_act a ≡ true → (s : Obj) (at : StandsAsSource plan s.0) → AgreeWithPlan meanings flags' (marks_with applied (strip_of a)) (count + 1) (source_changes.act_new plan valid s at a)
    handler_act_agrees handles s at =
        let new = source_changes.act_new plan valid s at a in
        let none : marks_with applied (strip_of a) ≡ applied = ap (marks_with applied) (handler_no_strip a handles) in
        record {
          means = λ q. agrees.means q ∙ same_meanings plan new refl (sym (source_changes.act_names plan valid s at a)) refl refl q;
          flags = same_size;
          blocks = act_flags plan flags flags' a (submitted_blocks new) agrees.blocks (flag_within a fits) marked (source_changes.act_submitted plan valid s at a);
          marks = ap length none ∙ agrees.marks;
          strips = λ q. ap (λ l. get_or l q false) none ∙ agrees.strips q;
          count = let more = source_changes.act_acts plan valid s at a in omega (arith, agrees.count);
        }

    -- an act of a body that may have it
    pub act_agrees : (r : Run) → IsBody plan r → may_have r a ≡ true → AgreeWithPlan meanings flags' (marks_with applied (strip_of a)) (count + 1) (with_act a r plan)
    act_agrees (run.Block b) body allowed =
        let at = slice_get_some plan.blocks b.0 body.0 in
        subst (AgreeWithPlan meanings flags' (marks_with applied (strip_of a)) (count + 1)) (sym (block_acts.is_new plan valid b at.0 at.1 a))
        (block_act_agrees b at.0 at.1)
    act_agrees (run.Source s) body allowed =
        let at = source_stands plan valid s.0 body in
        subst (AgreeWithPlan meanings flags' (marks_with applied (strip_of a)) (count + 1)) (sym (source_changes.act_is_new plan valid s at a))
        (handler_act_agrees allowed s at)

  -- a cancellation block
  pub cancel_agrees : (s : Obj) (at : StandsAsSource plan s.0) (b : Blk) (lacks : is_none (cancel_block plan s.0) ≡ true) → is_declared plan b ≡ true → AgreeWithPlan meanings (set flags b.0 true) applied count (source_changes.cancel_new plan valid s at b lacks)
  cancel_agrees s at b lacks fits =
      let new = source_changes.cancel_new plan valid s at b lacks in
      record {
        means = λ q. agrees.means q ∙ same_meanings plan new refl (sym (source_changes.cancel_names plan valid s at b lacks)) refl refl q;
        flags = length-set flags b.0 true ∙ agrees.flags;
        blocks = flag_after flags (submitted_blocks plan) (submitted_blocks new) b agrees.blocks (subst (λ n. b.0 < n) (sym agrees.flags) (declared_within plan b fits)) (source_changes.cancel_submitted plan valid s at b lacks);
        marks = agrees.marks;
        strips = agrees.strips;
        count = agrees.count ∙ sym (source_changes.cancel_acts plan valid s at b lacks);
      }

  -- a source's cancellation block
  pub cancelled_agrees : (s : Obj) (b : Blk) → is_source plan s.0 ≡ true → is_none (cancel_block plan s.0) ≡ true → is_declared plan b ≡ true → AgreeWithPlan meanings (set flags b.0 true) applied count (with_cancel s b plan)
  cancelled_agrees s b source lacks fits =
      let at = source_stands plan valid s.0 source in
      subst (AgreeWithPlan meanings (set flags b.0 true) applied count) (sym (source_changes.cancel_is_new plan valid s at b lacks))
      (cancel_agrees s at b lacks fits)

  -- where the flag of an act's block stands, the mark of its strip, and the flags of the strip's blocks
  pub flag_stands : (a : Act) → is_act plan a ≡ true → IfSome (block_of a) (λ c. c.0 < length flags)
  flag_stands a fits = flag_cases (block_of a) (flag_within a fits)
    where
      flag_cases : (o : Option Blk) → ((c : Blk) → o ≡ Some c → c.0 < length flags) → IfSome o (λ c. c.0 < length flags)
      flag_cases None h = tt
      flag_cases (Some c) h = h c refl

  pub mark_stands : (a : Act) → is_act plan a ≡ true → IfSome (strip_of a) (λ s. s < length applied)
  mark_stands a fits = mark_cases (strip_of a) (mark_within a fits)
    where
      mark_cases : (o : Option ℕ) → ((s : ℕ) → o ≡ Some s → s < length applied) → IfSome o (λ s. s < length applied)
      mark_cases None h = tt
      mark_cases (Some s) h = h s refl

  pub blocks_stand : (a : Act) → is_act plan a ≡ true → IfSome (strip_of a) (λ n. Has plan.strips n (λ s. s.first + s.count ≤ length flags))
  blocks_stand a fits = stand_cases (strip_of a) (λ n is. act_strip_within plan a n fits is)
    where
      stand_cases : (o : Option ℕ) → ((n : ℕ) → o ≡ Some n → n < length plan.strips) → IfSome o (λ n. Has plan.strips n (λ s. s.first + s.count ≤ length flags))
      stand_cases None h = tt
      stand_cases (Some n) h =
          let at = slice_get_some plan.strips n (h n refl) in
          let among = among_from plan (strip_span at.0) (valid.strips n at.0 at.1).among in
          record { element = at.0; stands = at.1; holds = omega (arith, among.1, agrees.flags) }

-- a body of a plan is a run
pub body_runs : (plan : PlanView) (r : Run) → IsBody plan r → IsRun plan r
body_runs plan (run.Block b) body = body.0
body_runs plan (run.Source s) body = has_object is_source_kind plan s.0 body
