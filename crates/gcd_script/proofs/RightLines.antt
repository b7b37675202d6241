-- A line that means something is right, and a right line keeps a draft sound.
use Rattle.std.proofs.Common.{ℕ, zero, suc, count_by, ◌≡◌, ◌<◌, ◌≤◌, ◌+◌, true, false, not, cond, ltb, leb, List, [], ◌∷◌, length, Option, Some, None, Ok, Err, IfSome, option_map, slice_get, codes, refl, sym, ap, ◌∙◌, subst, lit≤, arith}
use Rattle.std.specs.Option.{option_map_or}
use Rattle.std.specs.Str.{bytes_eq}
use Rattle.std.proofs.lemmas.Bool.{and_parts, ltb-true, leb-true, false_from_ne_true}
use Rattle.std.proofs.lemmas.List.{length_push, length-set}
use Rattle.gcd_plan.specs.Kinds.{is_source, is_source_kind}
use Rattle.gcd_plan.specs.Limits.{max_files, max_objects, max_blocks, max_acts, max_time, max_strips}
use Rattle.gcd_plan.specs.PlanView.{PlanView, BlkView}
use Rattle.gcd_plan.specs.Validity.{reaches_root, act_count, has_name, IsPlan}
use Rattle.gcd_plan.specs.declared.act.Act.{Act}
use Rattle.gcd_plan.specs.declared.numbers.Blk.{Blk}
use Rattle.gcd_plan.specs.declared.numbers.Obj.{Obj}
use Rattle.gcd_plan.specs.declared.numbers.Run.{Run}
use Rattle.gcd_plan.specs.declared.numbers.Run.TheVariants as run
use Rattle.gcd_plan.proofs.Places.{slice_get_some}
use Rattle.gcd_script.specs.declared.keyword.Keyword.{Keyword}
use Rattle.gcd_script.specs.declared.keyword.Keyword.TheVariants.{File, Queue, Group, Semaphore, Source, Cancelled, Until, Block, Handler, Main, Submit, GroupSubmit, OneObject, Limited, Target, Merge, Intake, Strip, Apply, OneBlock, NotifyBlock}
use Rattle.gcd_script.specs.declared.line.Line.{Line}
use Rattle.gcd_script.specs.declared.line.Line.TheVariants.{DeclareFile, DeclareObject, DeclareBlock, SetUntil, SetCancel, OpenHandler, OpenMain, AddAct, DeclareIntake, DeclareStrip}
use Rattle.gcd_script.specs.declared.refusal.Refusal.TheVariants.{NoForm, Repeated, InHandler, PastLimit}
use Rattle.gcd_script.specs.Acts.{submit_act, group_submit_act, object_act, limited_act, target_act, merge_act, apply_act, block_act, notify_block_act}
use Rattle.gcd_builder.specs.Changes.{new_object}
use Rattle.gcd_script.specs.Changes.{change}
use Rattle.gcd_builder.specs.Changes.{new_block}
use Rattle.gcd_script.specs.Drafts.{DraftView, empty_draft}
use Rattle.gcd_script.specs.Forms.{line_by, form_of}
use Rattle.gcd_builder.specs.Taken.{is_free}
use Rattle.gcd_script.specs.Judged.{is_untaken, is_allowed, has_room, judged, line_of}
use Rattle.gcd_script.specs.Keywords.{keyword_of}
use Rattle.gcd_builder.specs.Bodies.{IsBody}
use Rattle.gcd_script.specs.Sound.{IsDraft, IsRight, Fits}
use Rattle.gcd_builder.proofs.BlockActs as block_acts
use Rattle.gcd_builder.proofs.Empty.{empty_valid}
use Rattle.gcd_builder.proofs.Growth.{Grows, has_kind_grows}
use Rattle.gcd_builder.proofs.Inserts.{fit_from}
use Rattle.gcd_script.proofs.Inversions.{follows}
use Rattle.gcd_builder.proofs.ObjectChanges.{source_stands}
use Rattle.gcd_builder.proofs.Places.{same_bytes}
use Rattle.gcd_script.proofs.RightActs.{act_fits, submit_fits, group_submit_fits, object_act_fits, limited_fits, target_fits, merge_fits, apply_fits, block_act_fits, notify_block_fits}
use Rattle.gcd_script.proofs.RightWords.{file_fits, queue_fits, group_fits, semaphore_fits, source_fits, cancelled_fits, until_fits, block_fits, intake_fits, strip_fits, handler_fits, main_fits}
use Rattle.gcd_builder.proofs.SourceChanges as source_changes
use Rattle.gcd_builder.proofs.Valid.{file_valid, object_valid, block_valid, until_valid}
use Rattle.gcd_plan.specs.Made.{is_made, is_within, spans, intake_span, strip_span}
use Rattle.gcd_plan.proofs.Spans.{Maker, by_intake, by_strip, maker, among_from, intake_of_plan, no_span_past}
use Rattle.gcd_plan.proofs.MadeBlocks.{within_parts}
use Rattle.gcd_builder.proofs.Makes.{intake_valid}
use Rattle.gcd_builder.proofs.StripMakes.{strip_valid}
use Rattle.gcd_builder.proofs.Submitted.{any_counts}

module _ (d : DraftView) (sound : IsDraft d) where
  keyword_fits : (words : List (List ℕ)) (keyword : Keyword) (line : Line (List ℕ)) → line_by d words keyword ≡ Ok line → Fits d line
  keyword_fits words File line h = file_fits d sound words line h
  keyword_fits words Queue line h = queue_fits d sound words line h
  keyword_fits words Group line h = group_fits d sound words line h
  keyword_fits words Semaphore line h = semaphore_fits d sound words line h
  keyword_fits words Source line h = source_fits d sound words line h
  keyword_fits words Cancelled line h = cancelled_fits d sound words line h
  keyword_fits words Until line h = until_fits d sound words line h
  keyword_fits words Block line h = block_fits d sound words line h
  keyword_fits words Handler line h = handler_fits d sound words line h
  keyword_fits words Main line h = main_fits d sound words line h
  keyword_fits words (Submit how) line h = act_fits d (submit_act d.plan how words) line (submit_fits d.plan sound.valid how words) h
  keyword_fits words (GroupSubmit how) line h =
      act_fits d (group_submit_act d.plan how words) line (group_submit_fits d.plan sound.valid how words) h
  keyword_fits words (OneObject what) line h = act_fits d (object_act d.plan what words) line (object_act_fits d.plan sound.valid what words) h
  keyword_fits words (Limited what) line h = act_fits d (limited_act d.plan what words) line (limited_fits d.plan sound.valid what words) h
  keyword_fits words Target line h = act_fits d (target_act d.plan words) line (target_fits d.plan sound.valid words) h
  keyword_fits words Merge line h = act_fits d (merge_act d.plan words) line (merge_fits d.plan sound.valid words) h
  keyword_fits words Intake line h = intake_fits d sound words line h
  keyword_fits words Strip line h = strip_fits d sound words line h
  keyword_fits words Apply line h = act_fits d (apply_act d.plan words) line (apply_fits d.plan sound.valid words) h
  keyword_fits words (OneBlock what) line h = act_fits d (block_act d.plan what words) line (block_act_fits d.plan sound.valid what words) h
  keyword_fits words NotifyBlock line h = act_fits d (notify_block_act d.plan words) line (notify_block_fits d.plan sound.valid words) h

  form_fits : (words : List (List ℕ)) (line : Line (List ℕ)) → form_of d words ≡ Ok line → Fits d line
  form_fits [] line h = cc
  form_fits (first ∷ words) line h =
      elim (keyword_of first) as (λ o. option_map_or (line_by d words) o (Err NoForm) ≡ Ok line → Fits d line) [
        | None ↦ λ k. cc
        | Some keyword ↦ λ k. keyword_fits words keyword line k
      ] h

  -- the line passed what is judged of it
  judged_right : (made line : Line (List ℕ)) → Fits d made → judged d made ≡ Ok line → IsRight d line
  judged_right made line fits h =
      elim (is_untaken d made) as (λ t. is_untaken d made ≡ t → cond (not t) (Err Repeated) (cond (not (is_allowed made)) (Err InHandler) (cond (not (has_room d.plan made)) (Err PastLimit) (Ok made))) ≡ Ok line → IsRight d line) [
        | false ↦ λ e k. cc
        | true ↦ λ untaken k.
            elim (is_allowed made) as (λ t. is_allowed made ≡ t → cond (not t) (Err InHandler) (cond (not (has_room d.plan made)) (Err PastLimit) (Ok made)) ≡ Ok line → IsRight d line) [
              | false ↦ λ e k. cc
              | true ↦ λ allowed k.
                  elim (has_room d.plan made) as (λ t. has_room d.plan made ≡ t → cond (not t) (Err PastLimit) (Ok made) ≡ Ok line → IsRight d line) [
                    | false ↦ λ e k. cc
                    | true ↦ λ room k.
                        let same : made ≡ line = cc in
                        subst (IsRight d) same (record { fits = fits; untaken = untaken; allowed = allowed; room = room })
                  ] refl k
            ] refl k
      ] refl h

  pub line_right : (words : List (List ℕ)) (line : Line (List ℕ)) → line_of d words ≡ Ok line → IsRight d line
  line_right words line h =
      let f = follows (judged d) (form_of d words) line h in
      judged_right f.0 line (form_fits words f.0 f.1) f.2

-- a body of a plan stays one where the plan grows
body_grows : (old new : PlanView) → Grows old new → (r : Run) → IsBody old r → IsBody new r
body_grows old new grows (run.Block b) inside = (omega (arith, inside.0, grows.blocks), grows.declared b.0 inside.0 inside.1)
body_grows old new grows (run.Source s) is = has_kind_grows old new grows is_source_kind s.0 is

bodies_grow : (old new : PlanView) → Grows old new → (body : Option Run) → IfSome body (IsBody old) → IfSome body (IsBody new)
bodies_grow old new grows None h = tt
bodies_grow old new grows (Some r) h = body_grows old new grows r h

-- main stands
main_within : (blocks : List BlkView) → option_map (λ (b : BlkView). b.name) (slice_get blocks 0) ≡ Some (codes "main") → 0 < length blocks
main_within [] h = cc
main_within (b ∷ blocks) h = omega arith

-- no block past the plan's is made, nor is main
not_past : (plan : PlanView) → IsPlan plan → (b : ℕ) → length plan.blocks ≤ b → is_made plan b ≡ false
not_past plan valid b past =
    let none = no_span_past plan valid.intake valid.strips b past in
    any_counts (is_within b) (spans plan) ∙ ap (ltb 0) none

main_not_made : (plan : PlanView) → IsPlan plan → is_made plan 0 ≡ false
main_not_made plan valid =
    false_from_ne_true (is_made plan 0) (λ made. first (maker plan 0 made))
  where
    first : Maker plan 0 → ⊥
    first (by_intake i is within) =
        let low = among_from plan (intake_span i) (intake_of_plan plan valid i is).among in
        let parts = within_parts 0 (intake_span i) within in
        absurd (omega (arith, low.0, parts.0))
    first (by_strip a s is within) =
        let low = among_from plan (strip_span s) (valid.strips a s is).among in
        let parts = within_parts 0 (strip_span s) within in
        absurd (omega (arith, low.0, parts.0))

below : (m n : ℕ) → ltb m n ≡ true → m < n
below m n h = ltb-true m n h

module _ (d : DraftView) (sound : IsDraft d) where
  -- an act of a body
  act_sound : (r : Run) (a : Act) → IsRight d (AddAct r a) → IsDraft (change (AddAct r a) d)
  act_sound (run.Block b) a right =
      let inside : IsBody d.plan (run.Block b) = subst (λ o. IfSome o (IsBody d.plan)) right.fits.0 sound.body in
      let at = slice_get_some d.plan.blocks b.0 inside.0 in
      let valid = block_acts.act_valid d.plan sound.valid b at.0 at.1 a right.fits.1 right.untaken inside.1 (below (act_count d.plan) max_acts right.room) in
      let grows = block_acts.grows d.plan sound.valid b at.0 at.1 a in
      subst (λ p. IsDraft (record d { plan = p })) (sym (block_acts.is_new d.plan sound.valid b at.0 at.1 a))
      (record { valid = valid; body = bodies_grow d.plan _ grows d.body sound.body; marks = sound.marks })
  act_sound (run.Source s) a right =
      let source : is_source d.plan s.0 ≡ true = subst (λ o. IfSome o (IsBody d.plan)) right.fits.0 sound.body in
      let at = source_stands d.plan sound.valid s.0 source in
      let valid = source_changes.act_valid d.plan sound.valid s at a right.allowed right.fits.1 right.untaken (below (act_count d.plan) max_acts right.room) in
      let grows = source_changes.act_grows d.plan sound.valid s at a in
      subst (λ p. IsDraft (record d { plan = p })) (sym (source_changes.act_is_new d.plan sound.valid s at a))
      (record {
        valid = valid;
        body = bodies_grow d.plan _ grows d.body sound.body;
        marks = sound.marks ∙ sym (source_changes.act_length d.plan sound.valid s at a);
      })

  -- a cancellation block
  cancel_sound : (s : Obj) (b : Blk) → IsRight d (SetCancel s b) → IsDraft (change (SetCancel s b) d)
  cancel_sound s b right =
      let at = source_stands d.plan sound.valid s.0 right.fits.0 in
      let free = and_parts (is_free d.plan b) _ right.untaken in
      let valid = source_changes.cancel_valid d.plan sound.valid s at b free.1 right.fits.1 free.0 in
      subst (λ p. IsDraft (record d { plan = p; body = None })) (sym (source_changes.cancel_is_new d.plan sound.valid s at b free.1))
      (record { valid = valid; body = tt; marks = sound.marks ∙ sym (source_changes.cancel_length d.plan sound.valid s at b free.1) })

  pub change_sound : (line : Line (List ℕ)) → IsRight d line → IsDraft (change line d)
  change_sound (DeclareFile name path) right = record {
    valid = file_valid d.plan sound.valid (d.lines + 1) name path (fit_from d.plan name right.fits.0) (below (length d.plan.files) max_files right.room) right.fits.1;
    body = tt;
    marks = sound.marks;
  }
  change_sound (DeclareObject name kind target active path) right = record {
    valid = object_valid d.plan sound.valid name kind target active path (fit_from d.plan name right.fits.0) (below (length d.plan.objects) max_objects right.room) right.fits.1;
    body = tt;
    marks = length_push d.handlers false ∙ ap (λ n. n + 1) sound.marks ∙ sym (length_push d.plan.objects (new_object name kind target active path));
  }
  change_sound (DeclareBlock name work) right = record {
    valid = block_valid d.plan sound.valid name work (fit_from d.plan name right.fits.0) (below (length d.plan.blocks) max_blocks right.room) right.fits.1;
    body = let more = length_push d.plan.blocks (new_block name work) in (omega (arith, more), not_past d.plan sound.valid (length d.plan.blocks) (omega arith));
    marks = sound.marks;
  }
  change_sound (SetUntil ms) right =
      let range = and_parts (leb 1 ms) (leb ms max_time) right.fits in
      record { valid = until_valid d.plan sound.valid ms (leb-true 1 ms range.0) (leb-true ms max_time range.1); body = tt; marks = sound.marks }
  change_sound (SetCancel s b) right = cancel_sound s b right
  change_sound (OpenHandler s) right = record { valid = sound.valid; body = right.fits; marks = length-set d.handlers s.0 true ∙ sound.marks }
  change_sound OpenMain right = record { valid = sound.valid; body = (main_within d.plan.blocks sound.valid.main, main_not_made d.plan sound.valid); marks = sound.marks }
  change_sound (AddAct r a) right = act_sound r a right
  change_sound (DeclareIntake queue count) right =
      let room = leb-true (length d.plan.blocks + count) max_blocks right.room in
      record {
        valid = intake_valid d.plan sound.valid queue count right.fits.0 right.fits.1 right.fits.2 right.fits.3 room;
        body = tt;
        marks = sound.marks;
      }
  change_sound (DeclareStrip name how file len count) right =
      let room = and_parts (leb (length d.plan.blocks + count) max_blocks) (ltb (length d.plan.strips) max_strips) right.room in
      record {
        valid = strip_valid d.plan sound.valid name how file len count (fit_from d.plan name right.fits.0) right.fits.1 right.fits.2 right.fits.3 right.fits.4
            (leb-true (length d.plan.blocks + count) max_blocks room.0) (below (length d.plan.strips) max_strips room.1);
        body = tt;
        marks = sound.marks;
      }

-- the draft before the first line
pub empty_sound : IsDraft empty_draft
empty_sound = record {
  valid = empty_valid;
  body = tt;
  marks = refl;
}
