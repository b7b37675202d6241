-- Parts of which each check finds nothing are a plan.
use Rattle.std.proofs.Common.{◌≡◌, ℕ, ◌<◌, ◌≤◌, ◌==◌, ⊎_elim, true, false, length, Some, IfSome, sym, ◌∙◌, subst, arith, is_none, codes}
use Rattle.std.specs.List.{count_by, slice_get}
use Rattle.std.specs.Option.{option_map, option_map_or}
use Rattle.std.proofs.lemmas.Bool.{cases_lt}
use Rattle.std.proofs.lemmas.List.{length-map}
use Rattle.std.proofs.lemmas.Option.{same_Some, slice_get_within}
use Rattle.gcd_plan.specs.declared.parts.Parts.{Parts}
use Rattle.gcd_plan.specs.Checked.{AllHave}
use Rattle.gcd_plan.specs.Limits.{max_time}
use Rattle.gcd_plan.specs.Made.{is_within, spans}
use Rattle.gcd_plan.specs.PlanView.{PlanView, StripView, view_of, obj_view, blk_view, file_view, strip_view}
use Rattle.gcd_plan.specs.Validity.{IsPlan, IsIntake, IsStrip, root_view, is_object, is_block, is_file, submitted_blocks, reaches_root}
use Rattle.gcd_plan.specs.WithinLimits.{IsWithinLimits}
use Rattle.gcd_plan.proofs.Having.{list_all-from_have}
use Rattle.gcd_plan.proofs.NamesApart.{AreNew, names_formed, blocks_named, names_apart}
use Rattle.gcd_plan.proofs.Spans.{no_span_past}
use Rattle.gcd_plan.proofs.Submitted.{past_the_blocks}

-- what the checks find where they find nothing amiss
pub record AreChecked (p : Parts) : Type 0 where
  pub root : slice_get (view_of p).objects 0 ≡ Some root_view
  pub main : option_map (λ b. b.name) (slice_get (view_of p).blocks 0) ≡ Some (codes "main")
  pub idle : option_map_or (λ b. is_none b.work) (slice_get (view_of p).blocks 0) false ≡ true
  pub limits : IsWithinLimits p
  pub until : (1 ≤ p.until) × (p.until ≤ max_time)
  pub new : AreNew (view_of p)
  pub objects : AllHave (view_of p).objects (λ _ v. is_object (view_of p) v ≡ true)
  pub blocks : AllHave (view_of p).blocks (λ _ v. is_block (view_of p) v ≡ true)
  pub files : AllHave (view_of p).files (λ _ v. is_file v ≡ true)
  pub intake : IfSome (view_of p).intake (IsIntake (view_of p))
  pub strips : AllHave (view_of p).strips (λ _ s. IsStrip (view_of p) s)
  pub apart : (b : ℕ) → b < length p.blocks.items → count_by (is_within b) (spans (view_of p)) ≤ 1
  pub targets : (o : ℕ) → o < length p.objects.items → reaches_root (view_of p) o ≡ true
  pub once : (b : ℕ) → b < length p.blocks.items → count_by (λ c. c.0 == b) (submitted_blocks (view_of p)) ≤ 1

strip_from_all : (plan : PlanView) → AllHave plan.strips (λ _ s. IsStrip plan s) → (a : ℕ) (s : StripView) → slice_get plan.strips a ≡ Some s → IsStrip plan s
strip_from_all plan all a s at =
    let one = all a (slice_get_within plan.strips a s at) in
    subst (IsStrip plan) (same_Some one.element s (sym one.stands ∙ at)) one.holds

pub plan_from_checks : (p : Parts) → AreChecked p → IsPlan (view_of p)
plan_from_checks p checked =
    let plan = view_of p in
    let few_objects = length-map p.objects.items obj_view in
    let few_blocks = length-map p.blocks.items blk_view in
    let few_files = length-map p.files.items file_view in
    let few_strips = length-map p.strips.items strip_view in
    let strips = strip_from_all plan checked.strips in
    let objects = list_all-from_have (is_object plan) plan.objects checked.objects in
    let blocks = list_all-from_have (is_block plan) plan.blocks checked.blocks in
    record {
      root = checked.root;
      main = checked.main;
      main_idle = checked.idle;
      few_objects = omega (arith, few_objects, checked.limits.objects);
      few_blocks = omega (arith, few_blocks, checked.limits.blocks);
      few_files = omega (arith, few_files, checked.limits.files);
      few_strips = omega (arith, few_strips, checked.limits.strips);
      few_acts = checked.limits.acts;
      until_low = checked.until.0;
      until_high = checked.until.1;
      names = names_formed plan checked.new;
      block_names = blocks_named plan checked.new;
      names_apart = names_apart plan checked.new;
      objects = objects;
      blocks = blocks;
      files = list_all-from_have is_file plan.files checked.files;
      intake = checked.intake;
      strips = strips;
      apart = λ b. ⊎_elim
          (λ within. checked.apart b (omega (arith, few_blocks, within)))
          (λ past. omega (arith, no_span_past plan checked.intake strips b past))
          (cases_lt b (length plan.blocks));
      once = λ b. ⊎_elim
          (λ within. checked.once b (omega (arith, few_blocks, within)))
          (λ past. omega (arith, past_the_blocks plan strips blocks objects b past))
          (cases_lt b (length plan.blocks));
      targets = λ o h. checked.targets o (omega (arith, few_objects, h));
    }
