-- A change of what a source does: one act more in its handler, or its cancellation block.
use Rattle.std.proofs.Common.{ℕ, zero, suc, ◌≡◌, ◌<◌, ◌≤◌, ◌+◌, ◌==◌, true, false, not, ◌&&◌, List, [], ◌∷◌, ◌++◌, length, map, set, Option, Some, None, option_map, option_to_list, slice_get, get_or, count_by, refl, sym, ap, ◌∙◌, subst, arith}
use Rattle.std.specs.List.{list_all, flat_map}
use Rattle.std.specs.Option.{option_map_or}
use Rattle.std.specs.Str.{bytes_eq}
use Rattle.std.proofs.lemmas.Bool.{and_parts, and_from}
use Rattle.std.proofs.lemmas.List.{length-set}
use Rattle.std.proofs.lemmas.List.Sums.{sum_by-set}
use Rattle.std.proofs.lemmas.Option.{slice_get_within, slice_get-map, get_or_from_slice_get}
use Rattle.std.proofs.Math.Seq.{map-set_same}
use Rattle.gcd_plan.specs.Kinds.{is_source, is_source_kind, is_queue}
use Rattle.gcd_plan.specs.Limits.{max_acts}
use Rattle.gcd_plan.specs.Names.{is_name}
use Rattle.gcd_plan.specs.PlanView.{PlanView, ObjView, BlkView, first_target}
use Rattle.gcd_plan.specs.Validity.{IsPlan, declared_names, root_view, blocks_of, submitted_blocks, act_count, is_act, is_handler_act, is_object, is_block, is_declared, is_kind, has_path, has_fields, has_source_fields}
use Rattle.gcd_plan.specs.declared.act.Act.{Act}
use Rattle.gcd_plan.specs.declared.kind.Kind.{Kind}
use Rattle.gcd_plan.specs.declared.kind.Kind.TheVariants.{Serial, Concurrent, Group, Semaphore, Add, Or, Replace, Timer, Read}
use Rattle.gcd_plan.specs.declared.numbers.Blk.{Blk}
use Rattle.gcd_plan.specs.declared.numbers.Obj.{Obj}
use Rattle.gcd_plan.proofs.Sums.{count_by-flat_map, count_by-append}
use Rattle.gcd_builder.specs.Changes.{with_object_at}
use Rattle.gcd_builder.proofs.BlockActs.{set_all}
use Rattle.gcd_builder.proofs.Growth.{Grows, list_all_map, object_grows, block_grows}
use Rattle.gcd_builder.proofs.MadeKept.{intake_stays, strips_stay}
use Rattle.gcd_builder.proofs.Targets.{same_targets_reach}

-- the first element stays where a later one changes
set_later : {X : Type 0} (xs : List X) (i : ℕ) (x : X) → 0 < i → slice_get (set xs i x) 0 ≡ slice_get xs 0
set_later [] i x above = refl
set_later (y ∷ xs) zero x above = absurd (omega arith)
set_later (y ∷ xs) (suc i) x above = refl

-- what an object keeps
pub record Keeps (old new : ObjView) : Type 0 where
  pub same_name : new.name ≡ old.name
  pub same_kind : new.kind ≡ old.kind
  pub same_target : new.target ≡ old.target

-- the blocks that an object submits
abbrev pub own_of : PlanView → ObjView → List Blk
own_of plan o = blocks_of plan o.handler ++ option_to_list o.cancel

module _ (plan : PlanView) (valid : IsPlan plan) (s : ℕ) (above : 0 < s) (object : ObjView) (stands : slice_get plan.objects s ≡ Some object) (changed : ObjView) (keeps : Keeps object changed) where
  abbrev pub new : PlanView
  new = record plan { objects = set plan.objects s changed }

  pub is_new : (f : ObjView → ObjView) → f object ≡ changed → with_object_at s f plan ≡ new
  is_new f is =
      ap (λ v. option_map_or (λ (obj : ObjView). record plan { objects = set plan.objects s (f obj) }) v plan) stands
      ∙ ap (λ obj. record plan { objects = set plan.objects s obj }) is

  within : s < length plan.objects
  within = slice_get_within plan.objects s object stands

  old_object : get_or plan.objects s object ≡ object
  old_object = get_or_from_slice_get plan.objects s object object stands

  pub same_length : length new.objects ≡ length plan.objects
  same_length = length-set plan.objects s changed

  pub same_map : {Y : Type 0} (f : ObjView → Y) → f changed ≡ f object → map f new.objects ≡ map f plan.objects
  same_map f same = map-set_same f plan.objects s changed object (same ∙ ap f (sym old_object))

  -- what is read of each object, where the change keeps it
  same_read : {Y : Type 0} (f : ObjView → Y) → f changed ≡ f object → (o : ℕ) → option_map f (slice_get new.objects o) ≡ option_map f (slice_get plan.objects o)
  same_read f same o = sym (slice_get-map f new.objects o) ∙ ap (λ xs. slice_get xs o) (same_map f same) ∙ slice_get-map f plan.objects o

  pub grows : Grows plan new
  grows = record {
    kinds = λ o kind h. same_read (λ obj. obj.kind) keeps.same_kind o ∙ h;
    objects = let same = same_length in omega arith;
    blocks = omega arith;
    files = omega arith;
    strips = omega arith;
    declared = λ b within other. other;
  }

  target_or : (o : Option ObjView) → option_map_or (λ (obj : ObjView). obj.target.0) o 0 ≡ option_map_or (λ (t : Obj). t.0) (option_map (λ (obj : ObjView). obj.target) o) 0
  target_or None = refl
  target_or (Some obj) = refl

  same_target : (o : ℕ) → first_target new o ≡ first_target plan o
  same_target o =
      target_or (slice_get new.objects o)
      ∙ ap (λ v. option_map_or (λ (t : Obj). t.0) v 0) (same_read (λ obj. obj.target) keeps.same_target o)
      ∙ sym (target_or (slice_get plan.objects o))

  same_names : declared_names new ≡ declared_names plan
  same_names = ap (λ xs. map (λ f. f.name) plan.files ++ (xs ++ map (λ s. s.name) plan.strips)) (same_map (λ obj. obj.name) keeps.same_name)

  -- the blocks that the new plan submits
  pub more_submitted : (q : ℕ) → count_by (λ (c : Blk). c.0 == q) (submitted_blocks new) + count_by (λ (c : Blk). c.0 == q) (own_of plan object) ≡ count_by (λ (c : Blk). c.0 == q) (submitted_blocks plan) + count_by (λ (c : Blk). c.0 == q) (own_of plan changed)
  more_submitted q =
      let p = λ (c : Blk). c.0 == q in
      let of_blocks = flat_map (λ (b : BlkView). blocks_of plan b.acts) plan.blocks in
      let counted = λ (obj : ObjView). count_by p (own_of plan obj) in
      let old_split = count_by-append p of_blocks (flat_map (own_of plan) plan.objects) in
      let new_split = count_by-append p of_blocks (flat_map (own_of plan) new.objects) in
      let old_sum = count_by-flat_map p (own_of plan) plan.objects in
      let new_sum = count_by-flat_map p (own_of plan) new.objects in
      let set_sum = sum_by-set counted plan.objects s changed object within in
      let before : counted (get_or plan.objects s object) ≡ counted object = ap counted old_object in
      omega arith

  -- the acts that it has
  pub more_acts : act_count new + length object.handler ≡ act_count plan + length changed.handler
  more_acts =
      let size = λ (obj : ObjView). length obj.handler in
      let set_sum = sum_by-set size plan.objects s changed object within in
      let before : size (get_or plan.objects s object) ≡ size object = ap size old_object in
      omega arith

  pub changed_valid : is_object plan changed ≡ true → act_count new ≤ max_acts → ((q : ℕ) → count_by (λ (c : Blk). c.0 == q) (submitted_blocks new) ≤ 1) → IsPlan new
  changed_valid fits few once = record {
    root = set_later plan.objects s changed above ∙ valid.root;
    main = valid.main;
    main_idle = valid.main_idle;
    few_objects = let same = same_length in omega (arith, valid.few_objects);
    few_blocks = valid.few_blocks;
    few_files = valid.few_files;
    few_strips = valid.few_strips;
    few_acts = few;
    until_low = valid.until_low;
    until_high = valid.until_high;
    names = subst (λ xs. list_all is_name xs ≡ true) (sym same_names) valid.names;
    block_names = valid.block_names;
    names_apart = λ q. subst (λ xs. count_by (bytes_eq q) (xs ++ map (λ b. b.name) plan.blocks) ≤ 1) (sym same_names) (valid.names_apart q);
    intake = intake_stays plan new grows (λ b block made at. at) valid.intake;
    strips = strips_stay plan new grows (λ b block made at. at) valid.strips;
    apart = valid.apart;
    objects = set_all (is_object new) plan.objects s changed (list_all_map (is_object plan) (is_object new) (object_grows plan new grows) plan.objects valid.objects) (object_grows plan new grows changed fits);
    blocks = list_all_map (is_block plan) (is_block new) (block_grows plan new grows) plan.blocks valid.blocks;
    files = valid.files;
    once = once;
    targets = same_targets_reach plan new valid same_length (λ o h. same_target o);
  }

-- a source's fields
pub source_fields : (plan : PlanView) (kind : Kind) (o : ObjView) → is_source_kind kind ≡ true → has_fields plan kind o ≡ has_source_fields plan o
source_fields plan Serial o h = cc
source_fields plan Concurrent o h = cc
source_fields plan Group o h = cc
source_fields plan (Semaphore n) o h = cc
source_fields plan Add o h = refl
source_fields plan Or o h = refl
source_fields plan Replace o h = refl
source_fields plan (Timer start every) o h = refl
source_fields plan Read o h = refl

-- a source of a plan stands above root
source_above : (objects : List ObjView) (s : ℕ) → slice_get objects 0 ≡ Some root_view → option_map_or is_source_kind (option_map (λ (obj : ObjView). obj.kind) (slice_get objects s)) false ≡ true → 0 < s
source_above objects zero root h = let is : false ≡ true = sym (ap (λ o. option_map_or is_source_kind (option_map (λ (obj : ObjView). obj.kind) o) false) root) ∙ h in cc
source_above objects (suc s) root h = omega arith

-- where a source stands
pub record StandsAsSource (plan : PlanView) (s : ℕ) : Type 0 where
  pub above : 0 < s
  pub object : ObjView
  pub stands : slice_get plan.objects s ≡ Some object
  pub kind : is_source_kind object.kind ≡ true

found_source : (plan : PlanView) (s : ℕ) (o : Option ObjView) → slice_get plan.objects s ≡ o → 0 < s → option_map_or is_source_kind (option_map (λ (obj : ObjView). obj.kind) o) false ≡ true → StandsAsSource plan s
found_source plan s None at above h = cc
found_source plan s (Some object) at above h = record { above = above; object = object; stands = at; kind = h }

pub source_stands : (plan : PlanView) → IsPlan plan → (s : ℕ) → is_source plan s ≡ true → StandsAsSource plan s
source_stands plan valid s h = found_source plan s (slice_get plan.objects s) refl (source_above plan.objects s valid.root h) h

-- a source with other acts and another cancellation block is an object of the plan where these fit
pub still_object : (plan : PlanView) (o : ObjView) (acts : List Act) (cancel : Option Blk) → is_source_kind o.kind ≡ true → is_object plan o ≡ true → list_all (λ act. is_handler_act act && is_act plan act) acts ≡ true → option_map_or (is_declared plan) cancel true ≡ true → is_object plan (record o { handler = acts; cancel = cancel }) ≡ true
still_object plan o acts cancel source is handled cancelled =
    let changed : ObjView = record o { handler = acts; cancel = cancel } in
    let kind = and_parts (is_kind o.kind) (has_path o.kind o.path && has_fields plan o.kind o) is in
    let path = and_parts (has_path o.kind o.path) (has_fields plan o.kind o) kind.1 in
    let fields = sym (source_fields plan o.kind o source) ∙ path.1 in
    let target = and_parts (is_queue plan o.target.0) _ fields in
    let active = and_parts (not o.active) _ target.1 in
    let now : has_source_fields plan changed ≡ true =
    and_from (is_queue plan o.target.0) _ target.0
    (and_from (not o.active) _ active.0
    (and_from (list_all (λ act. is_handler_act act && is_act plan act) acts) (option_map_or (is_declared plan) cancel true) handled cancelled))
    in
    and_from (is_kind o.kind) _ kind.0 (and_from (has_path o.kind o.path) _ path.0 (source_fields plan o.kind changed source ∙ now))

-- what a source's fields say of its handler and its cancellation block
pub own_fields : (plan : PlanView) (o : ObjView) → is_source_kind o.kind ≡ true → is_object plan o ≡ true → (list_all (λ act. is_handler_act act && is_act plan act) o.handler ≡ true) × (option_map_or (is_declared plan) o.cancel true ≡ true)
own_fields plan o source is =
    let kind = and_parts (is_kind o.kind) (has_path o.kind o.path && has_fields plan o.kind o) is in
    let path = and_parts (has_path o.kind o.path) (has_fields plan o.kind o) kind.1 in
    let fields = sym (source_fields plan o.kind o source) ∙ path.1 in
    let target = and_parts (is_queue plan o.target.0) _ fields in
    let active = and_parts (not o.active) _ target.1 in
    and_parts (list_all (λ act. is_handler_act act && is_act plan act) o.handler) (option_map_or (is_declared plan) o.cancel true) active.1
