-- What is declared keeps a plan valid.
use Rattle.std.proofs.Common.{ℕ, ◌≡◌, ◌<◌, ◌≤◌, ◌==◌, ◌||◌, ⊎_elim, Bool, true, false, List, [], ◌∷◌, ◌++◌, length, Option, Some, None, is_none, option_map, option_to_list, slice_get, count_by, codes, refl, sym, ap, ◌∙◌, subst, arith}
use Rattle.std.specs.List.{flat_map}
use Rattle.std.specs.Option.{option_map_or}
use Rattle.std.proofs.lemmas.Bool.{and_from, cases_lt, or_right}
use Rattle.std.proofs.lemmas.List.{append-nil, length_push}
use Rattle.std.proofs.lemmas.List.Concat.{flat_map-append}
use Rattle.std.proofs.lemmas.List.Sums.{sum_by_push}
use Rattle.gcd_plan.specs.Limits.{max_objects, max_blocks, max_files, max_time}
use Rattle.gcd_plan.specs.Kinds.{is_queue_kind}
use Rattle.gcd_plan.specs.Names.{is_name, is_path}
use Rattle.gcd_plan.specs.PlanView.{PlanView, ObjView, BlkView, FileView, name_of_blk}
use Rattle.gcd_plan.specs.Made.{is_made}
use Rattle.gcd_plan.specs.Validity.{IsPlan, root_view, names_of, has_name, blocks_of, submitted_blocks, is_object, is_block, is_work, is_file}
use Rattle.gcd_plan.specs.declared.kind.Kind.{Kind}
use Rattle.gcd_plan.specs.declared.numbers.Blk.{Blk}
use Rattle.gcd_plan.specs.declared.numbers.Obj.{Obj}
use Rattle.gcd_plan.specs.declared.work.Work.{Work}
use Rattle.gcd_plan.proofs.Places.{slice_get_kept, slice_get-append_left, slice_get-append_seam}
use Rattle.gcd_plan.proofs.Quantifiers.{list_all_push}
use Rattle.gcd_plan.proofs.Within.{target_is_queue, has_object}
use Rattle.gcd_builder.specs.Changes.{new_file, new_object, with_file, with_object, with_block}
use Rattle.gcd_builder.specs.Changes.{new_block}
use Rattle.gcd_builder.proofs.Growth.{Grows, list_all_map, object_grows, block_grows}
use Rattle.gcd_builder.proofs.Inserts.{IsFit, block_names, inserts_before, list_all_insert, apart_insert, fit_is_new, file_inserts, object_inserts, block_inserts}
use Rattle.gcd_builder.proofs.MadeKept.{intake_stays, strips_stay}
use Rattle.gcd_builder.proofs.Targets.{first_kept, one_more_reaches}
use Rattle.gcd_builder.specs.Taken.{applied_strips, strips_of}

-- kinds stay where objects are added
kinds_kept : (objects more : List ObjView) (o : ℕ) (kind : Kind) → option_map (λ (obj : ObjView). obj.kind) (slice_get objects o) ≡ Some kind → option_map (λ (obj : ObjView). obj.kind) (slice_get (objects ++ more) o) ≡ Some kind
kinds_kept objects more o kind h =
    elim (slice_get objects o) as (λ v. slice_get objects o ≡ v → option_map (λ (obj : ObjView). obj.kind) v ≡ Some kind → option_map (λ (obj : ObjView). obj.kind) (slice_get (objects ++ more) o) ≡ Some kind) [
      | None ↦ λ e k. cc
      | Some object ↦ λ e k. ap (option_map (λ (obj : ObjView). obj.kind)) (slice_get_kept objects more o object e) ∙ k
    ] refl h

-- the first of a list stays where more follow
pub first_name : (blocks more : List BlkView) (name : List ℕ) → option_map (λ (b : BlkView). b.name) (slice_get blocks 0) ≡ Some name → option_map (λ (b : BlkView). b.name) (slice_get (blocks ++ more) 0) ≡ Some name
first_name [] more name h = cc
first_name (b ∷ blocks) more name h = h

pub first_idle : (blocks more : List BlkView) → option_map_or (λ (b : BlkView). is_none b.work) (slice_get blocks 0) false ≡ true → option_map_or (λ (b : BlkView). is_none b.work) (slice_get (blocks ++ more) 0) false ≡ true
first_idle [] more h = cc
first_idle (b ∷ blocks) more h = h

module _ (plan : PlanView) where
  -- an object or a block with no act submits nothing
  pub object_submits : (name : List ℕ) (kind : Kind) (target : Obj) (active : Bool) (path : List ℕ) → submitted_blocks (with_object (new_object name kind target active path) plan) ≡ submitted_blocks plan
  object_submits name kind target active path =
      let own = λ (o : ObjView). blocks_of plan o.handler ++ option_to_list o.cancel in
      ap (λ xs. flat_map (λ (b : BlkView). blocks_of plan b.acts) plan.blocks ++ xs)
      (flat_map-append own plan.objects (new_object name kind target active path ∷ []) ∙ append-nil (flat_map own plan.objects))

  pub block_submits : (name : List ℕ) (work : Option Work) → submitted_blocks (with_block (new_block name work) plan) ≡ submitted_blocks plan
  block_submits name work =
      let own = λ (b : BlkView). blocks_of plan b.acts in
      ap (λ xs. xs ++ flat_map (λ (o : ObjView). blocks_of plan o.handler ++ option_to_list o.cancel) plan.objects)
      (flat_map-append own plan.blocks (new_block name work ∷ []) ∙ append-nil (flat_map own plan.blocks))

  -- and applies no strip
  pub block_applies : (name : List ℕ) (work : Option Work) → applied_strips (with_block (new_block name work) plan) ≡ applied_strips plan
  block_applies name work =
      let own = λ (b : BlkView). strips_of b.acts in
      flat_map-append own plan.blocks (new_block name work ∷ []) ∙ append-nil (flat_map own plan.blocks)

module _ (plan : PlanView) (valid : IsPlan plan) where
  -- one file more
  file_grows : (file : FileView) → Grows plan (with_file file plan)
  file_grows file = record {
    kinds = λ o kind h. h;
    objects = omega arith;
    blocks = omega arith;
    files = let more = length_push plan.files file in omega arith;
    strips = omega arith;
    declared = λ b within other. other;
  }

  pub file_valid : (number : ℕ) (name path : List ℕ) → IsFit plan name → length plan.files < max_files → is_path path ≡ true → IsPlan (with_file (new_file number name path) plan)
  file_valid number name path fit few is_it =
      let file = new_file number name path in
      let new = with_file file plan in
      let inserts = file_inserts plan file in
      let more = length_push plan.files file in
      record {
        root = valid.root;
        main = valid.main;
        main_idle = valid.main_idle;
        few_objects = valid.few_objects;
        few_blocks = valid.few_blocks;
        few_files = omega arith;
        few_strips = valid.few_strips;
        few_acts = valid.few_acts;
        until_low = valid.until_low;
        until_high = valid.until_high;
        names = list_all_insert is_name inserts fit.formed valid.names;
        block_names = valid.block_names;
        names_apart = apart_insert name (names_of plan) (names_of new) (inserts_before inserts (block_names plan)) (fit_is_new plan name fit) valid.names_apart;
        objects = list_all_map (is_object plan) (is_object new) (object_grows plan new (file_grows file)) plan.objects valid.objects;
        blocks = list_all_map (is_block plan) (is_block new) (block_grows plan new (file_grows file)) plan.blocks valid.blocks;
        files = list_all_push is_file plan.files file valid.files is_it;
        intake = intake_stays plan new (file_grows file) (λ b block made at. at) valid.intake;
        strips = strips_stay plan new (file_grows file) (λ b block made at. at) valid.strips;
        apart = valid.apart;
        once = valid.once;
        targets = valid.targets;
      }

  -- one object more
  object_is_more : (object : ObjView) → Grows plan (with_object object plan)
  object_is_more object = record {
    kinds = kinds_kept plan.objects (object ∷ []);
    objects = let more = length_push plan.objects object in omega arith;
    blocks = omega arith;
    files = omega arith;
    strips = omega arith;
    declared = λ b within other. other;
  }

  pub object_valid : (name : List ℕ) (kind : Kind) (target : Obj) (active : Bool) (path : List ℕ) → IsFit plan name → length plan.objects < max_objects → is_object plan (new_object name kind target active path) ≡ true → IsPlan (with_object (new_object name kind target active path) plan)
  object_valid name kind target active path fit few is_it =
      let object = new_object name kind target active path in
      let new = with_object object plan in
      let inserts = object_inserts plan object in
      let more = length_push plan.objects object in
      let acts = sum_by_push (λ (o : ObjView). length o.handler) plan.objects object in
      let grows = object_is_more object in
      let queue = target_is_queue plan valid.root object is_it in
      record {
        root = first_kept plan.objects (object ∷ []) root_view valid.root;
        main = valid.main;
        main_idle = valid.main_idle;
        few_objects = omega arith;
        few_blocks = valid.few_blocks;
        few_files = valid.few_files;
        few_strips = valid.few_strips;
        few_acts = omega (arith, valid.few_acts);
        until_low = valid.until_low;
        until_high = valid.until_high;
        names = list_all_insert is_name inserts fit.formed valid.names;
        block_names = valid.block_names;
        names_apart = apart_insert name (names_of plan) (names_of new) (inserts_before inserts (block_names plan)) (fit_is_new plan name fit) valid.names_apart;
        intake = intake_stays plan new grows (λ b block made at. at) valid.intake;
        strips = strips_stay plan new grows (λ b block made at. at) valid.strips;
        apart = valid.apart;
        objects = list_all_push (is_object new) plan.objects object (list_all_map (is_object plan) (is_object new) (object_grows plan new grows) plan.objects valid.objects) (object_grows plan new grows object is_it);
        blocks = list_all_map (is_block plan) (is_block new) (block_grows plan new grows) plan.blocks valid.blocks;
        files = valid.files;
        once = λ b. subst (λ xs. count_by (λ (c : Blk). c.0 == b) xs ≤ 1) (sym (object_submits plan name kind target active path)) (valid.once b);
        targets = one_more_reaches plan new object valid refl (has_object is_queue_kind plan target.0 queue);
      }

  -- one block more
  block_is_more : (name : List ℕ) (work : Option Work) → Grows plan (with_block (new_block name work) plan)
  block_is_more name work = record {
    kinds = λ o kind h. h;
    objects = omega arith;
    blocks = let more = length_push plan.blocks (new_block name work) in omega arith;
    files = omega arith;
    strips = omega arith;
    declared = λ b within other. other;
  }

  -- each block has its name
  block_more_named : (name : List ℕ) (work : Option Work) → is_name name ≡ true → (b : ℕ) → b < length (with_block (new_block name work) plan).blocks → has_name (with_block (new_block name work) plan) b ≡ true
  block_more_named name work formed b within =
      let block = new_block name work in
      let new = with_block block plan in
      let more = length_push plan.blocks block in
      ⊎_elim
      (λ old.
      ap (λ o. is_made plan b || is_name (option_map_or (λ (v : BlkView). v.name) o [])) (slice_get-append_left plan.blocks (block ∷ []) b old) ∙ valid.block_names b old)
      (λ past.
      let last : b ≡ length plan.blocks = omega (arith, more, within, past) in
      or_right (is_made plan b) (is_name (name_of_blk new b))
      (ap (λ k. is_name (name_of_blk new k)) last
      ∙ ap (λ o. is_name (option_map_or (λ (v : BlkView). v.name) o [])) (slice_get-append_seam plan.blocks block [])
      ∙ formed))
      (cases_lt b (length plan.blocks))

  pub block_valid : (name : List ℕ) (work : Option Work) → IsFit plan name → length plan.blocks < max_blocks → option_map_or (is_work plan) work true ≡ true → IsPlan (with_block (new_block name work) plan)
  block_valid name work fit few readable =
      let block = new_block name work in
      let new = with_block block plan in
      let inserts = block_inserts plan block in
      let more = length_push plan.blocks block in
      let acts = sum_by_push (λ (b : BlkView). length b.acts) plan.blocks block in
      let grows = block_is_more name work in
      record {
        root = valid.root;
        main = first_name plan.blocks (block ∷ []) (codes "main") valid.main;
        main_idle = first_idle plan.blocks (block ∷ []) valid.main_idle;
        few_objects = valid.few_objects;
        few_blocks = omega arith;
        few_files = valid.few_files;
        few_strips = valid.few_strips;
        few_acts = omega (arith, valid.few_acts);
        until_low = valid.until_low;
        until_high = valid.until_high;
        names = valid.names;
        block_names = block_more_named name work fit.formed;
        names_apart = apart_insert name (names_of plan) (names_of new) inserts (fit_is_new plan name fit) valid.names_apart;
        intake = intake_stays plan new grows (λ b v made at. slice_get_kept plan.blocks (block ∷ []) b v at) valid.intake;
        strips = strips_stay plan new grows (λ b v made at. slice_get_kept plan.blocks (block ∷ []) b v at) valid.strips;
        apart = valid.apart;
        objects = list_all_map (is_object plan) (is_object new) (object_grows plan new grows) plan.objects valid.objects;
        blocks = list_all_push (is_block new) plan.blocks block (list_all_map (is_block plan) (is_block new) (block_grows plan new grows) plan.blocks valid.blocks) (and_from (option_map_or (is_work new) work true) true readable refl);
        files = valid.files;
        once = λ b. subst (λ xs. count_by (λ (c : Blk). c.0 == b) xs ≤ 1) (sym (block_submits plan name work)) (valid.once b);
        targets = valid.targets;
      }

  -- another last due time
  until_grows : (ms : ℕ) → Grows plan (record plan { until = ms })
  until_grows ms = record { kinds = λ o kind h. h; objects = omega arith; blocks = omega arith; files = omega arith; strips = omega arith; declared = λ b within other. other }

  pub until_valid : (ms : ℕ) → 1 ≤ ms → ms ≤ max_time → IsPlan (record plan { until = ms })
  until_valid ms low high =
      let new = record plan { until = ms } in
      record {
        root = valid.root;
        main = valid.main;
        main_idle = valid.main_idle;
        few_objects = valid.few_objects;
        few_blocks = valid.few_blocks;
        few_files = valid.few_files;
        few_strips = valid.few_strips;
        few_acts = valid.few_acts;
        until_low = low;
        until_high = high;
        names = valid.names;
        block_names = valid.block_names;
        names_apart = valid.names_apart;
        intake = intake_stays plan new (until_grows ms) (λ b block made at. at) valid.intake;
        strips = strips_stay plan new (until_grows ms) (λ b block made at. at) valid.strips;
        apart = valid.apart;
        objects = list_all_map (is_object plan) (is_object new) (object_grows plan new (until_grows ms)) plan.objects valid.objects;
        blocks = list_all_map (is_block plan) (is_block new) (block_grows plan new (until_grows ms)) plan.blocks valid.blocks;
        files = valid.files;
        once = valid.once;
        targets = valid.targets;
      }
