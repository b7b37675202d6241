-- One act more at the end of a block's body.
use Rattle.std.proofs.Common.{ℕ, zero, suc, ◌≡◌, ◌<◌, ◌≤◌, ◌+◌, ◌==◌, ◌||◌, Bool, true, false, List, [], ◌∷◌, ◌++◌, length, map, set, Option, Some, None, is_none, option_map, option_to_list, slice_get, get_or, count_by, sum_by, refl, sym, ap, ◌∙◌, subst, arith}
use Rattle.std.specs.List.{list_all, flat_map}
use Rattle.std.specs.Option.{option_map_or}
use Rattle.std.specs.Str.{bytes_eq}
use Rattle.std.proofs.lemmas.Bool.{and_parts, and_from, both_ways}
use Rattle.std.proofs.lemmas.List.{append-nil, length_push, length-set}
use Rattle.std.proofs.lemmas.List.Concat.{flat_map-append}
use Rattle.std.proofs.lemmas.List.Sums.{sum_by-set}
use Rattle.std.proofs.lemmas.Option.{slice_get_within, slice_get-map, get_or_from_slice_get}
use Rattle.std.proofs.Math.Seq.{map-set_same}
use Rattle.gcd_plan.specs.Limits.{max_acts}
use Rattle.gcd_plan.specs.Names.{is_name}
use Rattle.gcd_plan.specs.PlanView.{PlanView, ObjView, BlkView, name_of_blk}
use Rattle.gcd_plan.specs.Made.{is_made}
use Rattle.gcd_plan.specs.Validity.{IsPlan, declared_names, names_of, blocks_by, blocks_of, submitted_blocks, act_count, is_act, is_object, is_block, is_work, strip_of}
use Rattle.gcd_plan.specs.declared.act.Act.{Act}
use Rattle.gcd_plan.specs.declared.numbers.Blk.{Blk}
use Rattle.gcd_plan.proofs.Sums.{count_by-flat_map, count_by-append}
use Rattle.gcd_plan.proofs.Quantifiers.{list_all_get, list_all_push}
use Rattle.gcd_builder.specs.Changes.{with_block_at, block_with_act}
use Rattle.gcd_builder.specs.Taken.{is_untaken_by, strips_of, applied_strips}
use Rattle.gcd_builder.proofs.Growth.{Grows, list_all_map, object_grows, block_grows}
use Rattle.gcd_builder.proofs.MadeKept.{intake_stays, strips_stay}
use Rattle.gcd_builder.proofs.Submitted.{act_once}

-- a change of one element that passes keeps all passing
pub set_all : {X : Type 0} (p : X → Bool) (xs : List X) (i : ℕ) (x : X) → list_all p xs ≡ true → p x ≡ true → list_all p (set xs i x) ≡ true
set_all p [] i x all h = refl
set_all p (z ∷ zs) zero x all h = and_from (p x) (list_all p zs) h (and_parts (p z) (list_all p zs) all).1
set_all p (z ∷ zs) (suc i) x all h = let parts = and_parts (p z) (list_all p zs) all in and_from (p z) (list_all p (set zs i x)) parts.0 (set_all p zs i x parts.1 h)

-- an element other than the one that is changed
set_elsewhere : {X : Type 0} (xs : List X) (i j : ℕ) (x : X) → (i ≡ j → ⊥) → slice_get (set xs i x) j ≡ slice_get xs j
set_elsewhere [] i j x other = refl
set_elsewhere (z ∷ zs) zero zero x other = absurd (other refl)
set_elsewhere (z ∷ zs) zero (suc j) x other = refl
set_elsewhere (z ∷ zs) (suc i) zero x other = refl
set_elsewhere (z ∷ zs) (suc i) (suc j) x other = set_elsewhere zs i j x (λ same. other (ap suc same))

module _ (plan : PlanView) (valid : IsPlan plan) (b : Blk) (block : BlkView) (stands : slice_get plan.blocks b.0 ≡ Some block) (act : Act) where
  abbrev fuller : BlkView
  fuller = record block { acts = block.acts ++ act ∷ [] }

  abbrev pub new : PlanView
  new = record plan { blocks = set plan.blocks b.0 fuller }

  pub is_new : with_block_at b.0 (block_with_act act) plan ≡ new
  is_new = ap (λ v. option_map_or (λ (blk : BlkView). record plan { blocks = set plan.blocks b.0 (block_with_act act blk) }) v plan) stands

  within : b.0 < length plan.blocks
  within = slice_get_within plan.blocks b.0 block stands

  old_block : get_or plan.blocks b.0 block ≡ block
  old_block = get_or_from_slice_get plan.blocks b.0 block block stands

  pub same_length : length new.blocks ≡ length plan.blocks
  same_length = length-set plan.blocks b.0 fuller

  pub grows : Grows plan new
  grows = record {
    kinds = λ o kind h. h;
    objects = omega arith;
    blocks = let same = same_length in omega arith;
    files = omega arith;
    strips = omega arith;
    declared = λ c within other. other;
  }

  -- what the act does not change of the blocks
  pub same_map : {Y : Type 0} (f : BlkView → Y) → f fuller ≡ f block → map f new.blocks ≡ map f plan.blocks
  same_map f same = map-set_same f plan.blocks b.0 fuller block (same ∙ ap f (sym old_block))

  same_names : names_of new ≡ names_of plan
  same_names = ap (λ xs. declared_names plan ++ xs) (same_map (λ blk. blk.name) refl)

  first_of : {Y : Type 0} (f : BlkView → Y) → f fuller ≡ f block → option_map f (slice_get new.blocks 0) ≡ option_map f (slice_get plan.blocks 0)
  first_of f same = sym (slice_get-map f new.blocks 0) ∙ ap (λ xs. slice_get xs 0) (same_map f same) ∙ slice_get-map f plan.blocks 0

  -- the name of each block
  name_or : (o : Option BlkView) → option_map_or (λ (blk : BlkView). blk.name) o [] ≡ option_map_or (λ v. v) (option_map (λ (blk : BlkView). blk.name) o) []
  name_or None = refl
  name_or (Some blk) = refl

  same_name : (c : ℕ) → name_of_blk new c ≡ name_of_blk plan c
  same_name c =
      name_or (slice_get new.blocks c)
      ∙ ap (λ o. option_map_or (λ v. v) o [])
      (sym (slice_get-map (λ (blk : BlkView). blk.name) new.blocks c) ∙ ap (λ xs. slice_get xs c) (same_map (λ blk. blk.name) refl) ∙ slice_get-map (λ (blk : BlkView). blk.name) plan.blocks c)
      ∙ sym (name_or (slice_get plan.blocks c))

  map_or : (o : Option BlkView) → option_map_or (λ (blk : BlkView). is_none blk.work) o false ≡ option_map_or (λ v. v) (option_map (λ (blk : BlkView). is_none blk.work) o) false
  map_or None = refl
  map_or (Some blk) = refl

  own : BlkView → List Blk
  own blk = blocks_of plan blk.acts

  pub submits_of : Act → List Blk
  submits_of a = blocks_by plan a

  -- the blocks that the new plan submits: those of the old one, and the act's
  pub more_submitted : (q : ℕ) → count_by (λ (c : Blk). c.0 == q) (submitted_blocks new) ≡ count_by (λ (c : Blk). c.0 == q) (submitted_blocks plan) + count_by (λ (c : Blk). c.0 == q) (submits_of act)
  unfolding own submits_of
  more_submitted q =
      let p = λ (c : Blk). c.0 == q in
      let of_objects = flat_map (λ (o : ObjView). blocks_of plan o.handler ++ option_to_list o.cancel) plan.objects in
      let counted = λ (blk : BlkView). count_by p (own blk) in
      let old_split = count_by-append p (flat_map own plan.blocks) of_objects in
      let new_split = count_by-append p (flat_map own new.blocks) of_objects in
      let old_sum = count_by-flat_map p own plan.blocks in
      let new_sum = count_by-flat_map p own new.blocks in
      let changed = sum_by-set counted plan.blocks b.0 fuller block within in
      let before : counted (get_or plan.blocks b.0 block) ≡ counted block = ap counted old_block in
      let joined : counted fuller ≡ counted block + count_by p (submits_of act) =
      ap (count_by p) (flat_map-append submits_of block.acts (act ∷ []) ∙ ap (λ xs. flat_map submits_of block.acts ++ xs) (append-nil (submits_of act)))
      ∙ count_by-append p (flat_map submits_of block.acts) (submits_of act)
      in
      omega arith

  -- the same, in words of other modules
  pub submitted : (q : ℕ) → count_by (λ (c : Blk). c.0 == q) (submitted_blocks new) ≡ count_by (λ (c : Blk). c.0 == q) (submitted_blocks plan) + count_by (λ (c : Blk). c.0 == q) (blocks_by plan act)
  unfolding submits_of
  submitted q = more_submitted q

  own_strips : BlkView → List ℕ
  own_strips blk = strips_of blk.acts

  applies_of : Act → List ℕ
  applies_of a = option_to_list (strip_of a)

  -- the strips that the new plan's acts apply: those of the old one, and the act's (dispatch_apply(3))
  pub more_applied : (q : ℕ) → count_by (λ c. c == q) (applied_strips new) ≡ count_by (λ c. c == q) (applied_strips plan) + count_by (λ c. c == q) (option_to_list (strip_of act))
  unfolding own_strips applies_of
  more_applied q =
      let p = λ (c : ℕ). c == q in
      let counted = λ (blk : BlkView). count_by p (own_strips blk) in
      let old_sum = count_by-flat_map p own_strips plan.blocks in
      let new_sum = count_by-flat_map p own_strips new.blocks in
      let changed = sum_by-set counted plan.blocks b.0 fuller block within in
      let before : counted (get_or plan.blocks b.0 block) ≡ counted block = ap counted old_block in
      let joined : counted fuller ≡ counted block + count_by p (applies_of act) =
      ap (count_by p) (flat_map-append applies_of block.acts (act ∷ []) ∙ ap (λ xs. flat_map applies_of block.acts ++ xs) (append-nil (applies_of act)))
      ∙ count_by-append p (flat_map applies_of block.acts) (applies_of act)
      in
      omega arith

  pub more_acts : sum_by (λ (blk : BlkView). length blk.acts) new.blocks ≡ sum_by (λ (blk : BlkView). length blk.acts) plan.blocks + 1
  more_acts =
      let size = λ (blk : BlkView). length blk.acts in
      let changed = sum_by-set size plan.blocks b.0 fuller block within in
      let before : size (get_or plan.blocks b.0 block) ≡ size block = ap size old_block in
      let joined = length_push block.acts act in
      omega arith

  -- where the act fits, there is room, and its block is not submitted yet
  module _ (fits : is_act plan act ≡ true) (fresh : is_untaken_by plan act ≡ true) (idle : is_made plan b.0 ≡ false) (room : act_count plan < max_acts) where
    -- the blocks of the intake and of strips stay
    kept : (c : ℕ) (blk : BlkView) → is_made plan c ≡ true → slice_get plan.blocks c ≡ Some blk → slice_get new.blocks c ≡ Some blk
    kept c blk made at = set_elsewhere plan.blocks b.0 c fuller (λ same. absurd (both_ways (is_made plan c) (subst (λ n. is_made plan n ≡ false) same idle) made)) ∙ at

    full_block : is_block new fuller ≡ true
    full_block =
        let was = list_all_get (is_block plan) plan.blocks b.0 block valid.blocks stands in
        let parts = and_parts (option_map_or (is_work plan) block.work true) (list_all (is_act plan) block.acts) was in
        let acts : list_all (is_act plan) (block.acts ++ act ∷ []) ≡ true = list_all_push (is_act plan) block.acts act parts.1 fits in
        block_grows plan new grows fuller (and_from (option_map_or (is_work plan) block.work true) (list_all (is_act plan) (block.acts ++ act ∷ [])) parts.0 acts)

    submitted_once : (q : ℕ) → count_by (λ (d : Blk). d.0 == q) (submitted_blocks new) ≤ 1
    unfolding submits_of
    submitted_once q = let more = more_submitted q in let once = act_once plan valid act fits fresh q in omega arith

    pub act_valid : IsPlan new
    act_valid = record {
      root = valid.root;
      main = first_of (λ blk. blk.name) refl ∙ valid.main;
      main_idle = map_or (slice_get new.blocks 0) ∙ ap (λ o. option_map_or (λ v. v) o false) (first_of (λ blk. is_none blk.work) refl) ∙ sym (map_or (slice_get plan.blocks 0)) ∙ valid.main_idle;
      few_objects = valid.few_objects;
      few_blocks = let same = same_length in omega (arith, valid.few_blocks);
      few_files = valid.few_files;
      few_strips = valid.few_strips;
      few_acts = let more = more_acts in omega arith;
      until_low = valid.until_low;
      until_high = valid.until_high;
      names = valid.names;
      block_names = λ c within. ap (λ x. is_made plan c || is_name x) (same_name c) ∙ valid.block_names c (subst (λ n. c < n) same_length within);
      intake = intake_stays plan new grows kept valid.intake;
      strips = strips_stay plan new grows kept valid.strips;
      apart = valid.apart;
      names_apart = λ q. subst (λ xs. count_by (bytes_eq q) xs ≤ 1) (sym same_names) (valid.names_apart q);
      objects = list_all_map (is_object plan) (is_object new) (object_grows plan new grows) plan.objects valid.objects;
      blocks = set_all (is_block new) plan.blocks b.0 fuller (list_all_map (is_block plan) (is_block new) (block_grows plan new grows) plan.blocks valid.blocks) full_block;
      files = valid.files;
      once = submitted_once;
      targets = valid.targets;
    }
