-- An intake or a strip more keeps a plan valid, and submits nothing.
use Rattle.std.proofs.Common.{ℕ, zero, suc, ◌≡◌, ◌<◌, ◌≤◌, ◌⊎◌, inl, inr, ◌+◌, ◌==◌, Bool, true, false, ◌&&◌, ◌||◌, cond, leb, codes, List, [], ◌∷◌, ◌++◌, length, take, drop, map, Some, None, is_none, option_to_list, slice_get, count_by, sum_by, refl, sym, ap, ◌∙◌, subst, ⊎_elim, arith}
use Rattle.std.specs.List.{flat_map, list_any, range_with_len}
use Rattle.std.specs.Option.{option_map_or, option_map}
use Rattle.std.specs.Str.{bytes_eq}
use Rattle.std.proofs.Math.Seq.{drop-append_seam, take-length}
use Rattle.std.proofs.lemmas.Bool.{and_from, cases_lt, le-leb, or_left}
use Rattle.std.proofs.lemmas.List.{append-nil, length-append, append_assoc, map-append}
use Rattle.std.proofs.lemmas.List.Concat.{flat_map-append}
use Rattle.std.proofs.lemmas.List.Folds.{list_all-append}
use Rattle.std.proofs.lemmas.List.FromFn.{length-map-range_with_len}
use Rattle.std.proofs.lemmas.List.Sums.{sum_by-append}
use Rattle.gcd_plan.specs.Kinds.{is_queue}
use Rattle.gcd_plan.specs.Limits.{max_blocks, max_intake}
use Rattle.gcd_plan.specs.Made.{Span, is_within, spans, is_made, intake_span, strip_span, intake_block, made_by_intake}
use Rattle.gcd_plan.specs.Names.{is_name}
use Rattle.gcd_plan.specs.PlanView.{PlanView, ObjView, BlkView, IntakeView, name_of_blk}
use Rattle.gcd_plan.specs.Validity.{IsPlan, names_of, has_name, blocks_of, submitted_blocks, is_block, is_object, is_among_blocks}
use Rattle.gcd_plan.specs.declared.numbers.Blk.{Blk}
use Rattle.gcd_plan.specs.declared.numbers.Obj.{Obj}
use Rattle.gcd_plan.proofs.MadeBlocks.{within_from, without}
use Rattle.gcd_plan.proofs.Places.{slice_get-append_left, slice_get_kept}
use Rattle.gcd_plan.proofs.Spans.{made_of_intake, no_span_past}
use Rattle.gcd_plan.proofs.Sums.{count_by-cons}
use Rattle.gcd_plan.proofs.Within.{has_main}
use Rattle.gcd_plan.proofs.Options.{none_from_is_none}
use Rattle.gcd_builder.specs.Changes.{new_intake, with_intake}
use Rattle.gcd_builder.proofs.Growth.{Grows, list_all_map, object_grows, block_grows}
use Rattle.gcd_builder.proofs.MadeKept.{strips_stay}
use Rattle.gcd_builder.proofs.MadeNames.{all_made, apart_both, intake_fresh, made_apart, made_found, made_names}
use Rattle.gcd_builder.proofs.Valid.{first_name, first_idle}

-- ## Lists

-- blocks with no acts have no acts, and submit nothing
idle_acts : (make : ℕ → BlkView) → ((k : ℕ) → (make k).acts ≡ []) → (a n : ℕ) → sum_by (λ b. length b.acts) (map make (range_with_len a n)) ≡ 0
idle_acts make idle a zero = refl
idle_acts make idle a (suc n) =
    let own : length (make a).acts ≡ 0 = ap length (idle a) in
    let rest = idle_acts make idle (a + 1) n in
    let step = sum_by-append (λ (b : BlkView). length b.acts) (make a ∷ []) (map make (range_with_len (a + 1) n)) in
    omega (arith, own, rest, step)

pub idle_submits : (plan : PlanView) (make : ℕ → BlkView) → ((k : ℕ) → (make k).acts ≡ []) → (a n : ℕ) → flat_map (λ b. blocks_of plan b.acts) (map make (range_with_len a n)) ≡ []
idle_submits plan make idle a zero = refl
idle_submits plan make idle a (suc n) =
    ap (λ acts. blocks_of plan acts ++ flat_map (λ b. blocks_of plan b.acts) (map make (range_with_len (a + 1) n))) (idle a) ∙ idle_submits plan make idle (a + 1) n

-- what is pushed stands behind the others
at_end : {A : Type 0} (xs made : List A) (n : ℕ) → length made ≡ n → take n (drop (length xs) (xs ++ made)) ≡ made
at_end xs made n size = ap (λ l. take n l) (drop-append_seam xs made) ∙ ap (λ k. take k made) (sym size) ∙ take-length made

cases_le : (m k : ℕ) → (m ≤ k) ⊎ (k < m)
cases_le m k = ⊎_elim (λ less. inr less) (λ more. inl more) (cases_lt k m)

-- ## What both have in common: a span of made blocks behind the others

module _ (plan : PlanView) (valid : IsPlan plan) (new : PlanView) (make : ℕ → BlkView) (a n : ℕ) (idle : (k : ℕ) → (make k).acts ≡ []) (blocks : new.blocks ≡ plan.blocks ++ map make (range_with_len a n)) where
  abbrev span : Span
  span = record { first = length plan.blocks; count = n }

  size : length (map make (range_with_len a n)) ≡ n
  size = length-map-range_with_len make a n

  pub longer : length new.blocks ≡ length plan.blocks + n
  longer = ap length blocks ∙ length-append plan.blocks (map make (range_with_len a n)) ∙ ap (λ k. length plan.blocks + k) size

  pub behind : is_among_blocks new span ≡ true
  behind =
      let some = has_main plan.blocks valid.main in
      and_from (leb 1 (length plan.blocks)) (leb (length plan.blocks + n) (length new.blocks)) (le-leb 1 (length plan.blocks) some)
      (le-leb (length plan.blocks + n) (length new.blocks) (omega (arith, longer)))

  pub stand : take n (drop (length plan.blocks) new.blocks) ≡ map make (range_with_len a n)
  stand = ap (λ l. take n (drop (length plan.blocks) l)) blocks ∙ at_end plan.blocks (map make (range_with_len a n)) n size

  pub before : (b : ℕ) → b < length plan.blocks → is_within b span ≡ false
  before b within = without b span (λ low high. absurd (omega (arith, low, within)))

  pub kept : (b : ℕ) (block : BlkView) → slice_get plan.blocks b ≡ Some block → slice_get new.blocks b ≡ Some block
  kept b block at = ap (λ l. slice_get l b) blocks ∙ slice_get_kept plan.blocks (map make (range_with_len a n)) b block at

  same_name : (b : ℕ) → b < length plan.blocks → name_of_blk new b ≡ name_of_blk plan b
  same_name b within =
      ap (λ o. option_map_or (λ (v : BlkView). v.name) o []) (ap (λ l. slice_get l b) blocks ∙ slice_get-append_left plan.blocks (map make (range_with_len a n)) b within)

  -- names of blocks, where each block of the plan is made in the new one if it was, and the new ones are
  pub named : ((b : ℕ) → b < length plan.blocks → is_made new b ≡ is_made plan b) → ((b : ℕ) → is_within b span ≡ true → is_made new b ≡ true) → (b : ℕ) → b < length new.blocks → has_name new b ≡ true
  named same own b within =
      ⊎_elim
      (λ old. ap (λ v. v || is_name (name_of_blk new b)) (same b old) ∙ ap (λ x. is_made plan b || is_name x) (same_name b old) ∙ valid.block_names b old)
      (λ more. or_left (is_made new b) (is_name (name_of_blk new b)) (own b (within_from b span more (omega (arith, longer, within)))))
      (cases_lt b (length plan.blocks))

  pub few_acts_in : sum_by (λ (b : BlkView). length b.acts) new.blocks ≡ sum_by (λ (b : BlkView). length b.acts) plan.blocks
  few_acts_in =
      let split = ap (sum_by (λ (b : BlkView). length b.acts)) blocks ∙ sum_by-append (λ (b : BlkView). length b.acts) plan.blocks (map make (range_with_len a n)) in
      let none = idle_acts make idle a n in
      omega (arith, split, none)

  pub submit_same : flat_map (λ (b : BlkView). blocks_of plan b.acts) new.blocks ≡ flat_map (λ (b : BlkView). blocks_of plan b.acts) plan.blocks
  submit_same =
      ap (flat_map (λ (b : BlkView). blocks_of plan b.acts)) blocks
      ∙ flat_map-append (λ (b : BlkView). blocks_of plan b.acts) plan.blocks (map make (range_with_len a n))
      ∙ ap (λ l. flat_map (λ (b : BlkView). blocks_of plan b.acts) plan.blocks ++ l) (idle_submits plan make idle a n)
      ∙ append-nil (flat_map (λ (b : BlkView). blocks_of plan b.acts) plan.blocks)

  pub main_stays : option_map (λ (b : BlkView). b.name) (slice_get new.blocks 0) ≡ Some (codes "main")
  main_stays = ap (λ l. option_map (λ (b : BlkView). b.name) (slice_get l 0)) blocks ∙ first_name plan.blocks (map make (range_with_len a n)) (codes "main") valid.main

  pub idle_stays : option_map_or (λ (b : BlkView). is_none b.work) (slice_get new.blocks 0) false ≡ true
  idle_stays = ap (λ l. option_map_or (λ (b : BlkView). is_none b.work) (slice_get l 0) false) blocks ∙ first_idle plan.blocks (map make (range_with_len a n)) valid.main_idle

  -- no old span has a block of the new one
  pub apart_more : ((b : ℕ) → count_by (is_within b) (spans new) ≡ count_by (is_within b) (spans plan) + cond (is_within b span) 1 0) → (b : ℕ) → count_by (is_within b) (spans new) ≤ 1
  apart_more more b =
      let counted = more b in
      let few = valid.apart b in
      ⊎_elim
      (λ old.
      let none : ◌≡◌ {A = ℕ} (cond (is_within b span) 1 0) 0 = ap (λ v. cond v 1 0) (before b old) in
      omega (arith, counted, few, none))
      (λ past.
      let none = no_span_past plan valid.intake valid.strips b past in
      let one = cond_le (is_within b span) in
      omega (arith, counted, none, one))
      (cases_lt b (length plan.blocks))
    where
      cond_le : (v : Bool) → cond v 1 0 ≤ 1
      cond_le true = omega arith
      cond_le false = omega arith

-- ## An intake

module _ (plan : PlanView) (valid : IsPlan plan) (queue : Obj) (n : ℕ) (none : is_none plan.intake ≡ true) (on : is_queue plan queue.0 ≡ true) (low : 1 ≤ n) (high : n ≤ max_intake) (room : length plan.blocks + n ≤ max_blocks) where
  abbrev i : IntakeView
  i = new_intake queue n plan

  abbrev pub intake_new : PlanView
  intake_new = with_intake i plan

  no_intake : plan.intake ≡ None
  no_intake = none_from_is_none plan.intake none

  old_made : (b : ℕ) → is_made plan b ≡ list_any (is_within b) (map strip_span plan.strips)
  old_made b = ap (λ o. list_any (is_within b) (map intake_span (option_to_list o) ++ map strip_span plan.strips)) no_intake

  pub intake_made_same : (b : ℕ) → b < length plan.blocks → is_made intake_new b ≡ is_made plan b
  intake_made_same b within =
      ap (λ v. v || list_any (is_within b) (map strip_span plan.strips)) (without b (intake_span i) (λ first last. absurd (omega (arith, first, within))))
      ∙ sym (old_made b)

  pub intake_is_more : Grows plan intake_new
  intake_is_more = record {
    kinds = λ o kind h. h;
    objects = omega arith;
    blocks = let more = length-append plan.blocks (made_by_intake i) in omega (arith, more);
    files = omega arith;
    strips = omega arith;
    declared = λ b within other. intake_made_same b within ∙ other;
  }

  spans_counted : (b : ℕ) → count_by (is_within b) (spans intake_new) ≡ count_by (is_within b) (spans plan) + cond (is_within b (intake_span i)) 1 0
  spans_counted b =
      let old : count_by (is_within b) (spans plan) ≡ count_by (is_within b) (map strip_span plan.strips) =
      ap (λ o. count_by (is_within b) (map intake_span (option_to_list o) ++ map strip_span plan.strips)) no_intake in
      let step = count_by-cons (is_within b) (intake_span i) (map strip_span plan.strips) in
      omega (arith, old, step)

  pub intake_names : names_of intake_new ≡ names_of plan ++ made_names intake_block 1 n
  intake_names =
      ap (λ l. (map (λ f. f.name) plan.files ++ (map (λ o. o.name) plan.objects ++ map (λ s. s.name) plan.strips)) ++ l) (map-append (λ (b : BlkView). b.name) plan.blocks (made_by_intake i))
      ∙ sym (append_assoc (map (λ f. f.name) plan.files ++ (map (λ o. o.name) plan.objects ++ map (λ s. s.name) plan.strips)) (map (λ (b : BlkView). b.name) plan.blocks) (made_names intake_block 1 n))

  pub intake_submits : submitted_blocks intake_new ≡ submitted_blocks plan
  intake_submits =
      ap (λ l. l ++ flat_map (λ (o : ObjView). blocks_of plan o.handler ++ option_to_list o.cancel) plan.objects)
      (submit_same plan valid intake_new intake_block 1 n (λ k. refl) refl)

  pub intake_valid : IsPlan intake_new
  intake_valid =
      let acts = few_acts_in plan valid intake_new intake_block 1 n (λ k. refl) refl in
      let longer_by = longer plan valid intake_new intake_block 1 n (λ k. refl) refl in
      let grows = intake_is_more in
      record {
        root = valid.root;
        main = main_stays plan valid intake_new intake_block 1 n (λ k. refl) refl;
        main_idle = idle_stays plan valid intake_new intake_block 1 n (λ k. refl) refl;
        few_objects = valid.few_objects;
        few_blocks = omega (arith, longer_by, room);
        few_files = valid.few_files;
        few_strips = valid.few_strips;
        few_acts = omega (arith, acts, valid.few_acts);
        until_low = valid.until_low;
        until_high = valid.until_high;
        names = valid.names;
        block_names = named plan valid intake_new intake_block 1 n (λ k. refl) refl intake_made_same (made_of_intake intake_new i refl);
        names_apart = λ x. subst (λ l. count_by (bytes_eq x) l ≤ 1) (sym intake_names)
            (apart_both (names_of plan) (made_names intake_block 1 n) valid.names_apart
            (made_apart intake_block (codes "+") (λ k. refl) 1 n (omega (arith, high)))
            (λ y some. let one = made_found intake_block 1 n y some in subst (λ z. count_by (bytes_eq z) (names_of plan) ≡ 0) (sym one.1) (intake_fresh plan valid no_intake one.0)) x);
        objects = list_all_map (is_object plan) (is_object intake_new) (object_grows plan intake_new grows) plan.objects valid.objects;
        blocks = list_all-append (is_block intake_new) plan.blocks (made_by_intake i)
            ∙ and_from _ _ (list_all_map (is_block plan) (is_block intake_new) (block_grows plan intake_new grows) plan.blocks valid.blocks)
            (all_made (is_block intake_new) intake_block 1 n (λ k. refl));
        files = valid.files;
        intake = record {
          fits = and_from (is_queue plan queue.0) (leb 1 n && leb n max_intake) on (and_from (leb 1 n) (leb n max_intake) (le-leb 1 n low) (le-leb n max_intake high));
          among = behind plan valid intake_new intake_block 1 n (λ k. refl) refl;
          blocks = stand plan valid intake_new intake_block 1 n (λ k. refl) refl;
        };
        strips = strips_stay plan intake_new grows (λ b block made at. kept plan valid intake_new intake_block 1 n (λ k. refl) refl b block at) valid.strips;
        apart = apart_more plan valid intake_new intake_block 1 n (λ k. refl) refl spans_counted;
        once = λ b. subst (λ xs. count_by (λ (c : Blk). c.0 == b) xs ≤ 1) (sym intake_submits) (valid.once b);
        targets = valid.targets;
      }
