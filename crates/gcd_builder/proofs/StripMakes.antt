-- A strip more keeps a plan valid, and submits nothing (dispatch_apply(3)).
use Rattle.std.proofs.Common.{ℕ, ◌≡◌, ◌<◌, ◌≤◌, ◌+◌, ◌==◌, true, false, ◌&&◌, ◌||◌, cond, ltb, leb, codes, decimal, min, List, [], ◌∷◌, ◌++◌, length, map, zero, suc, Some, option_to_list, slice_get, count_by, ⊎_elim, ◌*◌, refl, sym, ap, ◌∙◌, subst, arith}
use Rattle.std.specs.List.{flat_map, list_all, list_any}
use Rattle.std.specs.Option.{option_map_or}
use Rattle.std.specs.Str.{bytes_eq}
use Rattle.std.proofs.Math.Bool.{or-false}
use Rattle.std.proofs.Math.Nat.{min-le_right}
use Rattle.std.proofs.lemmas.Bool.{and_from, and_parts, both_ways, cases_lt, false_from_ne_true, le-leb, lt-ltb, ltb-true}
use Rattle.std.proofs.lemmas.List.Concat.{flat_map-append}
use Rattle.std.proofs.lemmas.Option.{same_Some}
use Rattle.std.proofs.lemmas.List.{append-nil, append_assoc, length-append, length_push, map-append}
use Rattle.std.proofs.lemmas.List.Folds.{list_all-append, list_any-append}
use Rattle.gcd_plan.specs.Kinds.{is_queue}
use Rattle.gcd_plan.specs.Limits.{max_blocks, max_file_bytes, max_strips}
use Rattle.gcd_plan.specs.Made.{is_within, blocks_in, spans, is_made, intake_span, strip_span, strip_blocks, strip_block, made_by_strip}
use Rattle.gcd_plan.specs.Names.{is_name}
use Rattle.gcd_plan.specs.PlanView.{PlanView, ObjView, BlkView, StripView}
use Rattle.gcd_plan.specs.Validity.{IsPlan, IsStrip, declared_names, names_of, blocks_by, blocks_of, submitted_blocks, is_act, is_handler_act, is_block, is_object, is_kind, is_work, has_path, has_fields, is_strip_how}
use Rattle.gcd_plan.specs.declared.act.Act.{Act}
use Rattle.gcd_plan.specs.declared.act.Act.TheVariants.{Async, Barrier, Sync, BarrierSync, GroupAsync, Notify, Enter, Leave, GroupWait, GroupWaitFor, Signal, Wait, WaitFor, Suspend, Resume, Activate, Target, Merge, Cancel, Retain, Release, Apply, CancelBlock, WaitBlock, NotifyBlock}
use Rattle.gcd_plan.specs.declared.numbers.Blk.{Blk}
use Rattle.gcd_plan.specs.declared.work.How.{How}
use Rattle.gcd_plan.proofs.MadeBlocks.{without}
use Rattle.gcd_plan.proofs.Places.{slice_get-append_left, slice_get-append_seam}
use Rattle.gcd_plan.proofs.Spans.{made_of_strip}
use Rattle.gcd_plan.proofs.Sums.{count_by-append, count_by-cons}
use Rattle.gcd_builder.specs.Changes.{new_strip, with_strip}
use Rattle.gcd_builder.proofs.Growth.{Grows, list_all_map, object_grows, block_grows}
use Rattle.gcd_builder.proofs.Inserts.{IsFit, apart_insert, block_names, count_insert, fit_is_new, inserts_before, list_all_insert, strip_inserts}
use Rattle.gcd_builder.proofs.MadeKept.{strips_stay, intake_stays}
use Rattle.gcd_builder.proofs.MadeNames.{all_made, apart_both, made_apart, made_found, made_names, strip_fresh, strip_unnamed}
use Rattle.gcd_builder.proofs.Makes.{apart_more, behind, few_acts_in, idle_stays, idle_submits, kept, longer, main_stays, named, stand}
use Rattle.gcd_builder.proofs.Applied.{own_parts}
use Rattle.gcd_builder.proofs.Places.{same_bytes}

-- ## The acts of objects

pub object_acts : (plan : PlanView) (o : ObjView) → is_object plan o ≡ true → list_all (is_act plan) o.handler ≡ true
object_acts plan o h =
    let kind = and_parts (is_kind o.kind) (has_path o.kind o.path && has_fields plan o.kind o) h in
    let fields = (and_parts (has_path o.kind o.path) (has_fields plan o.kind o) kind.1).1 in
    list_all_map (λ act. is_handler_act act && is_act plan act) (is_act plan) (λ act k. (and_parts (is_handler_act act) (is_act plan act) k).1) o.handler (own_parts plan o o.kind refl fields).0

-- ## What acts submit where a strip comes

module _ (plan : PlanView) (s : StripView) where
  abbrev longer_strips : PlanView
  longer_strips = with_strip s plan

  strip_same : (a : ℕ) → a < length plan.strips → strip_blocks longer_strips a ≡ strip_blocks plan a
  strip_same a within = ap (λ o. option_map_or (λ t. blocks_in (strip_span t)) o []) (slice_get-append_left plan.strips (s ∷ []) a within)

  by_same : (act : Act) → is_act plan act ≡ true → blocks_by longer_strips act ≡ blocks_by plan act
  by_same (Async q b) h = refl
  by_same (Barrier q b) h = refl
  by_same (Sync q b) h = refl
  by_same (BarrierSync q b) h = refl
  by_same (GroupAsync g q b) h = refl
  by_same (Notify g q b) h = refl
  by_same (Enter g) h = refl
  by_same (Leave g) h = refl
  by_same (GroupWait g) h = refl
  by_same (GroupWaitFor g ms) h = refl
  by_same (Signal t) h = refl
  by_same (Wait t) h = refl
  by_same (WaitFor t ms) h = refl
  by_same (Suspend o) h = refl
  by_same (Resume o) h = refl
  by_same (Activate o) h = refl
  by_same (Target o t) h = refl
  by_same (Merge t n) h = refl
  by_same (Cancel t) h = refl
  by_same (Retain o) h = refl
  by_same (Release o) h = refl
  by_same (Apply q a) h = strip_same a (ltb-true a (length plan.strips) (and_parts (is_queue plan q.0) (ltb a (length plan.strips)) h).1)
  by_same (CancelBlock b) h = refl
  by_same (WaitBlock b) h = refl
  by_same (NotifyBlock b q c) h = refl

  of_same : (acts : List Act) → list_all (is_act plan) acts ≡ true → blocks_of longer_strips acts ≡ blocks_of plan acts
  of_same [] h = refl
  of_same (act ∷ acts) h =
      let each = and_parts (is_act plan act) (list_all (is_act plan) acts) h in
      ap (λ l. l ++ blocks_of longer_strips acts) (by_same act each.0) ∙ ap (λ l. blocks_by plan act ++ l) (of_same acts each.1)

  blocks_same : (blocks : List BlkView) → list_all (is_block plan) blocks ≡ true → flat_map (λ b. blocks_of longer_strips b.acts) blocks ≡ flat_map (λ b. blocks_of plan b.acts) blocks
  blocks_same [] h = refl
  blocks_same (b ∷ blocks) h =
      let each = and_parts (is_block plan b) (list_all (is_block plan) blocks) h in
      let acts = (and_parts (option_map_or (is_work plan) b.work true) (list_all (is_act plan) b.acts) each.0).1 in
      ap (λ l. l ++ flat_map (λ (c : BlkView). blocks_of longer_strips c.acts) blocks) (of_same b.acts acts)
      ∙ ap (λ l. blocks_of plan b.acts ++ l) (blocks_same blocks each.1)

  objects_same : (objects : List ObjView) → list_all (is_object plan) objects ≡ true
      → flat_map (λ o. blocks_of longer_strips o.handler ++ option_to_list o.cancel) objects ≡ flat_map (λ o. blocks_of plan o.handler ++ option_to_list o.cancel) objects
  objects_same [] h = refl
  objects_same (o ∷ objects) h =
      let each = and_parts (is_object plan o) (list_all (is_object plan) objects) h in
      ap (λ l. (l ++ option_to_list o.cancel) ++ flat_map (λ (p : ObjView). blocks_of longer_strips p.handler ++ option_to_list p.cancel) objects) (of_same o.handler (object_acts plan o each.0))
      ∙ ap (λ l. (blocks_of plan o.handler ++ option_to_list o.cancel) ++ l) (objects_same objects each.1)

-- ## The strip

module _ (plan : PlanView) (valid : IsPlan plan) (name : List ℕ) (how : How) (file len n : ℕ) where
  abbrev s : StripView
  s = new_strip name how file len n plan

  abbrev pub strip_new : PlanView
  strip_new = with_strip s plan

  spans_more : spans strip_new ≡ spans plan ++ strip_span s ∷ []
  spans_more =
      ap (λ l. map intake_span (option_to_list plan.intake) ++ l) (map-append strip_span plan.strips (s ∷ []))
      ∙ sym (append_assoc (map intake_span (option_to_list plan.intake)) (map strip_span plan.strips) (strip_span s ∷ []))

  made_or : (b : ℕ) → is_made strip_new b ≡ (is_made plan b || (is_within b (strip_span s) || false))
  made_or b = ap (list_any (is_within b)) spans_more ∙ list_any-append (is_within b) (spans plan) (strip_span s ∷ [])

  pub strip_made_same : (b : ℕ) → b < length plan.blocks → is_made strip_new b ≡ is_made plan b
  strip_made_same b within =
      made_or b
      ∙ ap (λ v. is_made plan b || (v || false)) (without b (strip_span s) (λ first last. absurd (omega (arith, first, within))))
      ∙ or-false (is_made plan b)

  pub strip_is_more : Grows plan strip_new
  strip_is_more = record {
    kinds = λ o kind h. h;
    objects = omega arith;
    blocks = let more = length-append plan.blocks (made_by_strip s) in omega (arith, more);
    files = omega arith;
    strips = let more = length_push plan.strips s in omega (arith, more);
    declared = λ b within other. strip_made_same b within ∙ other;
  }

  spans_counted : (b : ℕ) → count_by (is_within b) (spans strip_new) ≡ count_by (is_within b) (spans plan) + cond (is_within b (strip_span s)) 1 0
  spans_counted b =
      let whole = ap (count_by (is_within b)) spans_more in
      let split = count_by-append (is_within b) (spans plan) (strip_span s ∷ []) in
      let one = count_by-cons (is_within b) (strip_span s) [] in
      omega (arith, whole, split, one)

  -- the plan with the strip alone, without its blocks
  abbrev named_plan : PlanView
  named_plan = record plan { strips = plan.strips ++ s ∷ [] }

  pub strip_all_names : names_of strip_new ≡ names_of named_plan ++ made_names (strip_block s) 0 n
  strip_all_names =
      ap (λ l. declared_names named_plan ++ l) (map-append (λ (b : BlkView). b.name) plan.blocks (made_by_strip s))
      ∙ sym (append_assoc (declared_names named_plan) (block_names plan) (made_names (strip_block s) 0 n))

  pub strip_submits : submitted_blocks strip_new ≡ submitted_blocks plan
  strip_submits =
      ap (λ l. flat_map (λ (b : BlkView). blocks_of strip_new b.acts) strip_new.blocks ++ l) (objects_same plan s plan.objects valid.objects)
      ∙ ap (λ l. l ++ flat_map (λ (o : ObjView). blocks_of plan o.handler ++ option_to_list o.cancel) plan.objects) blocks_submit
    where
      submit_all : (with : PlanView) → flat_map (λ (b : BlkView). blocks_of with b.acts) (plan.blocks ++ made_by_strip s) ≡ flat_map (λ (b : BlkView). blocks_of with b.acts) plan.blocks
      submit_all with =
          flat_map-append (λ (b : BlkView). blocks_of with b.acts) plan.blocks (made_by_strip s)
          ∙ ap (λ l. flat_map (λ (b : BlkView). blocks_of with b.acts) plan.blocks ++ l) (idle_submits with (strip_block s) (λ k. refl) 0 n)
          ∙ append-nil (flat_map (λ (b : BlkView). blocks_of with b.acts) plan.blocks)

      blocks_submit : flat_map (λ (b : BlkView). blocks_of strip_new b.acts) strip_new.blocks ≡ flat_map (λ (b : BlkView). blocks_of plan b.acts) plan.blocks
      blocks_submit =
          submit_all strip_new
          ∙ blocks_same plan s plan.blocks valid.blocks

  module _ (fit : IsFit plan name) (counts : is_strip_how how ≡ true) (has : file < length plan.files) (low : 1 ≤ len) (high : len ≤ max_file_bytes) (room : length plan.blocks + n ≤ max_blocks) (few : length plan.strips < max_strips) where
    -- the name of a block of the strip is none of the others
    others : (x : List ℕ) → 1 ≤ count_by (bytes_eq x) (made_names (strip_block s) 0 n) → count_by (bytes_eq x) (names_of named_plan) ≡ 0
    others x some =
        let one = made_found (strip_block s) 0 n x some in
        let own = (strip_block s one.0).name in
        let none = strip_fresh plan valid s fit one.0 in
        let more = count_insert (bytes_eq own) (inserts_before (strip_inserts plan s) (block_names plan)) in
        let other : bytes_eq own name ≡ false = false_from_ne_true (bytes_eq own name) (λ e. both_ways (is_name own) (strip_unnamed s one.0) (ap is_name (same_bytes own name e) ∙ fit.formed)) in
        let nothing : ◌≡◌ {A = ℕ} (cond (bytes_eq own name) 1 0) 0 = ap (λ v. cond v 1 0) other in
        let zero_count : count_by (bytes_eq own) (names_of named_plan) ≡ 0 = omega (arith, none, more, nothing) in
        subst (λ z. count_by (bytes_eq z) (names_of named_plan) ≡ 0) (sym one.1) zero_count

    work_fits : (k : ℕ) → is_block strip_new (strip_block s k) ≡ true
    work_fits k =
        and_from _ true
        (and_from (ltb file (length plan.files)) (leb (min (len * k) max_file_bytes) max_file_bytes && leb len max_file_bytes) (lt-ltb file (length plan.files) has)
        (and_from (leb (min (len * k) max_file_bytes) max_file_bytes) (leb len max_file_bytes) (le-leb (min (len * k) max_file_bytes) max_file_bytes (min-le_right (len * k) max_file_bytes)) (le-leb len max_file_bytes high)))
        refl

    pub strip_valid : IsPlan strip_new
    strip_valid =
        let acts = few_acts_in plan valid strip_new (strip_block s) 0 n (λ k. refl) refl in
        let longer_by = longer plan valid strip_new (strip_block s) 0 n (λ k. refl) refl in
        let grows = strip_is_more in
        let pushed = length_push plan.strips s in
        let inserts = strip_inserts plan s in
        record {
          root = valid.root;
          main = main_stays plan valid strip_new (strip_block s) 0 n (λ k. refl) refl;
          main_idle = idle_stays plan valid strip_new (strip_block s) 0 n (λ k. refl) refl;
          few_objects = valid.few_objects;
          few_blocks = omega (arith, longer_by, room);
          few_files = valid.few_files;
          few_strips = omega (arith, pushed, few);
          few_acts = omega (arith, acts, valid.few_acts);
          until_low = valid.until_low;
          until_high = valid.until_high;
          names = list_all_insert is_name inserts fit.formed valid.names;
          block_names = named plan valid strip_new (strip_block s) 0 n (λ k. refl) refl strip_made_same (made_of_strip strip_new (length plan.strips) s (slice_get-append_seam plan.strips s []));
          names_apart = λ x. subst (λ l. count_by (bytes_eq x) l ≤ 1) (sym strip_all_names)
              (apart_both (names_of named_plan) (made_names (strip_block s) 0 n)
              (apart_insert name (names_of plan) (names_of named_plan) (inserts_before inserts (block_names plan)) (fit_is_new plan name fit) valid.names_apart)
              (made_apart (strip_block s) (name ++ codes ".") (λ k. sym (append_assoc name (codes ".") (decimal k))) 0 n (omega (arith, room)))
              others x);
          objects = list_all_map (is_object plan) (is_object strip_new) (object_grows plan strip_new grows) plan.objects valid.objects;
          blocks = list_all-append (is_block strip_new) plan.blocks (made_by_strip s)
              ∙ and_from _ _ (list_all_map (is_block plan) (is_block strip_new) (block_grows plan strip_new grows) plan.blocks valid.blocks)
              (all_made (is_block strip_new) (strip_block s) 0 n work_fits);
          files = valid.files;
          intake = intake_stays plan strip_new grows (λ b block made at. kept plan valid strip_new (strip_block s) 0 n (λ k. refl) refl b block at) valid.intake;
          strips = λ a t at. ⊎_elim
              (λ old. strips_stay plan strip_new grows (λ b block made at. kept plan valid strip_new (strip_block s) 0 n (λ k. refl) refl b block at) valid.strips a t (sym (slice_get-append_left plan.strips (s ∷ []) a old) ∙ at))
              (λ past. subst (IsStrip strip_new) (last_strip plan.strips s a t past at) (record {
                fits = and_from (is_strip_how how) (ltb file (length plan.files) && (leb 1 len && leb len max_file_bytes)) counts
                    (and_from (ltb file (length plan.files)) (leb 1 len && leb len max_file_bytes) (lt-ltb file (length plan.files) has)
                    (and_from (leb 1 len) (leb len max_file_bytes) (le-leb 1 len low) (le-leb len max_file_bytes high)));
                among = behind plan valid strip_new (strip_block s) 0 n (λ k. refl) refl;
                blocks = stand plan valid strip_new (strip_block s) 0 n (λ k. refl) refl;
              }))
              (cases_lt a (length plan.strips));
          apart = apart_more plan valid strip_new (strip_block s) 0 n (λ k. refl) refl spans_counted;
          once = λ b. subst (λ xs. count_by (λ (c : Blk). c.0 == b) xs ≤ 1) (sym strip_submits) (valid.once b);
          targets = valid.targets;
        }
      where
        -- the strip behind the others is the last
        last_strip : (ss : List StripView) (u : StripView) (a : ℕ) (t : StripView) → length ss ≤ a → slice_get (ss ++ u ∷ []) a ≡ Some t → u ≡ t
        last_strip [] u zero t past at = same_Some u t at
        last_strip [] u (suc a) t past at = cc
        last_strip (v ∷ ss) u zero t past at = absurd (omega (arith, past))
        last_strip (v ∷ ss) u (suc a) t past at = last_strip ss u a t (omega (arith, past)) at
