-- The script of the large input is read without a fault.
use Rattle.std.proofs.Common.{ℕ, zero, suc, ◌≡◌, ◌≢◌, ◌<◌, ◌≤◌, ◌+◌, ◌%◌, ◌==◌, ◌^◌, true, false, not, ◌&&◌, cond, ltb, leb, List, [], ◌∷◌, ◌++◌, length, map, Option, Some, None, Result, Ok, Err, IfSome, is_none, option_map, option_to_list, slice_get, count_by, codes, decimal, refl, sym, ap, ◌∙◌, subst, add-zero, zero-add, ⊎_elim, arith}
use Rattle.std.specs.List.{list_all, range_with_len}
use Rattle.std.specs.Option.{option_map_or}
use Rattle.std.specs.Fmt.{digits}
use Rattle.std.specs.Result.{result_err}
use Rattle.std.specs.Str.{bytes_eq}
use Rattle.std.proofs.lemmas.Bool.{and_from, le-leb, lt-ltb, ne_eqb, false_from_ne_true, or_right, or_left, cases_eq}
use Rattle.std.proofs.lemmas.Fmt.{decimal_injective, length-decimal-le}
use Rattle.std.proofs.lemmas.List.{length_push, append_assoc, append-nil}
use Rattle.std.proofs.lemmas.List.Sums.{sum_by_push}
use Rattle.gcd_plan.specs.Kinds.{is_queue_kind}
use Rattle.gcd_plan.specs.Limits.{max_blocks, max_acts, max_file_bytes}
use Rattle.gcd_plan.specs.Names.{is_name, is_letter, is_name_byte}
use Rattle.gcd_plan.specs.PlanView.{PlanView, BlkView}
use Rattle.gcd_plan.specs.Validity.{act_count, submitted_blocks, block_of, strip_of, root_view}
use Rattle.gcd_plan.specs.Made.{strip_blocks}
use Rattle.gcd_plan.specs.declared.act.Act.{Act}
use Rattle.gcd_plan.specs.declared.act.Act.TheVariants.{Async, Barrier}
use Rattle.gcd_plan.specs.declared.kind.Kind.TheVariants.{Serial, Concurrent}
use Rattle.gcd_plan.specs.declared.numbers.Blk.{Blk}
use Rattle.gcd_plan.specs.declared.numbers.Obj.{Obj}
use Rattle.gcd_plan.specs.declared.numbers.Run.{Run}
use Rattle.gcd_plan.specs.declared.numbers.Run.TheVariants as run
use Rattle.gcd_plan.specs.declared.work.How.TheVariants.{Sum}
use Rattle.gcd_plan.specs.declared.work.Work.{Work}
use Rattle.gcd_plan.proofs.Places.{slice_get_some}
use Rattle.gcd_script.specs.declared.line.Line.{Line}
use Rattle.gcd_script.specs.declared.line.Line.TheVariants.{DeclareBlock, OpenMain, AddAct}
use Rattle.gcd_builder.specs.declared.meaning.Meaning.TheVariants.{File, Block}
use Rattle.gcd_script.specs.declared.refusal.Refusal.{Refusal}
use Rattle.gcd_script.specs.declared.refusal.Refusal.TheVariants.{NoForm, BadName, UnknownName, Repeated, PastLimit, NotOneMain}
use Rattle.gcd_script.specs.BigScript.{big_name, big_start, big_block, big_queue_at, big_queue, big_act, big_head, big_lines, big_script}
use Rattle.gcd_builder.specs.Changes.{with_block, with_act}
use Rattle.gcd_script.specs.Changes.{change, after}
use Rattle.gcd_script.specs.Declarations.{work_line, work, one_of, range}
use Rattle.gcd_script.specs.Acts.{act_line}
use Rattle.gcd_script.specs.Codes.{refusal_code}
use Rattle.gcd_builder.specs.Changes.{new_block}
use Rattle.gcd_script.specs.Drafts.{DraftView, empty_draft, counted}
use Rattle.gcd_script.specs.Faults.{is_skipped, line_meant, after_line, going_on, draft_after, ended, fault_of}
use Rattle.gcd_script.specs.Forms.{form_of}
use Rattle.gcd_builder.specs.Taken.{is_free, is_unapplied}
use Rattle.gcd_script.specs.Judged.{judged, line_of, has_room, is_untaken}
use Rattle.gcd_script.specs.Keywords.{counts}
use Rattle.gcd_script.specs.Lines.{words_of, is_printable}
use Rattle.gcd_script.specs.Meant.{Meant, meant, then_meant, both, must}
use Rattle.gcd_builder.specs.Names.{meaning_among, meaning_of, is_unused}
use Rattle.gcd_builder.specs.Bodies.{IsBody}
use Rattle.gcd_script.specs.Sound.{IsDraft}
use Rattle.gcd_script.specs.Words.{number, file, block, queue, as_file, as_block, as_object}
use Rattle.gcd_script.proofs.BigWords.{block_words, block_prints, act_words, name_prints, joined_prints, decimal_pass, is_solid, AllPrint, lines_again}
use Rattle.gcd_builder.proofs.BlockActs as block_acts
use Rattle.gcd_builder.proofs.Declares.{block_declares, same_meanings}
use Rattle.gcd_builder.proofs.Inserts.{fit_from}
use Rattle.gcd_script.proofs.Numbers.{number_in}
use Rattle.gcd_builder.proofs.Places.{same_bytes, bytes_same}
use Rattle.gcd_script.proofs.Reading.{counted_sound, lines_sound}
use Rattle.gcd_script.proofs.RightLines.{line_right, change_sound, empty_sound}
use Rattle.gcd_builder.proofs.Submitted.{any_counts, one_count}
use Rattle.gcd_builder.proofs.Valid.{block_submits}

-- a line whose words are known, and mean something
right_line : (d : DraftView) (bytes first : List ℕ) (words : List (List ℕ)) (line : Line (List ℕ)) → is_printable bytes ≡ true → words_of bytes ≡ first ∷ words → is_skipped (first ∷ words) ≡ false → line_of d (first ∷ words) ≡ Ok line → after_line d bytes ≡ Ok (after line d)
right_line d bytes first words line printed cut kept means =
    let read : line_meant d bytes ≡ Ok (Some line) =
    ap (λ t. cond t (cond (is_skipped (words_of bytes)) (Ok None) (meant Some (line_of d (words_of bytes)))) (Err NoForm)) printed
    ∙ ap (λ ws. cond (is_skipped ws) (Ok None) (meant Some (line_of d ws))) cut
    ∙ ap (λ t. cond t (Ok None) (meant Some (line_of d (first ∷ words)))) kept
    ∙ ap (meant Some) means
    in
    ap (meant (λ right. option_map_or (λ l. after l d) right (counted d))) read

-- ## Names of blocks

name_passes : (c : ℕ) → 48 ≤ c → c ≤ 57 → is_name_byte c ≡ true
name_passes c low high =
    or_right (is_letter c) _ (or_left (leb 48 c && leb c 57) _ (and_from (leb 48 c) (leb c 57) (le-leb 48 c low) (le-leb c 57 high)))

name_formed : (k : ℕ) → k < max_blocks → is_name (big_name k) ≡ true
name_formed k few =
    let short = length-decimal-le 5 k (omega arith) (omega arith) (omega arith) in
    and_from (leb (length (big_name k)) 32) (list_all is_name_byte (decimal k)) (le-leb (length (big_name k)) 32 (omega arith))
    (decimal_pass is_name_byte name_passes k (omega arith))

names_differ : (j k : ℕ) → j < max_blocks → k < max_blocks → j ≢ k → bytes_eq (big_name j) (big_name k) ≡ false
names_differ j k first second other =
    false_from_ne_true (bytes_eq (big_name j) (big_name k))
    (λ same. other (decimal_injective j k (omega arith) (omega arith) (let both = same_bytes (big_name j) (big_name k) same in cc)))

-- what holds of each of the six queues
six : (P : List ℕ → Type 0) → P (codes "s0") → P (codes "s1") → P (codes "s2") → P (codes "s3") → P (codes "c0") → P (codes "c1") → (p : ℕ) → p < 6 → P (big_queue_at p)
six P a b c d e f zero within = a
six P a b c d e f (suc zero) within = b
six P a b c d e f (suc (suc zero)) within = c
six P a b c d e f (suc (suc (suc zero))) within = d
six P a b c d e f (suc (suc (suc (suc zero)))) within = e
six P a b c d e f (suc (suc (suc (suc (suc zero))))) within = f
six P a b c d e f (suc (suc (suc (suc (suc (suc p)))))) within = absurd (omega arith)

-- a block's name is no queue's
no_queue : (k p : ℕ) → p < 6 → bytes_eq (big_name k) (big_queue_at p) ≡ false
no_queue k p within = six (λ q. bytes_eq (big_name k) q ≡ false) refl refl refl refl refl refl p within

-- a queue stays one where blocks change, and its name means the same
queue_kept : (plan : PlanView) (blocks : List BlkView) (q : List ℕ) (o : Obj) → meaning_of (record plan { blocks = blocks }) q ≡ meaning_of plan q → queue plan q ≡ Ok o → queue (record plan { blocks = blocks }) q ≡ Ok o
queue_kept plan blocks q o same is =
    ap (λ m. then_meant (as_object plan is_queue_kind) (option_map_or Ok m (Err UnknownName))) same ∙ is

-- ## The lines that declare blocks

-- after k blocks
record HasBlocks (k : ℕ) (d : DraftView) : Type 0 where
  sound : IsDraft d
  first : d.has_main ≡ false
  file_known : meaning_of d.plan (codes "data") ≡ Some (File 0)
  queues : (p : ℕ) → p < 6 → (o : Obj) × (queue d.plan (big_queue_at p) ≡ Ok o)
  known_blocks : (j : ℕ) → 1 ≤ j → j ≤ k → meaning_of d.plan (big_name j) ≡ Some (Block (record { 0 = j }))
  unknown : (j : ℕ) → k < j → j < max_blocks → meaning_of d.plan (big_name j) ≡ None
  blocks : length d.plan.blocks ≡ k + 1
  acts : act_count d.plan ≡ 0
  idle : (j : ℕ) → count_by (λ (c : Blk). c.0 == j) (submitted_blocks d.plan) ≡ 0

-- the work of block k
abbrev big_work : ℕ → Work
big_work k = record { how = Sum; file = 0; start = big_start k; len = 64 }

abbrev big_line : ℕ → Line (List ℕ)
big_line k = DeclareBlock (big_name k) (Some (big_work k))

abbrev big_args : ℕ → List (List ℕ)
big_args k = big_name k ∷ codes "sum" ∷ codes "data" ∷ decimal (big_start k) ∷ codes "64" ∷ []

sixty_four : number 0 max_file_bytes (codes "64") ≡ Ok 64
unfolding digits
sixty_four = refl

module _ (k : ℕ) (d : DraftView) (has : HasBlocks k d) (few : k + 1 < max_blocks) where
  abbrev j : ℕ
  j = k + 1

  unused : is_unused d.plan (big_name j) ≡ true
  unused =
      and_from (is_name (big_name j)) (not (bytes_eq (big_name j) (codes "main")) && is_none (meaning_of d.plan (big_name j)))
      (name_formed j few)
      (and_from (not (bytes_eq (big_name j) (codes "main"))) (is_none (meaning_of d.plan (big_name j))) refl (ap is_none (has.unknown j (omega arith) few)))

  data_file : file d.plan (codes "data") ≡ Ok 0
  data_file = ap (λ m. then_meant as_file (option_map_or Ok m (Err UnknownName))) has.file_known

  start_is : number 0 max_file_bytes (decimal (big_start j)) ≡ Ok (big_start j)
  start_is = number_in 0 max_file_bytes (decimal (big_start j)) (big_start j) refl (omega arith) (omega arith) (omega arith)

  work_is : work (one_of counts (codes "sum")) (file d.plan (codes "data")) (range (decimal (big_start j)) (codes "64")) ≡ Ok (big_work j)
  work_is =
      let whole = λ (f : Meant ℕ) (s : Meant ℕ) (l : Meant ℕ). work (Ok Sum) f (both s l) in
      ap (λ f. whole f (number 0 max_file_bytes (decimal (big_start j))) (number 0 max_file_bytes (codes "64"))) data_file
      ∙ ap (λ s. whole (Ok 0) s (number 0 max_file_bytes (codes "64"))) start_is
      ∙ ap (λ l. whole (Ok 0) (Ok (big_start j)) l) sixty_four

  form_is : form_of d (codes "block" ∷ big_args j) ≡ Ok (big_line j)
  form_is =
      let made = λ (w : Meant Work). work_line d.plan (big_name j) w in
      ap made work_is
      ∙ ap (λ t. meant (λ (fits, w). DeclareBlock (big_name j) (Some w)) (both (must t BadName) (Ok (big_work j)))) unused

  room : has_room d.plan (big_line j) ≡ true
  room = lt-ltb (length d.plan.blocks) max_blocks (omega (arith, has.blocks))

  block_means : line_of d (codes "block" ∷ big_args j) ≡ Ok (big_line j)
  block_means = ap (then_meant (judged d)) form_is ∙ ap (λ t. cond (not t) (Err PastLimit) (Ok (big_line j))) room

  block_read : after_line d (big_block j) ≡ Ok (after (big_line j) d)
  block_read =
      right_line d (big_block j) (codes "block") (big_args j) (big_line j) (block_prints j (omega arith)) (block_words j (omega arith)) refl block_means

  abbrev made_block : BlkView
  made_block = new_block (big_name j) (Some (big_work j))

  -- what a name means then
  means_now : (q : List ℕ) → meaning_of (with_block made_block d.plan) q ≡ cond (bytes_eq (big_name j) q) (Some (Block (record { 0 = length d.plan.blocks }))) (meaning_of d.plan q)
  means_now q = block_declares d.plan made_block (fit_from d.plan (big_name j) unused) q

  means_other : (q : List ℕ) → bytes_eq (big_name j) q ≡ false → meaning_of (with_block made_block d.plan) q ≡ meaning_of d.plan q
  means_other q other = means_now q ∙ ap (λ t. cond t (Some (Block (record { 0 = length d.plan.blocks }))) (meaning_of d.plan q)) other

  means_own : meaning_of (with_block made_block d.plan) (big_name j) ≡ Some (Block (record { 0 = j }))
  means_own =
      means_now (big_name j)
      ∙ ap (λ t. cond t (Some (Block (record { 0 = length d.plan.blocks }))) (meaning_of d.plan (big_name j))) (bytes_same (big_name j))
      ∙ ap (λ n. Some (Block (record { 0 = n }))) has.blocks

  known_then : (i : ℕ) → 1 ≤ i → i ≤ j → meaning_of (with_block made_block d.plan) (big_name i) ≡ Some (Block (record { 0 = i }))
  known_then i low high =
      ⊎_elim
      (λ (same : i ≡ j). subst (λ n. meaning_of (with_block made_block d.plan) (big_name n) ≡ Some (Block (record { 0 = n }))) (sym same) means_own)
      (λ (other : i ≢ j).
      means_other (big_name i) (names_differ j i few (omega arith) (λ same. other (sym same))) ∙ has.known_blocks i low (grind arith))
      (cases_eq i j)

  block_step : HasBlocks j (after (big_line j) d)
  block_step =
      let submits = block_submits d.plan (big_name j) (Some (big_work j)) in
      let more = length_push d.plan.blocks made_block in
      let acts = sum_by_push (λ (b : BlkView). length b.acts) d.plan.blocks made_block in
      record {
        sound = counted_sound (change (big_line j) d) (change_sound d has.sound (big_line j) (line_right d has.sound (codes "block" ∷ big_args j) (big_line j) block_means));
        first = has.first;
        file_known = means_other (codes "data") refl ∙ has.file_known;
        queues = λ p within.
            let is = has.queues p within in
            (is.0, queue_kept d.plan (d.plan.blocks ++ made_block ∷ []) (big_queue_at p) is.0 (means_other (big_queue_at p) (no_queue j p within)) is.1);
        known_blocks = known_then;
        unknown = λ i above below. means_other (big_name i) (names_differ j i few below (λ same. omega arith)) ∙ has.unknown i (omega arith) below;
        blocks = omega (arith, has.blocks);
        acts = omega (arith, has.acts);
        idle = λ i. ap (count_by (λ (c : Blk). c.0 == i)) submits ∙ has.idle i;
      }

-- m blocks more
blocks_run : (m k : ℕ) (d : DraftView) → HasBlocks k d → k + m < max_blocks → (rest : List (List ℕ)) → (e : DraftView) × HasBlocks (k + m) e × (draft_after d (map big_block (range_with_len (k + 1) m) ++ rest) ≡ draft_after e rest)
blocks_run zero k d has few rest = (d, subst (λ n. HasBlocks n d) (sym (add-zero k)) has, refl)
blocks_run (suc m) k d has few rest =
    let small : k + 1 < max_blocks = omega arith in
    let step = block_step k d has small in
    let later = blocks_run m (k + 1) (after (big_line (k + 1)) d) step (omega arith) rest in
    let all : k + 1 + m ≡ k + suc m = omega arith in (
      later.0,
      subst (λ n. HasBlocks n later.0) all later.1,
      ap (going_on (d.lines + 1) (λ next. draft_after next (map big_block (range_with_len (k + 1 + 1) m) ++ rest))) (block_read k d has small) ∙ later.2,
    )

-- ## The lines that submit blocks

-- with n blocks, after a acts
record HasActs (n a : ℕ) (d : DraftView) : Type 0 where
  sound : IsDraft d
  main : d.has_main ≡ true
  body : d.body ≡ Some (run.Block (record { 0 = 0 }))
  queues : (p : ℕ) → p < 6 → (o : Obj) × (queue d.plan (big_queue_at p) ≡ Ok o)
  known_blocks : (j : ℕ) → 1 ≤ j → j ≤ n → meaning_of d.plan (big_name j) ≡ Some (Block (record { 0 = j }))
  acts : act_count d.plan ≡ a
  idle : (j : ℕ) → a < j → count_by (λ (c : Blk). c.0 == j) (submitted_blocks d.plan) ≡ 0

-- `main` after the blocks
main_step : (n : ℕ) (d : DraftView) → HasBlocks n d → HasActs n 0 (after OpenMain d) × (after_line d (codes "main") ≡ Ok (after OpenMain d))
main_step n d has =
    let form : form_of d (codes "main" ∷ []) ≡ Ok OpenMain = ap (λ t. cond t (Err NotOneMain) (Ok OpenMain)) has.first in
    let means : line_of d (codes "main" ∷ []) ≡ Ok OpenMain = ap (then_meant (judged d)) form in (
      record {
        sound = counted_sound (change OpenMain d) (change_sound d has.sound OpenMain (line_right d has.sound (codes "main" ∷ []) OpenMain means));
        main = refl;
        body = refl;
        queues = has.queues;
        known_blocks = has.known_blocks;
        acts = has.acts;
        idle = λ j above. has.idle j;
      },
      right_line d (codes "main") (codes "main") [] OpenMain refl refl refl means,
    )

-- a first word of such an act, with the act that it makes
record IsVerb (verb : List ℕ) (make : Obj → Blk → Act) : Type 0 where
  prints : is_printable (verb ++ 32 ∷ []) ≡ true
  solid : list_all is_solid verb ≡ true
  some : (length verb == 0) ≡ false
  kept : (words : List (List ℕ)) → is_skipped (verb ∷ words) ≡ false
  form : (d : DraftView) (q name : List ℕ) → form_of d (verb ∷ q ∷ name ∷ []) ≡ act_line d.body (meant (λ (o, c). make o c) (both (queue d.plan q) (block d.plan name)))
  submits : (o : Obj) (c : Blk) → block_of (make o c) ≡ Some c
  applies : (o : Obj) (c : Blk) → strip_of (make o c) ≡ None

async_verb : IsVerb (codes "async") Async
async_verb = record { prints = refl; solid = refl; some = refl; kept = λ words. refl; form = λ d q name. refl; submits = λ o c. refl; applies = λ o c. refl }

barrier_verb : IsVerb (codes "barrier") Barrier
barrier_verb = record { prints = refl; solid = refl; some = refl; kept = λ words. refl; form = λ d q name. refl; submits = λ o c. refl; applies = λ o c. refl }

module _ (n a : ℕ) (d : DraftView) (has : HasActs n a d) (room : a < n) (few : n < max_blocks) (verb : List ℕ) (make : Obj → Blk → Act) (is : IsVerb verb make) where
  abbrev i : ℕ
  i = a + 1

  abbrev place : ℕ
  place = i % 6

  q_is : (o : Obj) × (queue d.plan (big_queue i) ≡ Ok o)
  q_is = has.queues place (omega arith)

  abbrev act : Act
  act = make q_is.0 (record { 0 = i })

  abbrev own_line : Line (List ℕ)
  own_line = AddAct (run.Block (record { 0 = 0 })) act

  block_is : block d.plan (big_name i) ≡ Ok (record { 0 = i })
  block_is = ap (λ m. then_meant as_block (option_map_or Ok m (Err UnknownName))) (has.known_blocks i (omega arith) (omega arith))

  act_form : form_of d (verb ∷ big_queue i ∷ big_name i ∷ []) ≡ Ok own_line
  act_form =
      let made = λ (r : Meant Run) (q : Meant Obj) (b : Meant Blk). meant {B = Line (List ℕ)} (λ (s, x). AddAct s x) (both r (meant (λ (o, c). make o c) (both q b))) in
      is.form d (big_queue i) (big_name i)
      ∙ ap (λ r. made (option_map_or Ok r (Err NoForm)) (queue d.plan (big_queue i)) (block d.plan (big_name i))) has.body
      ∙ ap (λ q. made (Ok (run.Block (record { 0 = 0 }))) q (block d.plan (big_name i))) q_is.1
      ∙ ap (λ b. made (Ok (run.Block (record { 0 = 0 }))) (Ok q_is.0) b) block_is

  free : is_free d.plan (record { 0 = i }) ≡ true
  free = ap not (any_counts (λ (c : Blk). c.0 == i) (submitted_blocks d.plan) ∙ ap (ltb 0) (has.idle i (omega arith)))

  untaken : is_untaken d own_line ≡ true
  untaken =
      and_from (option_map_or (is_free d.plan) (block_of act) true) (option_map_or (is_unapplied d.plan) (strip_of act) true)
      (ap (λ o. option_map_or (is_free d.plan) o true) (is.submits q_is.0 (record { 0 = i })) ∙ free)
      (ap (λ o. option_map_or (is_unapplied d.plan) o true) (is.applies q_is.0 (record { 0 = i })))

  act_room : has_room d.plan own_line ≡ true
  act_room = lt-ltb (act_count d.plan) max_acts (omega (arith, has.acts))

  act_means : line_of d (verb ∷ big_queue i ∷ big_name i ∷ []) ≡ Ok own_line
  act_means =
      ap (then_meant (judged d)) act_form
      ∙ ap (λ t. cond (not t) (Err Repeated) (cond (not (has_room d.plan own_line)) (Err PastLimit) (Ok own_line))) untaken
      ∙ ap (λ t. cond (not t) (Err PastLimit) (Ok own_line)) act_room

  text_prints : is_printable (verb ++ 32 ∷ (big_queue i ++ 32 ∷ big_name i)) ≡ true
  text_prints =
      ap is_printable (sym (append_assoc verb (32 ∷ []) (big_queue i ++ 32 ∷ big_name i)))
      ∙ joined_prints (verb ++ 32 ∷ []) (big_queue i ++ 32 ∷ big_name i) is.prints
      (joined_prints (big_queue i) (32 ∷ big_name i) (six (λ q. is_printable q ≡ true) refl refl refl refl refl refl place (omega arith)) (name_prints i (omega arith)))

  act_read : after_line d (verb ++ 32 ∷ (big_queue i ++ 32 ∷ big_name i)) ≡ Ok (after own_line d)
  act_read =
      right_line d (verb ++ 32 ∷ (big_queue i ++ 32 ∷ big_name i)) verb (big_queue i ∷ big_name i ∷ []) own_line text_prints
      (act_words verb (big_queue i) i (omega arith) is.solid is.some
      (six (λ q. list_all is_solid q ≡ true) refl refl refl refl refl refl place (omega arith))
      (six (λ q. (length q == 0) ≡ false) refl refl refl refl refl refl place (omega arith)))
      (is.kept (big_queue i ∷ big_name i ∷ [])) act_means

  main_inside : 0 < length d.plan.blocks
  main_inside =
      let inside : IsBody d.plan (run.Block (record { 0 = 0 })) = subst (λ o. IfSome o (IsBody d.plan)) has.body has.sound.body in
      inside.0

  main_at : (b : BlkView) × (slice_get d.plan.blocks 0 ≡ Some b)
  main_at = slice_get_some d.plan.blocks 0 main_inside

  abbrev new : PlanView
  new = block_acts.new d.plan has.sound.valid (record { 0 = 0 }) main_at.0 main_at.1 act

  new_is : with_act act (run.Block (record { 0 = 0 })) d.plan ≡ new
  new_is = block_acts.is_new d.plan has.sound.valid (record { 0 = 0 }) main_at.0 main_at.1 act

  same_names : (name : List ℕ) → meaning_of new name ≡ meaning_of d.plan name
  same_names name =
      sym (same_meanings d.plan new refl refl refl (sym (block_acts.same_map d.plan has.sound.valid (record { 0 = 0 }) main_at.0 main_at.1 act (λ blk. blk.name) refl)) name)

  new_sound : IsDraft (counted (record d { plan = new }))
  new_sound =
      subst (λ p. IsDraft (counted (record d { plan = p }))) new_is
      (counted_sound (change own_line d) (change_sound d has.sound own_line (line_right d has.sound (verb ∷ big_queue i ∷ big_name i ∷ []) own_line act_means)))

  new_idle : (j : ℕ) → i < j → count_by (λ (c : Blk). c.0 == j) (submitted_blocks new) ≡ 0
  new_idle j above =
      let more = block_acts.submitted d.plan has.sound.valid (record { 0 = 0 }) main_at.0 main_at.1 act j in
      let own =
      ap (λ o. count_by (λ (c : Blk). c.0 == j) (option_to_list o ++ option_map_or (strip_blocks d.plan) (strip_of act) [])) (is.submits q_is.0 (record { 0 = i }))
      ∙ ap (λ t. count_by (λ (c : Blk). c.0 == j) (option_to_list (Some (record { 0 = i })) ++ option_map_or (strip_blocks d.plan) t [])) (is.applies q_is.0 (record { 0 = i }))
      in
      let one = one_count (record { 0 = i }) j in
      let other : ◌≡◌ {A = ℕ} (cond (i == j) 1 0) 0 = ap (λ t. cond t 1 0) (ne_eqb i j (λ same. omega arith)) in
      let before = has.idle j (omega arith) in
      omega arith

  has_new : HasActs n i (counted (record d { plan = new }))
  has_new = record {
    sound = new_sound;
    main = has.main;
    body = has.body;
    queues = λ p within. let known = has.queues p within in (known.0, queue_kept d.plan new.blocks (big_queue_at p) known.0 (same_names (big_queue_at p)) known.1);
    known_blocks = λ j low high. same_names (big_name j) ∙ has.known_blocks j low high;
    acts = let more = block_acts.more_acts d.plan has.sound.valid (record { 0 = 0 }) main_at.0 main_at.1 act in omega (arith, has.acts);
    idle = new_idle;
  }

  act_step : HasActs n i (after own_line d) × (after_line d (verb ++ 32 ∷ (big_queue i ++ 32 ∷ big_name i)) ≡ Ok (after own_line d))
  act_step = (subst (λ p. HasActs n i (counted (record d { plan = p }))) (sym new_is) has_new, act_read)

-- one act more, whichever first word it has
any_step : (n a : ℕ) (d : DraftView) → HasActs n a d → a < n → n < max_blocks → (e : DraftView) × HasActs n (a + 1) e × (after_line d (big_act (a + 1)) ≡ Ok e)
any_step n a d has room few =
    elim ((a + 1) % 16 == 0) as (λ t. (e : DraftView) × HasActs n (a + 1) e × (after_line d (cond t (codes "barrier ") (codes "async ") ++ (big_queue (a + 1) ++ (codes " " ++ big_name (a + 1)))) ≡ Ok e)) [
      | true ↦ let step = act_step n a d has room few (codes "barrier") Barrier barrier_verb in (_, step.0, step.1)
      | false ↦ let step = act_step n a d has room few (codes "async") Async async_verb in (_, step.0, step.1)
    ]

-- m acts more
acts_run : (m n a : ℕ) (d : DraftView) → HasActs n a d → a + m ≤ n → n < max_blocks → (e : DraftView) × HasActs n (a + m) e × (draft_after d (map big_act (range_with_len (a + 1) m)) ≡ Ok e)
acts_run zero n a d has room few = (d, subst (λ k. HasActs n k d) (sym (add-zero a)) has, refl)
acts_run (suc m) n a d has room few =
    let step = any_step n a d has (omega arith) few in
    let later = acts_run m n (a + 1) step.0 step.1 (omega arith) few in
    let all : a + 1 + m ≡ a + suc m = omega arith in (
      later.0,
      subst (λ k. HasActs n k later.0) all later.1,
      ap (going_on (d.lines + 1) (λ next. draft_after next (map big_act (range_with_len (a + 1 + 1) m)))) step.2 ∙ later.2,
    )

-- ## The whole

-- the lines before the blocks are right
head_draft : DraftView
head_draft = record {
  lines = 7;
  plan = record {
    objects = root_view
        ∷ record { name = codes "s0"; kind = Serial; target = record { 0 = 0 }; active = true; path = []; handler = []; cancel = None }
        ∷ record { name = codes "s1"; kind = Serial; target = record { 0 = 0 }; active = true; path = []; handler = []; cancel = None }
        ∷ record { name = codes "s2"; kind = Serial; target = record { 0 = 1 }; active = true; path = []; handler = []; cancel = None }
        ∷ record { name = codes "s3"; kind = Serial; target = record { 0 = 2 }; active = true; path = []; handler = []; cancel = None }
        ∷ record { name = codes "c0"; kind = Concurrent; target = record { 0 = 0 }; active = true; path = []; handler = []; cancel = None }
        ∷ record { name = codes "c1"; kind = Concurrent; target = record { 0 = 1 }; active = true; path = []; handler = []; cancel = None }
        ∷ [];
    blocks = new_block (codes "main") None ∷ [];
    files = record { name = codes "data"; path = codes "data"; line = 1 } ∷ [];
    until = 1000;
    intake = None;
    strips = [];
  };
  body = None;
  has_main = false;
  has_until = false;
  handlers = false ∷ false ∷ false ∷ false ∷ false ∷ false ∷ false ∷ [];
}

head_read : (rest : List (List ℕ)) → draft_after empty_draft (big_head ++ rest) ≡ draft_after head_draft rest
unfolding head_draft meaning_of
head_read rest = refl

head_has : HasBlocks 0 head_draft
unfolding head_draft meaning_of
head_has = record {
  sound = lines_sound big_head empty_draft head_draft empty_sound refl;
  first = refl;
  file_known = refl;
  queues = six (λ q. (o : Obj) × (queue head_draft.plan q ≡ Ok o)) (record { 0 = 1 }, refl) (record { 0 = 2 }, refl) (record { 0 = 3 }, refl) (record { 0 = 4 }, refl) (record { 0 = 5 }, refl) (record { 0 = 6 }, refl);
  known_blocks = λ j low high. absurd (omega arith);
  unknown = λ j above below. ap (λ t. cond (t && true) (meaning_among head_draft.plan (big_name j)) None) (name_formed j below);
  blocks = refl;
  acts = refl;
  idle = λ j. refl;
}

-- all lines are read, and `main` is among them
lines_read : (n : ℕ) → n < max_blocks → (e : DraftView) × (e.has_main ≡ true) × (draft_after empty_draft (big_lines n) ≡ Ok e)
lines_read n few =
    let acts = map big_act (range_with_len 1 n) in
    let blocks = blocks_run n 0 head_draft head_has (omega arith) (codes "main" ∷ acts) in
    let has : HasBlocks n blocks.0 = subst (λ k. HasBlocks k blocks.0) (zero-add n) blocks.1 in
    let main = main_step n blocks.0 has in
    let last = acts_run n n 0 (after OpenMain blocks.0) main.0 (omega arith) few in (
      last.0,
      last.1.main,
      head_read (map big_block (range_with_len 1 n) ++ codes "main" ∷ acts)
          ∙ blocks.2
          ∙ ap (going_on (blocks.0.lines + 1) (λ next. draft_after next acts)) main.1
          ∙ last.2,
    )

-- each line prints
some_print : (f : ℕ → List ℕ) (m k : ℕ) (rest : List (List ℕ)) → ((j : ℕ) → j < k + m → is_printable (f j) ≡ true) → AllPrint rest → AllPrint (map f (range_with_len k m) ++ rest)
some_print f zero k rest prints more = more
some_print f (suc m) k rest prints more = (prints k (omega arith), some_print f m (k + 1) rest (λ j below. prints j (omega arith)) more)

act_prints : (k : ℕ) → k < 2 ^ 64 → is_printable (big_act k) ≡ true
act_prints k small =
    let last = joined_prints (big_queue k) (codes " " ++ big_name k) (six (λ q. is_printable q ≡ true) refl refl refl refl refl refl (k % 6) (omega arith)) (name_prints k small) in
    elim (k % 16 == 0) as (λ t. is_printable (cond t (codes "barrier ") (codes "async ") ++ (big_queue k ++ (codes " " ++ big_name k))) ≡ true) [
      | true ↦ joined_prints (codes "barrier ") (big_queue k ++ (codes " " ++ big_name k)) refl last
      | false ↦ joined_prints (codes "async ") (big_queue k ++ (codes " " ++ big_name k)) refl last
    ]

big_prints : (n : ℕ) → n < max_blocks → AllPrint (big_lines n)
big_prints n few =
    let acts = subst AllPrint (append-nil (map big_act (range_with_len 1 n))) (some_print big_act n 1 [] (λ j below. act_prints j (omega arith)) tt) in
    (refl, (refl, (refl, (refl, (refl, (refl, (refl, some_print big_block n 1 (codes "main" ∷ map big_act (range_with_len 1 n)) (λ j below. block_prints j (omega arith)) (refl, acts))))))))

-- the fault that a reading tells
abbrev told : Result PlanView (ℕ × Refusal) → Option (ℕ × ℕ)
told r = option_map (λ (fault : ℕ × Refusal). (fault.0, refusal_code fault.1)) (result_err r)

-- so the text is a script
pub big_is_script : (n : ℕ) → n < max_blocks → fault_of (big_script n) ≡ None
big_is_script n few =
    let read = lines_read n few in
    let lines = lines_again (big_lines n) (big_prints n few) in
    ap (λ ls. told (ended (draft_after empty_draft ls))) lines
    ∙ ap (λ r. told (ended r)) read.2
    ∙ ap (λ t. told (cond t (Ok read.0.plan) (Err (read.0.lines + 1, NotOneMain)))) read.1
