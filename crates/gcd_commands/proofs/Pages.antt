-- Each lawful run of a valid plan keeps the pages of strips and block objects.
use Rattle.std.proofs.Common.{◌≡◌, ℕ, zero, suc, ◌+◌, ◌<◌, leb, ltb, Bool, true, List, [], ◌∷◌, map, take, drop, Some, None, is_some, refl, ap, sym, ◌∙◌, subst, arith}
use Rattle.std.specs.List.{All, slice_get, list_any, range_with_len}
use Rattle.std.specs.Option.{option_map, option_map_or, option_and_then}
use Rattle.std.proofs.lemmas.Bool.{and_from, or_right, le-leb, lt-ltb}
use Rattle.std.proofs.lemmas.List.FromFn.{length-map-range_with_len}
use Rattle.std.proofs.lemmas.Option.{same_Some, slice_get-map, slice_get_within, get_or_from_slice_get}
use Rattle.gcd_facts.proofs.Lists.{any_taken}
use Rattle.gcd_plan.specs.Made.{is_within, is_made, strip_block, strip_blocks, strip_span, blocks_in}
use Rattle.gcd_plan.specs.PlanView.{PlanView, BlkView, StripView, work_of}
use Rattle.gcd_plan.specs.Validity.{IsPlan}
use Rattle.gcd_plan.specs.declared.numbers.Blk.{Blk}
use Rattle.gcd_plan.proofs.Sums.{list_any-from_count_by}
use Rattle.gcd_plan.proofs.Spans.{made_of_strip}
use Rattle.gcd_event.specs.declared.event.Event.{Event}
use Rattle.gcd_history.specs.History.{IsLawful, is_ended}
use Rattle.gcd_history.specs.Laws.{RunsBetween}
use Rattle.gcd_history.specs.Runs.{ends}
use Rattle.gcd_history.specs.Values.{value_of}
use Rattle.gcd_history.proofs.Lists.{list_any-reverse}
use Rattle.gcd_history.proofs.Public.BlockLaws.{applied_strips_have_run, cancelled_blocks_do_nothing, cancelled_blocks_may_end, notified_once}
use Rattle.gcd_history.proofs.Blocks.Uncancelled.{uncancelled}
use Rattle.gcd_journal.proofs.PlainNames.{block_at, get_made}
use Rattle.gcd_outer.specs.Outside.{Bytes}
use Rattle.gcd_commands.specs.Pages.{KeepsPages, StripsAreTold}

-- ## A block that has run in between has ended

any_drop : {A : Type 0} (p : A → Bool) (n : ℕ) (xs : List A) → list_any p (drop n xs) ≡ true → list_any p xs ≡ true
any_drop p zero xs h = h
any_drop p (suc n) [] h = h
any_drop p (suc n) (x ∷ xs) h = or_right (p x) (list_any p xs) (any_drop p n xs h)

ended_between : (h : List Event) (from to : ℕ) (b : Blk) → RunsBetween h from to b → is_ended h b.0 ≡ true
unfolding is_ended
ended_between h from to b runs =
    let once = runs.ends_once in
    list_any-reverse (ends b.0) h
    ∙ any_taken (ends b.0) to h (any_drop (ends b.0) from (take to h) (list_any-from_count_by (ends b.0) (drop from (take to h)) (omega (arith, once))))

-- what holds of each holds of the one at a place
all_get : {A : Type 0} (P : A → Type 0) (xs : List A) (i : ℕ) (x : A) → All P xs → slice_get xs i ≡ Some x → P x
all_get P xs i x all at = subst P (get_or_from_slice_get xs i x x at) (all i x (slice_get_within xs i x at))

-- ## The blocks of a strip

-- the block at index i of a strip: the plan has it, makes it, and gives it a work
pub record IsStripBlock (plan : PlanView) (b : Blk) : Type 0 where
  pub made : is_made plan b.0 ≡ true
  pub works : is_some (work_of plan b.0) ≡ true

blocks_from : ℕ → ℕ → List Blk
blocks_from first count = map (λ n. record { 0 = n }) (range_with_len first count)

-- the block at a place of numbers that follow one another
number_at : (first count i : ℕ) (b : Blk) → slice_get (blocks_from first count) i ≡ Some b → (i < count) × (record { 0 = first + i } ≡ b)
unfolding blocks_from
number_at first count i b at =
    let made : ℕ → Blk = λ n. record { 0 = n } in
    let within = slice_get_within (map made (range_with_len first count)) i b at in
    let long = length-map-range_with_len made first count in
    let short : i < count = omega (arith, within, long) in
    (short, same_Some _ _ (sym (get_made made first count i short) ∙ at))

module _ (plan : PlanView) (valid : IsPlan plan) where
  -- a number of a strip's span
  strip_number : (a : ℕ) (s : StripView) (b : ℕ) → slice_get plan.strips a ≡ Some s → is_within b (strip_span s) ≡ true → IsStripBlock plan (record { 0 = b })
  strip_number a s b at within =
      let is = valid.strips a s at in
      record {
        made = made_of_strip plan a s at b within;
        works = ap (λ o. is_some (option_and_then (λ (c : BlkView). c.work) o)) (block_at plan (strip_span s) (strip_block s) 0 b within is.blocks);
      }

  -- the blocks of a strip are such
  strip_block_is : (a i : ℕ) (b : Blk) → slice_get (strip_blocks plan a) i ≡ Some b → IsStripBlock plan b
  unfolding blocks_from
  strip_block_is a i b at =
      elim (slice_get plan.strips a) as (λ o. slice_get plan.strips a ≡ o → slice_get (option_map_or (λ s. blocks_in (strip_span s)) o []) i ≡ Some b → IsStripBlock plan b) [
        | None ↦ λ none k. cc
        | Some s ↦ λ some k.
            let found = number_at s.first s.count i b k in
            let n = s.first + i in
            let within = and_from (leb s.first n) (ltb n (s.first + s.count)) (le-leb s.first n (omega arith)) (lt-ltb n (s.first + s.count) (omega (arith, found.0))) in
            subst (IsStripBlock plan) found.1 (strip_number a s n some within)
      ] refl at

-- ## The clauses

strips_are_told : (plan : PlanView) (contents : List Bytes) (h : List Event) → IsPlan plan → IsLawful plan h → StripsAreTold plan contents h
strips_are_told plan contents h valid lawful a i value b applied at told =
    let ran = applied_strips_have_run plan h valid lawful applied.act_place applied.wake_place applied.worker applied.waker applied.index a applied.caller applied.queue
    applied.act applied.applies applied.wake applied.after in
    let ended = ended_between h applied.act_place applied.wake_place b (all_get (RunsBetween h applied.act_place applied.wake_place) (strip_blocks plan a) i b ran at) in
    let block = strip_block_is plan valid a i b at in
    let same : value_of plan contents b.0 ≡ value =
    same_Some _ _ (sym (slice_get-map (λ (c : Blk). value_of plan contents c.0) (strip_blocks plan a) i ∙ ap (option_map (λ (c : Blk). value_of plan contents c.0)) at) ∙ told) in
    rw (block.works, ended, uncancelled plan h b.0 valid block.made, same) refl

pub pages_kept : (plan : PlanView) (contents : List Bytes) (h : List Event) → IsPlan plan → IsLawful plan h → KeepsPages plan contents h
pages_kept plan contents h valid lawful = record {
  strips_run = applied_strips_have_run plan h valid lawful;
  strips_told = strips_are_told plan contents h valid lawful;
  cancelled_idle = cancelled_blocks_do_nothing plan h lawful;
  cancelled_end = cancelled_blocks_may_end plan h;
  notified_once = notified_once plan h valid lawful;
}
