-- The intake and the strips of a plan stay as they are where the plan grows and their blocks stand.
use Rattle.std.proofs.Common.{ℕ, ◌≡◌, ◌+◌, true, ◌&&◌, ltb, leb, length, take, drop, map, Option, Some, None, IfSome, slice_get, refl, arith}
use Rattle.std.specs.List.{range_with_len}
use Rattle.std.proofs.lemmas.Bool.{and_from, le-leb}
use Rattle.gcd_plan.specs.Kinds.{is_queue, is_queue_kind}
use Rattle.gcd_plan.specs.Limits.{max_intake, max_file_bytes}
use Rattle.gcd_plan.specs.Made.{Span, is_within, is_made, intake_span, strip_span, intake_block, strip_block}
use Rattle.gcd_plan.specs.PlanView.{PlanView, BlkView, IntakeView, StripView}
use Rattle.gcd_plan.specs.Validity.{IsIntake, IsStrip, is_among_blocks, is_strip_how}
use Rattle.gcd_plan.proofs.MadeBlocks.{at_place, placed, within_from}
use Rattle.gcd_plan.proofs.Spans.{among_from, made_of_intake, made_of_strip}
use Rattle.gcd_builder.proofs.Growth.{Grows, and_map, below_more, has_kind_grows}

module _ (old new : PlanView) (grows : Grows old new) (same : (b : ℕ) (block : BlkView) → is_made old b ≡ true → slice_get old.blocks b ≡ Some block → slice_get new.blocks b ≡ Some block) where
  among_kept : (span : Span) → is_among_blocks old span ≡ true → is_among_blocks new span ≡ true
  among_kept span h =
      let among = among_from old span h in
      and_from (leb 1 span.first) (leb (span.first + span.count) (length new.blocks)) (le-leb 1 span.first among.0)
      (le-leb (span.first + span.count) (length new.blocks) (omega (arith, among.1, grows.blocks)))

  blocks_kept : (span : Span) (a : ℕ) (make : ℕ → BlkView) → is_among_blocks old span ≡ true → ((b : ℕ) → is_within b span ≡ true → is_made old b ≡ true)
      → take span.count (drop span.first old.blocks) ≡ map make (range_with_len a span.count)
      → take span.count (drop span.first new.blocks) ≡ map make (range_with_len a span.count)
  blocks_kept span a make h made stands =
      let among = among_from old span h in
      placed new.blocks span.first span.count a make (omega (arith, among.1, grows.blocks))
      (λ k j below is.
      same (span.first + k) (make j) (made (span.first + k) (within_from (span.first + k) span (omega arith) (omega (arith, below))))
      (at_place old.blocks span.first span.count a make among.1 stands k j below is))

  intake_kept : (i : IntakeView) → old.intake ≡ Some i → IsIntake old i → IsIntake new i
  intake_kept i is fits = record {
    fits = and_map (is_queue old i.queue.0) (leb 1 i.count && leb i.count max_intake) (is_queue new i.queue.0) (leb 1 i.count && leb i.count max_intake) (has_kind_grows old new grows is_queue_kind i.queue.0) (λ h. h) fits.fits;
    among = among_kept (intake_span i) fits.among;
    blocks = blocks_kept (intake_span i) 1 intake_block fits.among (made_of_intake old i is) fits.blocks;
  }

  strip_kept : (a : ℕ) (s : StripView) → slice_get old.strips a ≡ Some s → IsStrip old s → IsStrip new s
  strip_kept a s is fits =
      let rest = leb 1 s.len && leb s.len max_file_bytes in
      record {
        fits = and_map (is_strip_how s.how) (ltb s.file (length old.files) && rest) (is_strip_how s.how) (ltb s.file (length new.files) && rest) (λ h. h) (and_map (ltb s.file (length old.files)) rest (ltb s.file (length new.files)) rest (below_more s.file (length old.files) (length new.files) grows.files) (λ h. h)) fits.fits;
        among = among_kept (strip_span s) fits.among;
        blocks = blocks_kept (strip_span s) 0 (strip_block s) fits.among (made_of_strip old a s is) fits.blocks;
      }

  some_kept : (o : Option IntakeView) → old.intake ≡ o → IfSome o (IsIntake old) → IfSome o (IsIntake new)
  some_kept None is fits = tt
  some_kept (Some i) is fits = intake_kept i is fits

  pub intake_stays : IfSome old.intake (IsIntake old) → IfSome old.intake (IsIntake new)
  intake_stays = some_kept old.intake refl

  pub strips_stay : ((a : ℕ) (s : StripView) → slice_get old.strips a ≡ Some s → IsStrip old s) → (a : ℕ) (s : StripView) → slice_get old.strips a ≡ Some s → IsStrip new s
  strips_stay fit a s is = strip_kept a s is (fit a s is)
