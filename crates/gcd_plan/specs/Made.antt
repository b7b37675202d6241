-- The blocks that a plan makes for its intake and its strips: their numbers, names and works (this project's own rule, where a
-- definition names no page).
use Rattle.std.specs.Prelude.{ℕ, ◌+◌, ◌*◌, ◌&&◌, nat_le, nat_lt, Bool, false, List, [], ◌++◌, map, min, Some, None, slice_get, option_to_list, codes, decimal}
use Rattle.std.specs.Option.{option_map_or}
use Rattle.std.specs.List.{list_any, range_with_len}
use Rattle.gcd_plan.specs.Limits.{max_file_bytes}
use Rattle.gcd_plan.specs.PlanView.{PlanView, BlkView, IntakeView, StripView}
use Rattle.gcd_plan.specs.declared.numbers.Blk.{Blk}
use Rattle.gcd_plan.specs.declared.work.Work.{Work}

-- numbers that follow one another: the first, and how many there are
pub record Span : Type 0 where
  pub first : ℕ
  pub count : ℕ

-- the number is one of them
abbrev pub is_within : ℕ → Span → Bool
is_within b span = nat_le span.first b && nat_lt b (span.first + span.count)

-- the blocks of these numbers, in order
abbrev pub blocks_in : Span → List Blk
blocks_in span = map (λ b. record { 0 = b }) (range_with_len span.first span.count)

-- where the blocks of the intake stand, and those of a strip
abbrev pub intake_span : IntakeView → Span
intake_span i = record { first = i.first; count = i.count }

abbrev pub strip_span : StripView → Span
strip_span s = record { first = s.first; count = s.count }

-- all of these
abbrev pub spans : PlanView → List Span
spans plan = map intake_span (option_to_list plan.intake) ++ map strip_span plan.strips

-- block b is of the intake, or of a strip
abbrev pub is_made : PlanView → ℕ → Bool
is_made plan b = list_any (is_within b) (spans plan)

-- block b is of the intake
abbrev pub is_of_intake : PlanView → ℕ → Bool
is_of_intake plan b = option_map_or (λ i. is_within b (intake_span i)) plan.intake false

-- block b is of strip a
abbrev pub is_of_strip : PlanView → (a b : ℕ) → Bool
is_of_strip plan a b = option_map_or (λ s. is_within b (strip_span s)) (slice_get plan.strips a) false

-- the blocks of the intake, in order
abbrev pub intake_blocks : PlanView → List Blk
intake_blocks plan = option_map_or (λ i. blocks_in (intake_span i)) plan.intake []

-- the blocks of strip a, in order (dispatch_apply(3))
abbrev pub strip_blocks : PlanView → ℕ → List Blk
strip_blocks plan a = option_map_or (λ s. blocks_in (strip_span s)) (slice_get plan.strips a) []

-- the k-th block of an intake, from 1: it is named `+k`, and has neither acts nor work
abbrev pub intake_block : (k : ℕ) → BlkView
intake_block k = record { name = codes "+" ++ decimal k; acts = []; work = None }

-- the work of the i-th block of a strip, from 0: it counts the i-th part of the file
abbrev pub strip_work : StripView → (i : ℕ) → Work
strip_work s i = record { how = s.how; file = s.file; start = min (s.len * i) max_file_bytes; len = s.len }

-- the i-th block of a strip, from 0: it is named `A.i`, and counts the i-th part of the file (dispatch_apply(3))
abbrev pub strip_block : StripView → (i : ℕ) → BlkView
strip_block s i = record { name = s.name ++ (codes "." ++ decimal i); acts = []; work = Some (strip_work s i) }

-- the blocks of an intake, and of a strip, as the plan has them
abbrev pub made_by_intake : IntakeView → List BlkView
made_by_intake i = map intake_block (range_with_len 1 i.count)

abbrev pub made_by_strip : StripView → List BlkView
made_by_strip s = map (strip_block s) (range_with_len 0 s.count)
