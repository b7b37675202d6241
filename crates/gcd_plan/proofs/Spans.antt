-- The blocks of the intake and of the strips in a plan: they are among the plan's, and are as these make them.
use Rattle.std.proofs.Common.{◌≡◌, ℕ, suc, ◌+◌, ◌-◌, ◌<◌, ◌≤◌, Bool, true, false, cond, nat_le, List, [], ◌∷◌, length, map, Option, None, Some, IfSome, refl, ap, sym, ◌∙◌, subst, ⊎_elim, arith}
use Rattle.std.specs.List.{count_by, list_any, slice_get}
use Rattle.std.specs.Option.{option_to_list}
use Rattle.std.proofs.Math.Bool.{or-false}
use Rattle.std.proofs.lemmas.Bool.{and_parts, leb-true, or_cases, or_left, or_right}
use Rattle.std.proofs.lemmas.List.Folds.{list_any-append}
use Rattle.std.proofs.lemmas.Option.{same_Some}
use Rattle.std.proofs.lemmas.Map.Keys.{any_passes_from_place}
use Rattle.gcd_plan.specs.Made.{Span, is_within, spans, is_made, intake_span, strip_span, intake_block, strip_block}
use Rattle.gcd_plan.specs.PlanView.{PlanView, BlkView, IntakeView, StripView}
use Rattle.gcd_plan.specs.Validity.{IsPlan, IsIntake, IsStrip, is_among_blocks}
use Rattle.gcd_plan.proofs.MadeBlocks.{any_mapped, at_place, within_parts, without}
use Rattle.gcd_plan.proofs.Sums.{count_by-append, count_by-cons}

-- a span among the blocks of the plan begins behind main, and ends where these end at the latest
pub among_from : (plan : PlanView) (span : Span) → is_among_blocks plan span ≡ true → (1 ≤ span.first) × (span.first + span.count ≤ length plan.blocks)
among_from plan span is =
    let parts = and_parts (nat_le 1 span.first) (nat_le (span.first + span.count) (length plan.blocks)) is in
    (leb-true _ _ parts.0, leb-true _ _ parts.1)

-- and has no block past them
past : (plan : PlanView) (span : Span) → is_among_blocks plan span ≡ true → (b : ℕ) → length plan.blocks ≤ b → is_within b span ≡ false
past plan span is b beyond = let among = among_from plan span is in without b span (λ low high. absurd (omega (arith, among.1, high, beyond)))

counted_out : (b : ℕ) (span : Span) (rest : List Span) → is_within b span ≡ false → count_by (is_within b) rest ≡ 0 → count_by (is_within b) (span ∷ rest) ≡ 0
counted_out b span rest out none =
    let step = count_by-cons (is_within b) span rest in
    let own : ◌≡◌ {A = ℕ} (cond (is_within b span) 1 0) 0 = ap (λ v. cond v 1 0) out in
    omega (arith, step, own, none)

intake_past : (plan : PlanView) (o : Option IntakeView) → IfSome o (IsIntake plan) → (b : ℕ) → length plan.blocks ≤ b
    → count_by (is_within b) (map intake_span (option_to_list o)) ≡ 0
intake_past plan None fits b beyond = refl
intake_past plan (Some i) fits b beyond = counted_out b (intake_span i) [] (past plan (intake_span i) fits.among b beyond) refl

strips_past : (plan : PlanView) (ss : List StripView) → ((a : ℕ) (s : StripView) → slice_get ss a ≡ Some s → IsStrip plan s)
    → (b : ℕ) → length plan.blocks ≤ b → count_by (is_within b) (map strip_span ss) ≡ 0
strips_past plan [] fit b beyond = refl
strips_past plan (s ∷ ss) fit b beyond =
    counted_out b (strip_span s) (map strip_span ss) (past plan (strip_span s) (fit 0 s refl).among b beyond)
    (strips_past plan ss (λ a t at. fit (suc a) t at) b beyond)

-- no block past the plan's is of the intake or of a strip
pub no_span_past : (plan : PlanView) → IfSome plan.intake (IsIntake plan) → ((a : ℕ) (s : StripView) → slice_get plan.strips a ≡ Some s → IsStrip plan s)
    → (b : ℕ) → length plan.blocks ≤ b → count_by (is_within b) (spans plan) ≡ 0
no_span_past plan intake strips b beyond =
    let first = intake_past plan plan.intake intake b beyond in
    let second = strips_past plan plan.strips strips b beyond in
    let both = count_by-append (is_within b) (map intake_span (option_to_list plan.intake)) (map strip_span plan.strips) in
    omega (arith, first, second, both)

-- ## Blocks of a valid plan

-- the block at each place of the intake, from 0, is the one that it makes for it
pub intake_block_at : (plan : PlanView) (i : IntakeView) → IsIntake plan i → (k : ℕ) → k < i.count
    → slice_get plan.blocks (i.first + k) ≡ Some (intake_block (k + 1))
intake_block_at plan i fits k below =
    let among = among_from plan (intake_span i) fits.among in
    at_place plan.blocks i.first i.count 1 intake_block among.1 fits.blocks k (k + 1) below (omega arith)

-- the block at each place of a strip, from 0, is the one that it makes for it (dispatch_apply(3))
pub strip_block_at : (plan : PlanView) (s : StripView) → IsStrip plan s → (k : ℕ) → k < s.count
    → slice_get plan.blocks (s.first + k) ≡ Some (strip_block s k)
strip_block_at plan s fits k below =
    let among = among_from plan (strip_span s) fits.among in
    at_place plan.blocks s.first s.count 0 (strip_block s) among.1 fits.blocks k k below (omega arith)

-- an element that passes, where one does
pub first_any : {A : Type 0} (p : A → Bool) (xs : List A) → list_any p xs ≡ true → (i : ℕ) × (x : A) × (slice_get xs i ≡ Some x) × (p x ≡ true)
first_any p [] h = cc
first_any p (y ∷ xs) h =
    ⊎_elim
    (λ here. (0, y, refl, here))
    (λ there. let rest = first_any p xs there in (suc rest.0, rest.1, rest.2, rest.3))
    (or_cases (p y) (list_any p xs) h)

-- a block within the span of the intake, or of a strip, is of it
pub made_of_intake : (plan : PlanView) (i : IntakeView) → plan.intake ≡ Some i → (b : ℕ) → is_within b (intake_span i) ≡ true → is_made plan b ≡ true
made_of_intake plan i stands b within =
    list_any-append (is_within b) (map intake_span (option_to_list plan.intake)) (map strip_span plan.strips)
    ∙ or_left _ _
    (ap (λ o. list_any (is_within b) (map intake_span (option_to_list o))) stands ∙ or_left (is_within b (intake_span i)) false within)

pub made_of_strip : (plan : PlanView) (a : ℕ) (s : StripView) → slice_get plan.strips a ≡ Some s → (b : ℕ) → is_within b (strip_span s) ≡ true
    → is_made plan b ≡ true
made_of_strip plan a s stands b within =
    list_any-append (is_within b) (map intake_span (option_to_list plan.intake)) (map strip_span plan.strips)
    ∙ or_right (list_any (is_within b) (map intake_span (option_to_list plan.intake))) _
    (any_mapped (is_within b) strip_span plan.strips ∙ any_passes_from_place (λ t. is_within b (strip_span t)) plan.strips a s stands within)

-- what a block is made by: the intake, or a strip
pub data Maker (plan : PlanView) (b : ℕ) : Type 0 where
  by_intake : (i : IntakeView) → plan.intake ≡ Some i → is_within b (intake_span i) ≡ true → Maker plan b
  by_strip : (a : ℕ) (s : StripView) → slice_get plan.strips a ≡ Some s → is_within b (strip_span s) ≡ true → Maker plan b

maker_in : (plan : PlanView) (b : ℕ) (o : Option IntakeView) → plan.intake ≡ o → list_any (is_within b) (map intake_span (option_to_list o)) ≡ true → Maker plan b
maker_in plan b None is h = cc
maker_in plan b (Some i) is h = by_intake i is (sym (or-false (is_within b (intake_span i))) ∙ h)

pub maker : (plan : PlanView) (b : ℕ) → is_made plan b ≡ true → Maker plan b
maker plan b made =
    ⊎_elim
    (maker_in plan b plan.intake refl)
    (λ h. let one = first_any (λ s. is_within b (strip_span s)) plan.strips (sym (any_mapped (is_within b) strip_span plan.strips) ∙ h) in
    by_strip one.0 one.1 one.2 one.3)
    (or_cases (list_any (is_within b) (map intake_span (option_to_list plan.intake))) (list_any (is_within b) (map strip_span plan.strips))
    (sym (list_any-append (is_within b) (map intake_span (option_to_list plan.intake)) (map strip_span plan.strips)) ∙ made))

-- the block that the intake, or a strip, has at its place
abbrev pub made_block : (plan : PlanView) → IsPlan plan → (b : ℕ) → Maker plan b → BlkView
made_block plan valid b (by_intake i stands within) = intake_block ((b - i.first) + 1)
made_block plan valid b (by_strip a s stands within) = strip_block s (b - s.first)

intake_valid : (plan : PlanView) (o : Option IntakeView) → IfSome o (IsIntake plan) → (i : IntakeView) → o ≡ Some i → IsIntake plan i
intake_valid plan None fits i is = cc
intake_valid plan (Some j) fits i is = subst (IsIntake plan) (same_Some j i is) fits

pub intake_of_plan : (plan : PlanView) → IsPlan plan → (i : IntakeView) → plan.intake ≡ Some i → IsIntake plan i
intake_of_plan plan valid = intake_valid plan plan.intake valid.intake

place_in : (b first : ℕ) → first ≤ b → first + (b - first) ≡ b
place_in b first low = omega (arith, low)

-- a made block stands where it belongs
pub made_stands : (plan : PlanView) (valid : IsPlan plan) (b : ℕ) (by : Maker plan b) → slice_get plan.blocks b ≡ Some (made_block plan valid b by)
made_stands plan valid b (by_intake i stands within) =
    let parts = within_parts b (intake_span i) within in
    subst (λ k. slice_get plan.blocks k ≡ Some (intake_block ((b - i.first) + 1))) (place_in b i.first parts.0)
    (intake_block_at plan i (intake_of_plan plan valid i stands) (b - i.first) (omega (arith, parts.0, parts.1)))
made_stands plan valid b (by_strip a s stands within) =
    let parts = within_parts b (strip_span s) within in
    subst (λ k. slice_get plan.blocks k ≡ Some (strip_block s (b - s.first))) (place_in b s.first parts.0)
    (strip_block_at plan s (valid.strips a s stands) (b - s.first) (omega (arith, parts.0, parts.1)))

-- a made block has no acts
no_acts : (plan : PlanView) (valid : IsPlan plan) (b : ℕ) (by : Maker plan b) → (made_block plan valid b by).acts ≡ []
no_acts plan valid b (by_intake i stands within) = refl
no_acts plan valid b (by_strip a s stands within) = refl
