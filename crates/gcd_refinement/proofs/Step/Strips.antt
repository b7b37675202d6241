-- How many blocks of each strip have not ended, after an event.
use Rattle.std.proofs.Common.{◌≡◌, ℕ, zero, suc, ◌+◌, ◌-◌, ◌<◌, ◌==◌, true, false, cond, List, [], ◌∷◌, length, map, get_or, set, Option, Some, None, refl, ap, sym, ◌∙◌, arith, eq-eqb}
use Rattle.std.specs.List.{count_by, slice_get}
use Rattle.std.specs.Option.{option_map_or}
use Rattle.std.proofs.lemmas.Bool.{and_parts, ltb-true}
use Rattle.std.proofs.lemmas.List.FromFn.{length-map-range_with_len}
use Rattle.gcd_plan.specs.Made.{blocks_in, strip_span, strip_blocks}
use Rattle.gcd_plan.specs.PlanView.{PlanView, StripView}
use Rattle.gcd_plan.specs.Validity.{IsPlan}
use Rattle.gcd_plan.specs.declared.numbers.Blk.{Blk}
use Rattle.gcd_plan.proofs.Sums.{count_by-cons}
use Rattle.gcd_event.specs.declared.event.Event.{Event}
use Rattle.gcd_event.specs.declared.event.Event.TheVariants.{End}
use Rattle.gcd_history.specs.Runs.{is_ended}
use Rattle.gcd_history.specs.Permitted.{IsLawful, is_worker, has_block}
use Rattle.gcd_history.proofs.MadeBlocks.Spans.{has_number}
use Rattle.gcd_history.proofs.Permitted.Reasons.{allowed}
use Rattle.gcd_history.proofs.Blocks.StartedOnce.{at_its_end, open_not_ended}
use Rattle.gcd_apply.specs.StripsView.{StripsView, strip_of, left_at, with_done}
use Rattle.gcd_refinement.specs.MachineView.{MachineView, machine_of}
use Rattle.gcd_refinement.specs.Shape.{PartsFit}
use Rattle.gcd_refinement.specs.Ties.{StripsAre}
use Rattle.gcd_refinement.specs.AfterStrips.{strips_after}
use Rattle.gcd_refinement.specs.After.{after}
use Rattle.gcd_refinement.proofs.Lists.Writes.{one_less}
use Rattle.gcd_refinement.proofs.Blocks.StripBlocks.{is_its_strip, in_strip, strip_low, strip_at_is, left_of, left_without}

-- ## The outset

none_ended : (xs : List Blk) → length xs ≡ count_by (λ (b : Blk). true) xs
none_ended [] = refl
none_ended (x ∷ xs) = let c = count_by-cons (λ (b : Blk). true) x xs in let rest = none_ended xs in omega (arith, c, rest)

pub strips_begin : (plan : PlanView) → StripsAre plan [] (machine_of plan)
strips_begin plan =
    record { left = λ a. by plan.strips a }
  where
    by : (strips : List StripView) (a : ℕ) → get_or (map (λ (s : StripView). s.count) strips) a 0 ≡ count_by (λ (b : Blk). true) (option_map_or (λ s. blocks_in (strip_span s)) (slice_get strips a) [])
    by [] a = refl
    by (s ∷ strips) zero = sym (length-map-range_with_len (λ b. record { 0 = b }) s.first s.count) ∙ none_ended (blocks_in (strip_span s))
    by (s ∷ strips) (suc a) = by strips a

-- ## The end of a block

-- what is left of a strip once block b has ended
pub end_left : (plan : PlanView) (past : List Event) (w : ℕ) (b : Blk) (a : ℕ) → IsPlan plan → IsLawful plan (End w b ∷ past)
    → left_of (is_ended (End w b ∷ past)) (strip_blocks plan a) + cond {A = ℕ} (is_its_strip plan b.0 a) 1 0 ≡ left_of (is_ended past) (strip_blocks plan a)
end_left plan past w b a valid lawful =
    let goes = open_not_ended plan past lawful.0 b (at_its_end plan past b.0 (End w b) lawful.1 (eq-eqb b.0 b.0 refl)) in
    let less : left_of (is_ended (End w b ∷ past)) (strip_blocks plan a) + count_by (has_number b.0) (strip_blocks plan a) ≡ left_of (is_ended past) (strip_blocks plan a) = left_without (is_ended past) (strip_blocks plan a) b.0 goes in
    let one = in_strip plan b.0 a valid in
    omega (arith, less, one)

pub end_within : (plan : PlanView) (past : List Event) (w : ℕ) (b : Blk) → IsLawful plan (End w b ∷ past) → b.0 < length plan.blocks
end_within plan past w b lawful = ltb-true b.0 (length plan.blocks) (and_parts (is_worker w) (has_block plan b.0) (allowed plan past (End w b) lawful.1).known).1

-- one less of the strip, if there is one
abbrev less_one : StripsView → Option ℕ → StripsView
less_one view o = option_map_or (λ k. record view { left = set view.left k (left_at view k - 1) }) o view

done_left : (plan : PlanView) (past : List Event) (w : ℕ) (b : Blk) (v : MachineView) (a : ℕ) → IsPlan plan → IsLawful plan (End w b ∷ past) → PartsFit plan v → StripsAre plan past v
    → left_at (with_done v.strips b.0) a ≡ left_of (is_ended (End w b ∷ past)) (strip_blocks plan a)
done_left plan past w b v a valid lawful fit tie =
    let is = strip_at_is plan v b.0 fit (end_within plan past w b lawful) in
    ap (λ o. left_at (less_one v.strips o) a) is ∙ by (strip_of plan b.0) refl
  where
    by : (o : Option ℕ) → strip_of plan b.0 ≡ o → left_at (less_one v.strips o) a ≡ left_of (is_ended (End w b ∷ past)) (strip_blocks plan a)
    by None of =
        let before = tie.left a in
        let after = end_left plan past w b a valid lawful in
        let none = ap (λ o. cond {A = ℕ} (option_map_or (λ k. k == a) o false) 1 0) of in
        omega (arith, before, after, none)
    by (Some k) of =
        let before = tie.left k in
        let after = end_left plan past w b k valid lawful in
        let one = ap (λ o. cond {A = ℕ} (option_map_or (λ n. n == k) o false) 1 0) of ∙ ap (λ t. cond {A = ℕ} t 1 0) (eq-eqb k k refl) in
        let low = strip_low plan b.0 k of in
        let long = fit.strips in
        let less = one_less v.strips.left k a (left_at v.strips a) (omega (arith, low, long)) (omega (arith, before, after, one)) refl in
        let here = tie.left a in
        let there = end_left plan past w b a valid lawful in
        let same = ap (λ o. cond {A = ℕ} (option_map_or (λ n. n == a) o false) 1 0) of in
        omega (arith, less, here, there, same)

-- ## The step

pub strips_step : (plan : PlanView) (past : List Event) (e : Event) (v : MachineView) → IsPlan plan → IsLawful plan (e ∷ past) → PartsFit plan v → StripsAre plan past v → StripsAre plan (e ∷ past) (after plan v e)
strips_step plan past e v valid lawful fit tie =
    record { left = λ a. by e a lawful }
  where
    by : (e : Event) (a : ℕ) → IsLawful plan (e ∷ past) → left_at (strips_after v e) a ≡ left_of (is_ended (e ∷ past)) (strip_blocks plan a)
    by (End w b) a lawful = done_left plan past w b v a valid lawful fit tie
    by e a lawful = tie.left a
