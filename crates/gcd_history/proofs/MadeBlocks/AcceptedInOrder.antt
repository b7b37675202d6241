-- The blocks of the intake are accepted from the first on, each once, and none where the intake is not open.
use Rattle.std.proofs.Common.{◌≡◌, ⊎_elim, ℕ, zero, suc, ◌+◌, ◌<◌, ◌≤◌, true, false, not, ◌||◌, ◌==◌, List, [], ◌∷◌, ◌++◌, length, take, reverse, Some, None, find, is_some, refl, ap, sym, ◌∙◌, subst, arith}
use Rattle.std.specs.List.{list_any, filter_map}
use Rattle.std.specs.Option.{option_map_or, option_to_list}
use Rattle.std.proofs.lemmas.Bool.{eq-eqb, ne_eqb, or_left, or_right, and_parts, both_ways, not-true, cases_lt}
use Rattle.std.proofs.lemmas.List.FromFn.{length-map-range_with_len}
use Rattle.std.proofs.lemmas.List.Elements.{filter_map-append}
use Rattle.gcd_facts.proofs.Options.{cons_option-nil}
use Rattle.gcd_plan.specs.PlanView.{PlanView, IntakeView}
use Rattle.gcd_plan.specs.Made.{is_within, blocks_in, intake_span, is_of_intake, intake_blocks}
use Rattle.gcd_plan.specs.declared.numbers.Blk.{Blk}
use Rattle.gcd_event.specs.declared.event.Event.{Event}
use Rattle.gcd_event.specs.declared.event.Event.TheVariants.{Accept}
use Rattle.gcd_history.specs.Intake.{accepts, accepted, is_accepted, shuts, is_intake_open}
use Rattle.gcd_history.specs.Permitted.{IsLawful, why}
use Rattle.std.proofs.lemmas.List.{append-nil, reverse-append}
use Rattle.gcd_history.proofs.MadeBlocks.Spans.{blocks_from, IsFirst, first_of_span}
use Rattle.gcd_history.proofs.MadeBlocks.OpenIntake.{next_is_first}
use Rattle.gcd_history.proofs.Permitted.Reasons.{at_accept}
use Rattle.gcd_history.proofs.Blocks.SubmittedOnce.{accepted_of_intake}

-- ## Numbers that follow one another

blocks_more : (a m : ℕ) → blocks_from a (m + 1) ≡ blocks_from a m ++ (record { 0 = a + m }) ∷ []
blocks_more a zero = let P : ℕ → List Blk = λ n. record { 0 = n } ∷ [] in ap P (omega arith)
blocks_more a (suc m) =
    let P : ℕ → List Blk = λ n. record { 0 = a } ∷ (blocks_from (a + 1) m ++ record { 0 = n } ∷ []) in
    let Q : List Blk → List Blk = λ l. record { 0 = a } ∷ l in
    let one : suc m + 1 ≡ suc (m + 1) = omega arith in
    ap (blocks_from a) one ∙ (ap Q (blocks_more (a + 1) m) ∙ ap P (omega arith))

take_blocks : (a m n : ℕ) → m ≤ n → take m (blocks_from a n) ≡ blocks_from a m
take_blocks a zero n h = refl
take_blocks a (suc m) zero h = absurd (omega arith)
take_blocks a (suc m) (suc n) h = let Q : List Blk → List Blk = λ l. record { 0 = a } ∷ l in ap Q (take_blocks (a + 1) m n (omega (arith, h)))

-- ## What is accepted so far

-- the blocks that were accepted, the first first
abbrev pub so_far : List Event → List Blk
so_far [] = []
so_far (e ∷ past) = so_far past ++ option_to_list (accepted e)

pub so_far_is : (past : List Event) → filter_map accepted (reverse past) ≡ so_far past
so_far_is [] = refl
so_far_is (e ∷ past) =
    ap (filter_map accepted) (reverse-append (e ∷ []) past)
    ∙ filter_map-append accepted (reverse past) (e ∷ [])
    ∙ ap (λ l. l ++ filter_map accepted (e ∷ [])) (so_far_is past)
    ∙ ap (λ l. so_far past ++ l) (cons_option-nil (accepted e))

-- the first m blocks from number a on are accepted, of n at most
record Accepts (a n : ℕ) (past : List Event) : Type 0 where
  many : ℕ
  few : many ≤ n
  blocks : so_far past ≡ blocks_from a many
  inside : (k : ℕ) → a ≤ k → k < a + many → is_accepted past k ≡ true
  beyond : (k : ℕ) → a + many ≤ k → is_accepted past k ≡ false

-- an event that accepts nothing changes nothing
same_accepts : (a n : ℕ) (e : Event) (past : List Event) → accepted e ≡ None → ((k : ℕ) → accepts k e ≡ false) → Accepts a n past → Accepts a n (e ∷ past)
same_accepts a n e past none other old = record {
  many = old.many;
  few = old.few;
  blocks = ap (λ o. so_far past ++ option_to_list o) none ∙ append-nil (so_far past) ∙ old.blocks;
  inside = λ k low high. or_right (accepts k e) (is_accepted past k) (old.inside k low high);
  beyond = λ k high. ap (λ v. v || is_accepted past k) (other k) ∙ old.beyond k high;
}

-- the block that is accepted next is the one behind them
next_number : (a n : ℕ) (past : List Event) (b : Blk) (old : Accepts a n past) → IsFirst (λ k. not (is_accepted past k)) a n b.0 → a + old.many ≡ b.0
next_number a n past b old first =
    let low = first.low in
    ⊎_elim
    (λ inside. absurd (both_ways (is_accepted past b.0) (not-true (is_accepted past b.0) first.passes) (old.inside b.0 low inside)))
    (λ high. ⊎_elim
    (λ less. absurd (both_ways (not (is_accepted past (a + old.many))) (first.none_before (a + old.many) (omega arith) less) (ap not (old.beyond (a + old.many) (omega arith)))))
    (λ more. omega (arith, high, more))
    (cases_lt (a + old.many) b.0))
    (cases_lt b.0 (a + old.many))

one_more : (a n s : ℕ) (past : List Event) (b : Blk) (old : Accepts a n past) → b.0 < a + n → a + old.many ≡ b.0 → Accepts a n (Accept b s ∷ past)
one_more a n s past b old high same =
    let m = old.many in
    let number : (record { 0 = a + m }) ∷ [] ≡ b ∷ [] = (let P : ℕ → List Blk = λ k. record { 0 = k } ∷ [] in ap P same) in
    record {
      many = m + 1;
      few = omega (arith, high, same);
      blocks = ap (λ l. l ++ b ∷ []) old.blocks ∙ (ap (λ l. blocks_from a m ++ l) (sym number) ∙ sym (blocks_more a m));
      inside = λ k low below. ⊎_elim
          (λ before. or_right (b.0 == k) (is_accepted past k) (old.inside k low before))
          (λ last. or_left (b.0 == k) (is_accepted past k) (eq-eqb b.0 k (omega (arith, same, below, last))))
          (cases_lt k (a + m));
      beyond = λ k above.
          ap (λ v. v || is_accepted past k) (ne_eqb b.0 k (λ is. omega (arith, same, above, is))) ∙ old.beyond k (omega (arith, above));
    }

span_of : (plan : PlanView) (i : IntakeView) → plan.intake ≡ Some i → intake_blocks plan ≡ blocks_from i.first i.count
span_of plan i at = ap (λ o. option_map_or (λ j. blocks_in (intake_span j)) o []) at

accepts_so_far : (plan : PlanView) (past : List Event) (i : IntakeView) → plan.intake ≡ Some i → IsLawful plan past → Accepts i.first i.count past
accepts_so_far plan [] i at h = record { many = 0; few = omega arith; blocks = refl; inside = λ k low high. absurd (omega (arith, low, high)); beyond = λ k high. refl }
accepts_so_far plan (Accept b s ∷ past) i at h =
    let old = accepts_so_far plan past i at h.0 in
    let found = (next_is_first plan past b (at_accept plan past b s h.1)).1 in
    let first = first_of_span (λ k. not (is_accepted past k)) i.first i.count b (subst (λ l. find (λ c. not (is_accepted past c.0)) l ≡ Some b) (span_of plan i at) found) in
    one_more i.first i.count s past b old first.high (next_number i.first i.count past b old first)
accepts_so_far plan (e ∷ past) i at h = same_accepts i.first i.count e past refl (λ k. refl) (accepts_so_far plan past i at h.0)

-- without an intake nothing is accepted
none_so_far : (plan : PlanView) (past : List Event) → plan.intake ≡ None → IsLawful plan past → so_far past ≡ []
none_so_far plan [] none h = refl
none_so_far plan (Accept b s ∷ past) none h =
    let of = accepted_of_intake plan (Accept b s ∷ past) h b.0 (or_left (b.0 == b.0) (is_accepted past b.0) (eq-eqb b.0 b.0 refl)) in
    absurd (both_ways (is_of_intake plan b.0) (ap (λ o. option_map_or (λ i. is_within b.0 (intake_span i)) o false) none) of)
none_so_far plan (e ∷ past) none h = append-nil (so_far past) ∙ none_so_far plan past none h.0

-- so what is accepted is a front of the intake's blocks
pub accepted_in_order : (plan : PlanView) (past : List Event) → IsLawful plan past → so_far past ≡ take (length (so_far past)) (intake_blocks plan)
accepted_in_order plan past h =
    elim plan.intake as (λ o. plan.intake ≡ o → so_far past ≡ take (length (so_far past)) (intake_blocks plan)) [
      | None ↦ λ at. let none = none_so_far plan past at h in none ∙ sym (ap (λ l. take (length l) (intake_blocks plan)) none)
      | Some i ↦ λ at.
          let all = accepts_so_far plan past i at h in
          let long : length (so_far past) ≡ all.many = ap length all.blocks ∙ length-map-range_with_len (λ b. record { 0 = b }) i.first all.many in
          let front = take_blocks i.first all.many i.count all.few in
          all.blocks ∙ (sym front ∙ (ap (λ n. take n (blocks_from i.first i.count)) (sym long) ∙ ap (take (length (so_far past))) (sym (span_of plan i at))))
    ] refl

-- no Shut stands where a block is accepted
pub unshut_at_accept : (plan : PlanView) (past : List Event) (b : Blk) (s : ℕ) → why plan past (Accept b s) ≡ None → list_any shuts past ≡ false
unfolding is_intake_open
unshut_at_accept plan past b s h =
    let is_on = (next_is_first plan past b (at_accept plan past b s h)).0 in
    not-true (list_any shuts past) (and_parts (is_some plan.intake) (not (list_any shuts past)) is_on).1
