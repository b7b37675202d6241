-- The block of a notify_block act is submitted once where the act and the End that it waits for both stand, and else never.
use Rattle.std.proofs.Common.{◌≡◌, ⊎_elim, ℕ, ◌+◌, ◌<◌, ◌≤◌, true, false, ◌&&◌, cond, ◌==◌, ltb, List, [], ◌∷◌, ◌++◌, length, take, Some, None, count_by, refl, ap, sym, ◌∙◌, subst, arith}
use Rattle.std.specs.List.{list_any, sum_by, slice_get, range_with_len}
use Rattle.std.specs.Option.{option_map_or}
use Rattle.std.proofs.lemmas.Bool.{eqb-true, eq-eqb, ne_eqb, and_parts, or_cases, or_parts, both_ways, not-true, cases_eq, ltb-true, false_from_ne_true}
use Rattle.std.proofs.lemmas.Option.{slice_get_within}
use Rattle.std.proofs.lemmas.List.Sums.{sum_by-take-le}
use Rattle.gcd_plan.specs.PlanView.{PlanView, BlkView, acts_of}
use Rattle.gcd_plan.specs.Kinds.{is_queue}
use Rattle.gcd_plan.specs.Made.{is_made, is_of_intake}
use Rattle.gcd_plan.specs.Validity.{IsPlan, blocks_by, blocks_of, is_declared, submitted_blocks}
use Rattle.gcd_plan.specs.declared.act.Act.{Act}
use Rattle.gcd_plan.specs.declared.act.Act.TheVariants.{NotifyBlock}
use Rattle.gcd_plan.specs.declared.numbers.Blk.{Blk}
use Rattle.gcd_plan.specs.declared.numbers.Obj.{Obj}
use Rattle.gcd_plan.specs.declared.numbers.Run.{Run}
use Rattle.gcd_plan.specs.declared.numbers.Run.TheVariants.{Block, Source}
use Rattle.gcd_event.specs.declared.event.Event.{Event}
use Rattle.gcd_event.specs.declared.event.Event.TheVariants.{Act as Acted}
use Rattle.gcd_history.specs.Runs.{same_run, opens, acts_done, act_at, act_of, is_ended, ends}
use Rattle.gcd_history.specs.Submitted.{on_node, submitted, new_submissions, registered_at_end, end_notify_blocks, at_end}
use Rattle.gcd_history.specs.Permitted.{IsLawful}
use Rattle.gcd_history.specs.Laws.{records}
use Rattle.gcd_plan.proofs.Sums.{count_by-append, count_by-flat_map}
use Rattle.gcd_history.proofs.Sums.{sum_range_less, sum_by-take-more, term_within}
use Rattle.gcd_history.proofs.Runs.Open.{same_run-true}
use Rattle.gcd_history.proofs.Permitted.Reasons.{at_act}
use Rattle.gcd_history.proofs.MadeBlocks.Spans.{has_number, intake_is_made}
use Rattle.gcd_history.proofs.Blocks.SubmittedOnce.{is_of, given, block_run, made_by, made, cancelled, act_more, block_gives, plan_gives, handler_act, at_block, new_parts, none_accepted, kept_within, kept_once}
use Rattle.gcd_history.proofs.Blocks.SubmittedOnNodes.{act_fits}

-- ## Where the act stands

-- the act that the event records
recorded_is : (plan : PlanView) (run : Run) (n : ℕ) (act : Act) (e : Event) → act_at plan run n ≡ Some act → records run n e ≡ true → act_of plan e ≡ Some act
recorded_is plan run n act (Acted w r i) at is =
    let parts = and_parts (same_run r run) (i == n) is in
    subst (λ k. act_at plan r k ≡ Some act) (sym (eqb-true i n parts.1)) (subst (λ q. act_at plan q n ≡ Some act) (sym (same_run-true r run parts.0)) at)
recorded_is plan run n act e at is = cc

-- it registers its block
registered_one : (b c : Blk) (q : Obj) → count_by (is_of c.0) (registered_at_end b.0 (Some (NotifyBlock b q c))) ≡ 1
registered_one b c q =
    ap (λ v. count_by (is_of c.0) (cond v (on_node q c false) [])) (eq-eqb b.0 b.0 refl) ∙ ap (λ v. 0 + cond {A = ℕ} v 1 0) (eq-eqb c.0 c.0 refl)

registered_now : (plan : PlanView) (run : Run) (n : ℕ) (b c : Blk) (q : Obj) (e : Event) → act_at plan run n ≡ Some (NotifyBlock b q c) → records run n e ≡ true → count_by (is_of c.0) (registered_at_end b.0 (act_of plan e)) ≡ 1
registered_now plan run n b c q e at is = ap (λ o. count_by (is_of c.0) (registered_at_end b.0 o)) (recorded_is plan run n (NotifyBlock b q c) e at is) ∙ registered_one b c q

-- as long as the other has not ended, it waits
waits_on : (plan : PlanView) (past : List Event) (run : Run) (n : ℕ) (b c : Blk) (q : Obj) → act_at plan run n ≡ Some (NotifyBlock b q c) → list_any (records run n) past ≡ true → is_ended past b.0 ≡ false → 1 ≤ count_by (is_of c.0) (end_notify_blocks plan past b.0)
waits_on plan [] run n b c q at stands unended = cc
waits_on plan (e ∷ past) run n b c q at stands unended =
    let before = end_notify_blocks plan past b.0 in
    let now = registered_at_end b.0 (act_of plan e) in
    let all : count_by (is_of c.0) (end_notify_blocks plan (e ∷ past) b.0) ≡ count_by (is_of c.0) before + count_by (is_of c.0) now =
    ap (λ v. count_by (is_of c.0) (cond v [] (before ++ now))) unended ∙ count_by-append (is_of c.0) before now in
    ⊎_elim
    (λ is. let one = registered_now plan run n b c q e at is in omega (arith, all, one))
    (λ older. let one = waits_on plan past run n b c q at older (or_parts (ends b.0 e) (is_ended past b.0) unended).1 in omega (arith, all, one))
    (or_cases (records run n e) (list_any (records run n) past) stands)

-- an event submits at least what it submits for the end of one block
of_one_block : (plan : PlanView) (past : List Event) (e : Event) (b k : ℕ) → k < length plan.blocks → count_by (is_of b) (at_end plan past e k) ≤ count_by (is_of b) (new_submissions plan past e)
of_one_block plan past e b k within =
    let all = count_by-flat_map (is_of b) (at_end plan past e) (range_with_len 0 (length plan.blocks)) in
    let one = term_within (λ c. count_by (is_of b) (at_end plan past e c)) (length plan.blocks) k within in
    let parts = new_parts plan past e b in
    omega (arith, all, one, parts)

-- it waits, or was submitted
waits_or_submitted : (plan : PlanView) (past : List Event) (run : Run) (n : ℕ) (b c : Blk) (q : Obj) → act_at plan run n ≡ Some (NotifyBlock b q c) → b.0 < length plan.blocks → list_any (records run n) past ≡ true
    → 1 ≤ count_by (is_of c.0) (submitted plan past) + count_by (is_of c.0) (end_notify_blocks plan past b.0)
waits_or_submitted plan [] run n b c q at within stands = cc
waits_or_submitted plan (e ∷ past) run n b c q at within stands =
    let split : count_by (is_of c.0) (submitted plan (e ∷ past)) ≡ count_by (is_of c.0) (submitted plan past) + count_by (is_of c.0) (new_submissions plan past e) = count_by-append (is_of c.0) (submitted plan past) (new_submissions plan past e) in
    let new = of_one_block plan past e c.0 b.0 within in
    let step = at_block plan past e c.0 b.0 in
    ⊎_elim
    (λ is. let one = registered_now plan run n b c q e at is in omega (arith, split, new, step, one))
    (λ older. let one = waits_or_submitted plan past run n b c q at within older in omega (arith, split, new, step, one))
    (or_cases (records run n e) (list_any (records run n) past) stands)

-- where the other has ended, nothing waits for that
pub ended_has_none : (plan : PlanView) (past : List Event) (b : ℕ) → is_ended past b ≡ true → end_notify_blocks plan past b ≡ []
ended_has_none plan [] b ended = cc
ended_has_none plan (e ∷ past) b ended = ap (λ v. cond v [] (end_notify_blocks plan past b ++ registered_at_end b (act_of plan e))) ended

-- ## Where the act does not stand

-- the run has not come to it
not_made : (plan : PlanView) (past : List Event) (run : Run) (n : ℕ) → IsLawful plan past → list_any (records run n) past ≡ false → acts_done past run ≤ n
not_made plan [] run n h none = omega arith
not_made plan (Acted w r i ∷ past) run n h none =
    let parts = or_parts (records run n (Acted w r i)) (list_any (records run n) past) none in
    let old = not_made plan past run n h.0 parts.1 in
    elim (same_run r run) as (λ v. same_run r run ≡ v → (v && i == n) ≡ false → cond v (acts_done past run + 1) (acts_done past run) ≤ n) [
      | true ↦ λ same other.
          let next : i ≡ acts_done past run = subst (λ k. i ≡ acts_done past k) (same_run-true r run same) (at_act plan past w r i h.1).next in
          ⊎_elim (λ is. absurd (both_ways (i == n) other (eq-eqb i n is))) (λ apart. let less : i < n = grind (arith, next, old, apart) in omega (arith, next, less)) (cases_eq i n)
      | false ↦ λ same other. old
    ] refl parts.0
not_made plan (e ∷ past) run n h none =
    let old = not_made plan past run n h.0 (or_parts (records run n e) (list_any (records run n) past) none).1 in
    elim (opens e run) as (λ v. cond v 0 (acts_done past run) ≤ n) [ true ↦ omega arith | false ↦ old ]

-- so what the block's acts give is less than the plan gives, by what the act gives
left_out : (plan : PlanView) (past : List Event) (b d n : ℕ) (act : Act) (blk : BlkView) → act_at plan (block_run d) n ≡ Some act → acts_done past (block_run d) ≤ n → slice_get plan.blocks d ≡ Some blk
    → made_by plan past b d + given plan b (Some act) ≤ count_by (has_number b) (blocks_of plan blk.acts)
left_out plan past b d n act blk at few there =
    let f : Act → ℕ = λ a. given plan b (Some a) in
    let acts : acts_of plan (block_run d) ≡ blk.acts = ap (λ o. option_map_or (λ c. c.acts) o []) there in
    let all : sum_by f blk.acts ≡ count_by (has_number b) (blocks_of plan blk.acts) = sym (count_by-flat_map (has_number b) (blocks_by plan) blk.acts) in
    let front = sum_by-take-more f (acts_of plan (block_run d)) (acts_done past (block_run d)) n few in
    let more = act_more plan b n (block_run d) act at in
    let whole : sum_by f (take (n + 1) (acts_of plan (block_run d))) ≤ sum_by f blk.acts = subst (λ l. sum_by f (take (n + 1) l) ≤ sum_by f blk.acts) (sym acts) (sum_by-take-le f blk.acts (n + 1)) in
    omega (arith, all, front, more, whole)

-- and so is what all blocks give
less_than_plan : (plan : PlanView) (past : List Event) (b d n : ℕ) (act : Act) → act_at plan (block_run d) n ≡ Some act → acts_done past (block_run d) ≤ n → d < length plan.blocks
    → made plan past b + cancelled plan past b + given plan b (Some act) ≤ count_by (has_number b) (submitted_blocks plan)
less_than_plan plan past b d n act at few within =
    let extra : ℕ → ℕ = λ k. made_by plan past b k + cond (k == d) (given plan b (Some act)) 0 in
    let all = plan_gives plan past b extra (λ k blk there. elim (k == d) as (λ v. (k == d) ≡ v → made_by plan past b k + cond v (given plan b (Some act)) 0 ≤ count_by (has_number b) (blocks_of plan blk.acts)) [
      | true ↦ λ e.
          let same : d ≡ k = sym (eqb-true k d e) in
          subst (λ m. made_by plan past b m + given plan b (Some act) ≤ count_by (has_number b) (blocks_of plan blk.acts)) same
          (left_out plan past b d n act blk at few (subst (λ m. slice_get plan.blocks m ≡ Some blk) (sym same) there))
      | false ↦ λ e. let low = block_gives plan past b k blk there in omega (arith, low)
    ] refl) in
    let here : extra d ≡ made_by plan past b d + given plan b (Some act) = ap (λ v. made_by plan past b d + cond v (given plan b (Some act)) 0) (eq-eqb d d refl) in
    let more = sum_range_less (made_by plan past b) extra 0 (length plan.blocks) d (given plan b (Some act)) (λ k. omega arith) (omega (arith, here)) (omega arith) (omega (arith, within)) in
    omega (arith, all, more)

-- a block that has an act is the plan's
block_within : (plan : PlanView) (d : Blk) (n : ℕ) (act : Act) → act_at plan (Block d) n ≡ Some act → d.0 < length plan.blocks
block_within plan d n act at =
    elim (slice_get plan.blocks d.0) as (λ o. slice_get plan.blocks d.0 ≡ o → slice_get (option_map_or (λ blk. blk.acts) o []) n ≡ Some act → d.0 < length plan.blocks) [
      | None ↦ λ none k. cc
      | Some blk ↦ λ some k. slice_get_within plan.blocks d.0 blk some
    ] refl at

-- ## Once, or never

-- the blocks that the act names are declared
record Named (plan : PlanView) (b c : Blk) : Type 0 where
  first_within : b.0 < length plan.blocks
  second : is_declared plan c ≡ true

named : (plan : PlanView) (run : Run) (n : ℕ) (b c : Blk) (q : Obj) → IsPlan plan → act_at plan run n ≡ Some (NotifyBlock b q c) → Named plan b c
named plan run n b c q valid at =
    let fits = act_fits plan run n (NotifyBlock b q c) valid at in
    let parts = and_parts (is_declared plan b) (is_queue plan q.0 && is_declared plan c) fits in
    let first = and_parts (ltb 0 b.0) _ parts.0 in
    record {
      first_within = ltb-true b.0 (length plan.blocks) (and_parts (ltb b.0 (length plan.blocks)) _ first.1).0;
      second = (and_parts (is_queue plan q.0) (is_declared plan c) parts.1).1;
    }

given_one : (plan : PlanView) (b c : Blk) (q : Obj) → given plan c.0 (Some (NotifyBlock b q c)) ≡ 1
given_one plan b c q = ap (λ v. 0 + cond {A = ℕ} v 1 0) (eq-eqb c.0 c.0 refl)

-- where the act stands and the End does
pub notified : (plan : PlanView) (past : List Event) (run : Run) (n : ℕ) (b c : Blk) (q : Obj) → IsPlan plan → IsLawful plan past → act_at plan run n ≡ Some (NotifyBlock b q c) → list_any (records run n) past ≡ true → is_ended past b.0 ≡ true
    → count_by (is_of c.0) (submitted plan past) ≡ 1
notified plan past run n b c q valid h at stands ended =
    let some = waits_or_submitted plan past run n b c q at (named plan run n b c q valid at).first_within stands in
    let none : count_by (is_of c.0) (end_notify_blocks plan past b.0) ≡ 0 = ap (count_by (is_of c.0)) (ended_has_none plan past b.0 ended) in
    let once = kept_once plan past valid h c.0 in
    omega (arith, some, none, once)

-- where the act stands and the End does not
pub not_yet : (plan : PlanView) (past : List Event) (run : Run) (n : ℕ) (b c : Blk) (q : Obj) → IsPlan plan → IsLawful plan past → act_at plan run n ≡ Some (NotifyBlock b q c) → list_any (records run n) past ≡ true → is_ended past b.0 ≡ false
    → count_by (is_of c.0) (submitted plan past) ≡ 0
not_yet plan past run n b c q valid h at stands unended =
    let one = waits_on plan past run n b c q at stands unended in
    let all = term_within (λ k. count_by (is_of c.0) (end_notify_blocks plan past k)) (length plan.blocks) b.0 (named plan run n b c q valid at).first_within in
    let once = kept_once plan past valid h c.0 in
    omega (arith, one, all, once)

-- where the act does not stand
pub never : (plan : PlanView) (past : List Event) (run : Run) (n : ℕ) (b c : Blk) (q : Obj) → IsPlan plan → IsLawful plan past → act_at plan run n ≡ Some (NotifyBlock b q c) → list_any (records run n) past ≡ false
    → count_by (is_of c.0) (submitted plan past) ≡ 0
never plan past (Block d) n b c q valid h at none =
    let facts = named plan (Block d) n b c q valid at in
    let declared = and_parts (ltb 0 c.0) _ facts.second in
    let above = ltb-true 0 c.0 declared.0 in
    let apart = not-true (is_made plan c.0) (and_parts (ltb c.0 (length plan.blocks)) _ declared.1).1 in
    let outside : is_of_intake plan c.0 ≡ false = false_from_ne_true (is_of_intake plan c.0) (λ of. both_ways (is_made plan c.0) apart (intake_is_made plan c.0 of)) in
    let zero : cond {A = ℕ} (0 == c.0) 1 0 ≡ 0 = ap (λ v. cond {A = ℕ} v 1 0) (ne_eqb 0 c.0 (λ same. omega (arith, same, above))) in
    let no = none_accepted plan past h c.0 outside in
    let kept = kept_within plan past valid h c.0 in
    let few = not_made plan past (Block d) n h none in
    let within : d.0 < length plan.blocks = block_within plan d n (NotifyBlock b q c) at in
    let less = less_than_plan plan past c.0 d.0 n (NotifyBlock b q c) at few within in
    let one = given_one plan b c q in
    let once = valid.once c.0 in
    omega (arith, zero, no, kept, less, one, once)
never plan past (Source s) n b c q valid h at none = absurd (both_ways false refl (handler_act plan s n (NotifyBlock b q c) valid at).0)
