-- No more waits on a semaphore begin than the plan's blocks have acts that wait on it: each act of a block is made once at most.
use Rattle.std.proofs.Common.{◌≡◌, ⊎_elim, ℕ, ◌+◌, ◌<◌, ◌≤◌, ◌==◌, Bool, true, false, cond, List, [], ◌∷◌, length, take, Some, refl, ap, sym, ◌∙◌, subst, arith}
use Rattle.std.specs.List.{count_by, sum_by, slice_get, slice_index, range_with_len}
use Rattle.std.specs.Option.{option_map_or}
use Rattle.std.proofs.Math.ListN.{get_or-eq_default}
use Rattle.std.proofs.lemmas.Bool.{cases_lt, eqb-true}
use Rattle.std.proofs.lemmas.List.FromFn.{get_or-map-range_with_len}
use Rattle.std.proofs.lemmas.List.Sums.{sum_by-take-le}
use Rattle.gcd_plan.specs.PlanView.{PlanView, BlkView, acts_of}
use Rattle.gcd_plan.specs.Validity.{IsPlan, waits_on as act_waits_on}
use Rattle.gcd_plan.specs.declared.act.Act.{Act}
use Rattle.gcd_plan.specs.declared.act.Act.TheVariants.{Wait, WaitFor}
use Rattle.gcd_plan.specs.declared.numbers.Blk.{Blk}
use Rattle.gcd_plan.specs.declared.numbers.Run.{Run}
use Rattle.gcd_plan.specs.declared.numbers.Run.TheVariants.{Block, Source}
use Rattle.gcd_event.specs.declared.event.Event.{Event}
use Rattle.gcd_event.specs.declared.event.Event.TheVariants.{Start, Act as Acted}
use Rattle.gcd_history.specs.Runs.{same_run, acts_done, act_at, act_of, is_started}
use Rattle.gcd_history.specs.Semas.{waits, wait_count}
use Rattle.gcd_history.specs.Permitted.{IsLawful}
use Rattle.gcd_plan.proofs.Options.{some_from_is_some}
use Rattle.gcd_plan.proofs.Sums.{count_by-cons, count_by-flat_map}
use Rattle.gcd_history.proofs.Permitted.Reasons.{at_act, at_start}
use Rattle.gcd_history.proofs.Runs.Open.{same_run-refl}
use Rattle.gcd_history.proofs.Blocks.SubmittedOnce.{unstarted_step, handler_act}
use Rattle.gcd_history.proofs.Sums.{sum_range_le, sum_range_less, sum_all_places_le, sum_by-take-more}
use Rattle.gcd_sema.specs.SemasView.{wait_acts, waits_at, room_at}
use Rattle.gcd_refinement.specs.MachineView.{MachineView}
use Rattle.gcd_refinement.specs.Shape.{PartsFit}
use Rattle.gcd_refinement.specs.Ties.{SemasAre}
use Rattle.gcd_refinement.proofs.Lists.Kept.{count_taken}
use Rattle.gcd_refinement.proofs.Step.Waits.{known_block, waits_told}
use Rattle.gcd_refinement.proofs.Semas.Ranks.{handler_waits}

-- ## Acts of a block

abbrev run_of : ℕ → Run
run_of b = Block (record { 0 = b })

-- the event is an act of the run
abbrev acts : Run → Event → Bool
acts run (Acted w r i) = same_run r run
acts run e = false

-- a block has made one act more after each of its acts, and else as many as before
done_more : (plan : PlanView) (e : Event) (past : List Event) (b : Blk) → IsLawful plan (e ∷ past) → acts_done (e ∷ past) (Block b) ≡ acts_done past (Block b) + cond {A = ℕ} (acts (Block b) e) 1 0
done_more plan (Acted w r i) past b lawful =
    elim (same_run r (Block b)) as (λ v. cond v (acts_done past (Block b) + 1) (acts_done past (Block b)) ≡ acts_done past (Block b) + cond {A = ℕ} v 1 0) [ true ↦ refl | false ↦ omega arith ]
done_more plan (Start w c) past b lawful =
    elim (c.0 == b.0) as (λ v. c.0 == b.0 ≡ v → cond v 0 (acts_done past (Block b)) ≡ acts_done past (Block b) + 0) [
      | true ↦ λ same.
          let fresh : is_started past b.0 ≡ false = subst (λ n. is_started past n ≡ false) (eqb-true c.0 b.0 same) (at_start plan past w c lawful.1).fresh in
          let none = unstarted_step plan past lawful.0 b fresh in
          omega (arith, none)
      | false ↦ λ other. omega arith
    ] refl
done_more plan e past b lawful = omega arith

-- ## Waits that have begun

-- how many of the acts that block b has made wait on semaphore s
abbrev begun_by : PlanView → List Event → ℕ → ℕ → ℕ
begun_by plan past s b = count_by (act_waits_on s) (take (acts_done past (run_of b)) (acts_of plan (run_of b)))

begun_kept : (plan : PlanView) (e : Event) (past : List Event) (s b : ℕ) → IsLawful plan (e ∷ past) → begun_by plan past s b ≤ begun_by plan (e ∷ past) s b
begun_kept plan e past s b lawful =
    let more = done_more plan e past (record { 0 = b }) lawful in
    sum_by-take-more (λ a. cond (act_waits_on s a) 1 0) (acts_of plan (run_of b)) (acts_done past (run_of b)) (acts_done (e ∷ past) (run_of b)) (omega (arith, more))

same_test : (s : ℕ) (a : Act) → waits s (Some a) ≡ act_waits_on s a
same_test s (Wait t) = refl
same_test s (WaitFor t ms) = refl
same_test s a = refl

begun_more : (plan : PlanView) (past : List Event) (w : ℕ) (b : Blk) (i s : ℕ) → IsLawful plan (Acted w (Block b) i ∷ past)
    → begun_by plan past s b.0 + cond {A = ℕ} (waits s (act_at plan (Block b) i)) 1 0 ≤ begun_by plan (Acted w (Block b) i ∷ past) s b.0
begun_more plan past w b i s lawful =
    let facts = at_act plan past w (Block b) i lawful.1 in
    let act = some_from_is_some (act_at plan (Block b) i) facts.there in
    let done = done_more plan (Acted w (Block b) i) past b lawful in
    let one = ap (λ u. cond {A = ℕ} u 1 0) (same_run-refl (Block b)) in
    let more : acts_done (Acted w (Block b) i ∷ past) (Block b) ≡ i + 1 = omega (arith, done, one, facts.next) in
    let now = ap (λ n. count_by (act_waits_on s) (take n (acts_of plan (Block b)))) more in
    let was = ap (λ n. count_by (act_waits_on s) (take n (acts_of plan (Block b)))) facts.next in
    let step = count_taken (act_waits_on s) (acts_of plan (Block b)) i act.0 act.1 in
    let test = ap (λ o. cond {A = ℕ} (waits s o) 1 0) act.1 in
    let same = ap (λ u. cond {A = ℕ} u 1 0) (same_test s act.0) in
    omega (arith, now, was, step, test, same)

-- as many waits have begun as acts that wait were made
counted : (plan : PlanView) (past : List Event) (s : ℕ) → IsPlan plan → IsLawful plan past → wait_count plan past s ≤ sum_by (begun_by plan past s) (range_with_len 0 (length plan.blocks))
counted plan [] s valid lawful = omega arith
counted plan (Acted w (Block b) i ∷ past) s valid lawful =
    let rest = counted plan past s valid lawful.0 in
    let one = count_by-cons (λ e. waits s (act_of plan e)) (Acted w (Block b) i) past in
    let low = known_block plan past w b i lawful in
    let more = sum_range_less (begun_by plan past s) (begun_by plan (Acted w (Block b) i ∷ past) s) 0 (length plan.blocks) b.0 (cond {A = ℕ} (waits s (act_at plan (Block b) i)) 1 0)
    (λ k. begun_kept plan (Acted w (Block b) i) past s k lawful) (begun_more plan past w b i s lawful) (omega arith) (omega (arith, low)) in
    omega (arith, rest, one, more)
counted plan (Acted w (Source o) i ∷ past) s valid lawful =
    let rest = counted plan past s valid lawful.0 in
    let one = count_by-cons (λ e. waits s (act_of plan e)) (Acted w (Source o) i) past in
    let none = ap (λ u. cond {A = ℕ} u 1 0) (handler_waits s (act_at plan (Source o) i) (λ a at. (handler_act plan o i a valid at).0)) in
    let more = sum_range_le (begun_by plan past s) (begun_by plan (Acted w (Source o) i ∷ past) s) 0 (length plan.blocks) (λ k. begun_kept plan (Acted w (Source o) i) past s k lawful) in
    omega (arith, rest, one, none, more)
counted plan (e ∷ past) s valid lawful =
    let rest = counted plan past s valid lawful.0 in
    let one = count_by-cons (λ x. waits s (act_of plan x)) e past in
    let more = sum_range_le (begun_by plan past s) (begun_by plan (e ∷ past) s) 0 (length plan.blocks) (λ k. begun_kept plan e past s k lawful) in
    omega (arith, rest, one, more)

begun_within : (plan : PlanView) (past : List Event) (s b : ℕ) (blk : BlkView) → slice_get plan.blocks b ≡ Some blk → begun_by plan past s b ≤ count_by (act_waits_on s) blk.acts
begun_within plan past s b blk at =
    let all : acts_of plan (run_of b) ≡ blk.acts = ap (λ o. option_map_or (λ x. x.acts) o []) at in
    subst (λ l. count_by (act_waits_on s) (take (acts_done past (run_of b)) l) ≤ count_by (act_waits_on s) blk.acts) (sym all)
    (sum_by-take-le (λ a. cond (act_waits_on s a) 1 0) blk.acts (acts_done past (run_of b)))

pub few_waits : (plan : PlanView) (past : List Event) (s : ℕ) → IsPlan plan → IsLawful plan past → wait_count plan past s ≤ wait_acts plan s
few_waits plan past s valid lawful =
    let begun = counted plan past s valid lawful in
    let within = sum_all_places_le (begun_by plan past s) (λ b. count_by (act_waits_on s) b.acts) plan.blocks (λ k blk at. begun_within plan past s k blk at) in
    let all = count_by-flat_map (act_waits_on s) (λ (b : BlkView). b.acts) plan.blocks in
    omega (arith, begun, within, all)

-- ## The view

-- there is room for them
pub waits_fit : (plan : PlanView) (past : List Event) (v : MachineView) (s : ℕ) → IsPlan plan → IsLawful plan past → PartsFit plan v → SemasAre plan past v → waits_at v.semas s ≤ room_at v.semas s
waits_fit plan past v s valid lawful fit ties =
    let told = waits_told plan past v s ties in
    let few = few_waits plan past s valid lawful in
    ⊎_elim
    (λ (low : s < length plan.objects).
    let room : room_at v.semas s ≡ wait_acts plan s = ap (λ l. slice_index l s) fit.rooms ∙ get_or-map-range_with_len (wait_acts plan) 0 (length plan.objects) s s 0 low (omega arith) in
    omega (arith, told, few, room))
    (λ (high : length plan.objects ≤ s).
    let long = fit.waits in
    let none : waits_at v.semas s ≡ 0 = ap length (get_or-eq_default v.semas.waits [] (omega (arith, high, long))) in
    omega (arith, none))
    (cases_lt s (length plan.objects))
