-- The open barriers on each node after an event.
use Rattle.std.proofs.Common.{◌≡◌, ℕ, ◌+◌, ◌<◌, Bool, true, false, ◌&&◌, cond, List, ◌∷◌, length, Option, Some, None, refl, ap, sym, ◌∙◌, arith, eq-eqb}
use Rattle.std.specs.List.{count_by}
use Rattle.std.specs.Option.{option_map_or, option_and_then}
use Rattle.std.proofs.lemmas.Bool.{and_from}
use Rattle.gcd_plan.specs.PlanView.{PlanView}
use Rattle.gcd_plan.specs.declared.numbers.Blk.{Blk}
use Rattle.gcd_plan.specs.declared.numbers.Obj.{Obj}
use Rattle.gcd_plan.specs.declared.numbers.Run.TheVariants.{Block, Source}
use Rattle.gcd_event.specs.declared.event.Event.{Event}
use Rattle.gcd_event.specs.declared.event.Event.TheVariants.{Start, End, Deliver, DeliverEnd}
use Rattle.gcd_history.specs.declared.submission.Submission.{Submission}
use Rattle.gcd_history.specs.Runs.{open_runs}
use Rattle.gcd_history.specs.Submitted.{submission_of}
use Rattle.gcd_history.specs.Permitted.{IsLawful, is_on, is_barrier_on}
use Rattle.gcd_plan.proofs.Sums.{count_by_push}
use Rattle.gcd_history.proofs.Permitted.Reasons.{at_start, at_end, at_deliver_end}
use Rattle.gcd_history.proofs.Blocks.StartedOnce.{open_from_has_run}
use Rattle.gcd_history.proofs.Runs.Alone.{barrier_kept, barrier_kept_open}
use Rattle.gcd_drain.specs.DrainsView.{DrainsView, barriers_at}
use Rattle.gcd_refinement.specs.MachineView.{MachineView, block_at}
use Rattle.gcd_refinement.specs.Shape.{PartsFit, OwnFit}
use Rattle.gcd_refinement.specs.Ties.{DrainsAre, BlocksAre}
use Rattle.gcd_refinement.specs.After.{barrier_began, barrier_ended, drains_after, after}
use Rattle.gcd_refinement.proofs.Lists.Writes.{one_more, one_less}
use Rattle.gcd_refinement.proofs.Step.Runs.{alike_in, one_taken}
use Rattle.gcd_refinement.proofs.Step.Tree.{is_obj}

kept : (plan : PlanView) (past : List Event) (e : Event) (n : ℕ) → IsLawful plan past → count_by (is_barrier_on plan (e ∷ past) n) (open_runs past) ≡ count_by (is_barrier_on plan past n) (open_runs past)
kept plan past e n lawful = alike_in (is_barrier_on plan (e ∷ past) n) (is_barrier_on plan past n) (open_runs past) (λ run live. barrier_kept_open plan e past lawful n run live)

-- what the view tells of a block
told_barrier : (plan : PlanView) (past : List Event) (v : MachineView) (b : Blk) (n : ℕ) → BlocksAre plan past v → ((block_at v b.0).barrier && is_obj n (block_at v b.0).node) ≡ is_barrier_on plan past n (Block b)
told_barrier plan past v b n blocks =
    ap (λ u. u && is_obj n (block_at v b.0).node) (blocks.barrier b.0)
    ∙ (ap (λ o. option_map_or (λ s. s.barrier) (submission_of plan past b.0) false && is_obj n o) (blocks.node b.0) ∙ both (submission_of plan past b.0))
  where
    both : (o : Option Submission) → (option_map_or (λ s. s.barrier) o false && is_obj n (option_and_then (λ s. s.node) o)) ≡ option_map_or (λ s. s.barrier && is_on n s) o false
    both None = refl
    both (Some s) = refl

began : (drains : DrainsView) (node : Option Obj) (barrier : Bool) (n k : ℕ) → ((q : Obj) → node ≡ Some q → q.0 < length drains.barriers) → barriers_at drains n ≡ k
    → barriers_at (barrier_began drains node barrier) n ≡ k + cond {A = ℕ} (barrier && is_obj n node) 1 0
began drains None true n k low e = omega (arith, e)
began drains None false n k low e = omega (arith, e)
began drains (Some q) true n k low e = let m = one_more drains.barriers q.0 n k (low q refl) e in omega (arith, m)
began drains (Some q) false n k low e = omega (arith, e)

ended : (drains : DrainsView) (node : Option Obj) (barrier : Bool) (n k : ℕ) → ((q : Obj) → barrier ≡ true → node ≡ Some q → (q.0 < length drains.barriers) × (0 < barriers_at drains q.0)) → barriers_at drains n ≡ k
    → barriers_at (barrier_ended drains node barrier) n + cond {A = ℕ} (barrier && is_obj n node) 1 0 ≡ k
ended drains None true n k low e = omega (arith, e)
ended drains None false n k low e = omega (arith, e)
ended drains (Some q) true n k low e = let f = low q refl refl in one_less drains.barriers q.0 n k f.0 f.1 e
ended drains (Some q) false n k low e = omega (arith, e)

barriers_step : (plan : PlanView) (past : List Event) (e : Event) (v : MachineView) (n : ℕ) → IsLawful plan (e ∷ past) → PartsFit plan v → OwnFit plan v → BlocksAre plan past v → DrainsAre plan past v
    → barriers_at (drains_after plan v e) n ≡ count_by (is_barrier_on plan (e ∷ past) n) (open_runs (e ∷ past))
barriers_step plan past (Start w b) v n lawful fit own blocks ties =
    let long = fit.barriers in
    let m = began v.drains (block_at v b.0).node (block_at v b.0).barrier n _ (λ q at. let low = own.nodes b.0 q at in omega (arith, low, long)) (ties.barriers n) in
    let push = count_by_push (is_barrier_on plan (Start w b ∷ past) n) (open_runs past) (Block b) in
    let same = kept plan past (Start w b) n lawful.0 in
    let here = ap (λ u. cond {A = ℕ} u 1 0) (told_barrier plan past v b n blocks ∙ sym (barrier_kept plan (Start w b) past n b (at_start plan past w b lawful.1).submitted_one)) in
    omega (arith, m, push, same, here)
barriers_step plan past (End w b) v n lawful fit own blocks ties =
    let long = fit.barriers in
    let live = open_from_has_run plan past w (Block b) (at_end plan past w b lawful.1).own in
    let less : (k : ℕ) → count_by (is_barrier_on plan (End w b ∷ past) k) (open_runs (End w b ∷ past)) + cond {A = ℕ} ((block_at v b.0).barrier && is_obj k (block_at v b.0).node) 1 0 ≡ count_by (is_barrier_on plan past k) (open_runs past) = λ k.
    let t = one_taken plan past (is_barrier_on plan (End w b ∷ past) k) (Block b) lawful.0 live in
    let same = kept plan past (End w b) k lawful.0 in
    let here = ap (λ u. cond {A = ℕ} u 1 0) (told_barrier plan past v b k blocks ∙ sym (barrier_kept_open plan (End w b) past lawful.0 k (Block b) live)) in
    omega (arith, t, same, here) in
    let m = ended v.drains (block_at v b.0).node (block_at v b.0).barrier n _ (λ q yes_barrier at.
    let low = own.nodes b.0 q at in
    let l = less q.0 in
    let on = and_from (block_at v b.0).barrier (is_obj q.0 (block_at v b.0).node) yes_barrier (ap (is_obj q.0) at ∙ eq-eqb q.0 q.0 refl) in
    let one = ap (λ u. cond {A = ℕ} u 1 0) on in
    let tie = ties.barriers q.0 in
    (omega (arith, low, long), omega (arith, l, one, tie))) (ties.barriers n) in
    let l = less n in
    omega (arith, m, l)
barriers_step plan past (Deliver w s) v n lawful fit own blocks ties =
    let push = count_by_push (is_barrier_on plan (Deliver w s ∷ past) n) (open_runs past) (Source s) in
    let same = kept plan past (Deliver w s) n lawful.0 in
    let tie = ties.barriers n in
    omega (arith, push, same, tie)
barriers_step plan past (DeliverEnd w s) v n lawful fit own blocks ties =
    let live = open_from_has_run plan past w (Source s) (at_deliver_end plan past w s lawful.1).own in
    let t = one_taken plan past (is_barrier_on plan (DeliverEnd w s ∷ past) n) (Source s) lawful.0 live in
    let same = kept plan past (DeliverEnd w s) n lawful.0 in
    let tie = ties.barriers n in
    omega (arith, t, same, tie)
barriers_step plan past e v n lawful fit own blocks ties = ties.barriers n ∙ sym (kept plan past e n lawful.0)

pub drains_step : (plan : PlanView) (past : List Event) (e : Event) (v : MachineView) → IsLawful plan (e ∷ past) → PartsFit plan v → OwnFit plan v → BlocksAre plan past v → DrainsAre plan past v → DrainsAre plan (e ∷ past) (after plan v e)
drains_step plan past e v lawful fit own blocks ties = record { barriers = λ n. barriers_step plan past e v n lawful fit own blocks ties }
