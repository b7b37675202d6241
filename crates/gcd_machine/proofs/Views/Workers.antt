-- Who has which run, and what is left of it, as what a machine keeps tells it.
use Rattle.std.proofs.Common.{◌≡◌, ℕ, ◌==◌, true, false, ◌&&◌, ◌||◌, cond, List, [], ◌∷◌, Some, None, is_some, refl, ap, sym, ◌∙◌}
use Rattle.std.specs.List.{list_any}
use Rattle.gcd_plan.specs.PlanView.{PlanView}
use Rattle.gcd_plan.specs.declared.numbers.Run.{Run}
use Rattle.gcd_plan.specs.declared.numbers.Run.TheVariants.{Block, Source}
use Rattle.gcd_event.specs.declared.event.Event.{Event}
use Rattle.gcd_event.specs.declared.event.Event.TheVariants.{Misuse, Halt}
use Rattle.gcd_history.specs.Runs.{open_runs, acts_done, act_at}
use Rattle.gcd_history.specs.Cancelled.{act_due}
use Rattle.gcd_history.specs.Parked.{has_run, is_busy}
use Rattle.gcd_history.specs.Permitted.{ends_in_misuse, ends_in_halt, is_halted, is_next, has_act_left}
use Rattle.gcd_history.proofs.Lists.{none_passes}
use Rattle.gcd_plan.proofs.Quantifiers.{list_any_agree}
use Rattle.gcd_history.proofs.Runs.OpenNodes.{any_open}
use Rattle.gcd_history.proofs.Runs.Open.{same_run-refl}
use Rattle.gcd_history.proofs.Blocks.StartedOnce.{open_from_has_run}
use Rattle.gcd_refinement.specs.MachineView.{MachineView, at_worker}
use Rattle.gcd_refinement.specs.Stands.{IsTied}
use Rattle.gcd_refinement.specs.Ties.{is_run, WorkersAre, BlocksAre, HandlersAre, BlockMarksAre, TotalsAre}
use Rattle.gcd_machine.specs.Judged.{done_at, act_due_at, next_act_at, is_next_at, is_busy_at, is_own_at}

-- ## Workers

pub own_is : (plan : PlanView) (past : List Event) (v : MachineView) (w : ℕ) (run : Run) → WorkersAre plan past v → is_own_at v w run ≡ has_run plan past w run
own_is plan past v w run workers = sym (workers.runs w run)

-- a worker has a run where an open run is its own
pub busy_is : (plan : PlanView) (past : List Event) (v : MachineView) (w : ℕ) → WorkersAre plan past v → is_busy_at v w ≡ is_busy plan past w
unfolding is_busy
busy_is plan past v w workers =
    elim (at_worker v w) as (λ o. at_worker v w ≡ o → is_some o ≡ list_any (has_run plan past w) (open_runs past)) [
      | None ↦ λ free.
          sym (list_any_agree (has_run plan past w) (λ run. false) (open_runs past) (λ run. workers.runs w run ∙ ap (is_run run) free) ∙ none_passes (open_runs past))
      | Some own ↦ λ at.
          let has : has_run plan past w own ≡ true = workers.runs w own ∙ (ap (is_run own) at ∙ same_run-refl own) in
          sym (any_open past (has_run plan past w) own (open_from_has_run plan past w own has) has)
    ] refl

-- ## Acts

pub done_is : (plan : PlanView) (past : List Event) (v : MachineView) (run : Run) → BlocksAre plan past v → HandlersAre plan past v → done_at v run ≡ acts_done past run
done_is plan past v (Block b) blocks handlers = blocks.done b.0
done_is plan past v (Source s) blocks handlers = handlers.done s.0

-- the act of a run, which is none of a cancelled block
pub due_is : (m : MachineView) (past : List Event) (run : Run) (i : ℕ) → BlockMarksAre m.plan past m → act_due_at m run i ≡ act_due m.plan past run i
due_is m past (Block b) i marks = ap (λ v. cond v None (act_at m.plan (Block b) i)) (marks.cancelled b.0)
due_is m past (Source s) i marks = refl

pub next_is : (m : MachineView) (past : List Event) (run : Run) (i : ℕ) → IsTied m.plan past m → is_next_at m run i ≡ is_next m.plan past run i
unfolding is_next
next_is m past run i tied =
    ap (λ n. i == n && is_some (act_due_at m run i)) (done_is m.plan past m run tied.blocks tied.handlers)
    ∙ ap (λ o. i == acts_done past run && is_some o) (due_is m past run i tied.block_marks)

pub left_is : (m : MachineView) (past : List Event) (run : Run) → IsTied m.plan past m → is_some (next_act_at m run) ≡ has_act_left m.plan past run
unfolding has_act_left
left_is m past run tied =
    ap (λ n. is_some (act_due_at m run n)) (done_is m.plan past m run tied.blocks tied.handlers)
    ∙ ap is_some (due_is m past run (acts_done past run) tied.block_marks)

-- ## The end of the run

ends : (past : List Event) → (ends_in_misuse past || ends_in_halt past) ≡ is_halted past
ends [] = refl
ends (Misuse w c run i ∷ past) = refl
ends (Halt ∷ past) = refl
ends (e ∷ past) = refl

pub over_is : (plan : PlanView) (past : List Event) (v : MachineView) → TotalsAre plan past v → (v.misused || v.halted) ≡ is_halted past
over_is plan past v totals = ap (λ b. b || v.halted) totals.misused ∙ (ap (λ b. ends_in_misuse past || b) totals.halted ∙ ends past)
