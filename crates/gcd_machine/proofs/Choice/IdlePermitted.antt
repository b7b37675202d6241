-- What is permitted to a worker without a run.
use Rattle.std.proofs.Common.{◌≡◌, ℕ, ◌<◌, Bool, true, false, ◌||◌, cond, List, length, Option, Some, None, is_some, is_none, option_map, refl, ap, sym, ◌∙◌}
use Rattle.std.specs.List.{slice_get}
use Rattle.std.proofs.lemmas.Bool.{and_from}
use Rattle.std.proofs.lemmas.Option.{slice_get_within}
use Rattle.gcd_plan.specs.PlanView.{PlanView}
use Rattle.gcd_plan.specs.Kinds.{is_source}
use Rattle.gcd_plan.specs.Validity.{IsPlan}
use Rattle.gcd_plan.specs.declared.numbers.Blk.{Blk}
use Rattle.gcd_plan.specs.declared.numbers.Obj.{Obj}
use Rattle.gcd_plan.specs.declared.numbers.Run.{Run}
use Rattle.gcd_plan.specs.declared.why.Why.{Why}
use Rattle.gcd_plan.specs.declared.why.Why.TheVariants.{Over, NoSuch, Busy}
use Rattle.gcd_event.specs.declared.event.Event.{Event}
use Rattle.gcd_event.specs.declared.event.Event.TheVariants.{Start, Deliver}
use Rattle.gcd_history.specs.Parked.{has_run}
use Rattle.gcd_history.specs.Permitted.{is_halted, is_known, is_worker, has_block, permitted}
use Rattle.gcd_refinement.specs.MachineView.{MachineView, at_worker}
use Rattle.gcd_refinement.specs.Stands.{IsTied}
use Rattle.gcd_refinement.specs.Ties.{is_run}
use Rattle.gcd_machine.specs.Judged.{block_fault_at, source_fault_at, fault_at}
use Rattle.gcd_machine.proofs.Reasons.First.{why_is}
use Rattle.gcd_machine.proofs.Views.Workers.{over_is}

-- ## What is permitted to an idle worker

-- the run goes on, and the worker has no run
pub record IsIdle (m : MachineView) (past : List Event) (w : ℕ) : Type 0 where
  pub going : is_halted past ≡ false
  pub worker : is_worker w ≡ true
  pub free : at_worker m w ≡ None

pub has_none : (m : MachineView) (past : List Event) (w : ℕ) → IsTied m.plan past m → at_worker m w ≡ None → (r : Run) → has_run m.plan past w r ≡ false
has_none m past w tied free r = tied.workers.runs w r ∙ ap (is_run r) free

-- of an event that the plan knows its own reasons decide
fault_decides : (over known : Bool) (fault : Option Why) → over ≡ false → known ≡ true → is_none (cond over (Some Over) (cond known fault (Some NoSuch))) ≡ is_none fault
fault_decides false true fault a b = refl
fault_decides true known fault a b = cc
fault_decides false false fault a b = cc

known_is : (m : MachineView) (past : List Event) (e : Event) → IsTied m.plan past m → is_halted past ≡ false → is_known m.plan e ≡ true → permitted m.plan past e ≡ is_none (fault_at m e)
known_is m past e tied going known =
    ap is_none (sym (why_is m.plan past m e tied))
    ∙ fault_decides (m.misused || m.halted) (is_known m.plan e) (fault_at m e) (over_is m.plan past m tied.totals ∙ going) known

pub start_is : (m : MachineView) (past : List Event) (w : ℕ) (b : Blk) → IsTied m.plan past m → IsIdle m past w → has_block m.plan b.0 ≡ true → permitted m.plan past (Start w b) ≡ is_none (block_fault_at m b.0)
start_is m past w b tied idle known =
    known_is m past (Start w b) tied idle.going (and_from (is_worker w) (has_block m.plan b.0) idle.worker known)
    ∙ ap (λ u. is_none (cond u (Some Busy) (block_fault_at m b.0))) (ap is_some idle.free)

pub deliver_is : (m : MachineView) (past : List Event) (w : ℕ) (s : Obj) → IsTied m.plan past m → IsIdle m past w → is_source m.plan s.0 ≡ true → permitted m.plan past (Deliver w s) ≡ is_none (source_fault_at m s.0)
deliver_is m past w s tied idle known =
    known_is m past (Deliver w s) tied idle.going (and_from (is_worker w) (is_source m.plan s.0) idle.worker known)
    ∙ ap (λ u. is_none (cond u (Some Busy) (source_fault_at m s.0))) (ap is_some idle.free)

-- main is a block of the plan
pub has_main : (plan : PlanView) → IsPlan plan → 0 < length plan.blocks
has_main plan valid =
    elim (slice_get plan.blocks 0) as (λ o. slice_get plan.blocks 0 ≡ o → 0 < length plan.blocks) [
      | None ↦ λ none. let main = ap (option_map (λ b. b.name)) (sym none) ∙ valid.main in cc
      | Some b ↦ λ some. slice_get_within plan.blocks 0 b some
    ] refl
