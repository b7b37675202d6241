-- The block that an act registers at a group or at a block is of the plan.
use Rattle.std.proofs.Common.{◌≡◌, ℕ, length, arith}
use Rattle.std.proofs.lemmas.Bool.{and_parts}
use Rattle.gcd_plan.specs.PlanView.{PlanView}
use Rattle.gcd_plan.specs.Kinds.{has_kind, is_group_kind, is_queue}
use Rattle.gcd_plan.specs.Validity.{IsPlan, is_declared}
use Rattle.gcd_plan.specs.declared.act.Act.TheVariants.{Notify, NotifyBlock}
use Rattle.gcd_plan.proofs.Within.{declared_within}
use Rattle.gcd_event.specs.declared.event.Event.{Event}
use Rattle.gcd_history.specs.Runs.{act_of}
use Rattle.gcd_history.proofs.Blocks.SubmittedOnNodes.{recorded_fits}
use Rattle.gcd_refinement.proofs.Groups.NotifyQueues.{Registers}

pub registers_at : (plan : PlanView) (e : Event) (n : ℕ) → IsPlan plan → n ≡ length plan.blocks → Registers (act_of plan e) n
registers_at plan e n valid wide = record {
  at_group = λ g q c at.
      let fits = (and_parts (has_kind is_group_kind plan g.0) _ (recorded_fits plan e (Notify g q c) valid at)).1 in
      let low = declared_within plan c (and_parts (is_queue plan q.0) (is_declared plan c) fits).1 in
      omega (arith, low, wide);
  at_block = λ b q c at.
      let fits = (and_parts (is_declared plan b) _ (recorded_fits plan e (NotifyBlock b q c) valid at)).1 in
      let low = declared_within plan c (and_parts (is_queue plan q.0) (is_declared plan c) fits).1 in
      omega (arith, low, wide);
}
