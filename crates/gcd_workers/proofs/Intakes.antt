-- The intake of a plan.
use Rattle.std.proofs.Common.{◌≡◌, ◌<◌, ◌&&◌, Option, Some, nat_le, subst, sym, arith}
use Rattle.std.specs.Prelude.{IfSome}
use Rattle.std.proofs.lemmas.Bool.{and_parts, leb-true}
use Rattle.gcd_plan.specs.Kinds.{is_queue}
use Rattle.gcd_plan.specs.Limits.{max_intake}
use Rattle.gcd_plan.specs.PlanView.{PlanView, IntakeView}
use Rattle.gcd_plan.specs.Validity.{IsIntake, IsPlan}

-- the intake of a valid plan has a block at least
pub some_blocks : (plan : PlanView) (intake : IntakeView) → IsPlan plan → Some intake ≡ plan.intake → 0 < intake.count
some_blocks plan intake valid is =
    let of : IsIntake plan intake = subst (λ (o : Option IntakeView). IfSome o (IsIntake plan)) (sym is) valid.intake in
    let parts = and_parts (is_queue plan intake.queue.0) (nat_le 1 intake.count && nat_le intake.count max_intake) of.fits in
    let bounds = and_parts (nat_le 1 intake.count) (nat_le intake.count max_intake) parts.1 in
    let low = leb-true 1 intake.count bounds.0 in
    omega (arith, low)
