-- Who sleeps at an object is parked, and its wait is not over.
use Rattle.std.proofs.Common.{◌≡◌, ⊎_elim, ℕ, true, false, List, ◌++◌, Some}
use Rattle.gcd_plan.specs.PlanView.{PlanView}
use Rattle.gcd_plan.specs.Validity.{IsPlan}
use Rattle.gcd_plan.specs.declared.numbers.Blk.{Blk}
use Rattle.gcd_plan.specs.declared.numbers.Obj.{Obj}
use Rattle.gcd_plan.specs.declared.numbers.Run.TheVariants.{Block}
use Rattle.gcd_plan.specs.declared.reason.Reason.{Reason}
use Rattle.gcd_plan.specs.declared.reason.Reason.TheVariants.{Group as Empty, Rank}
use Rattle.gcd_event.specs.declared.event.Event.{Event}
use Rattle.gcd_history.specs.Parked.{awaited, is_over}
use Rattle.gcd_history.specs.Permitted.{IsLawful}
use Rattle.gcd_refinement.specs.Sleepers.{sema_sleepers, group_sleepers}
use Rattle.gcd_refinement.proofs.Lists.Among.{among, split}
use Rattle.gcd_refinement.proofs.Semas.Ranks.{sema_sleeper_parked}
use Rattle.gcd_refinement.proofs.Groups.Sleepers.{not_over, sleeper_parked}

-- what it is parked for
pub record IsAsleep (plan : PlanView) (past : List Event) (b : Blk) : Type 0 where
  pub why : Reason
  pub is : awaited plan past (Block b) ≡ Some why
  pub waits : is_over plan past why ≡ false

pub asleep_parked : (plan : PlanView) (past : List Event) (b : Blk) (s : ℕ) → IsPlan plan → IsLawful plan past → among b (sema_sleepers plan past s ++ group_sleepers plan past s) ≡ true → IsAsleep plan past b
asleep_parked plan past b s valid lawful any =
    let o : Obj = record { 0 = s } in
    ⊎_elim
    (λ at_sema. let one = sema_sleeper_parked plan past b o valid lawful at_sema in record { why = Rank o one.rank; is = one.is; waits = one.waits })
    (λ at_group.
    let one = sleeper_parked plan past b o lawful at_group in
    record { why = Empty o one.position; is = one.is; waits = not_over plan past o one.position one.waits one.unexpired })
    (split b (sema_sleepers plan past s) (group_sleepers plan past s) any)
