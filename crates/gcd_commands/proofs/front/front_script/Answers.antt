use Rattle.std.proofs.Common.{◌+◌, map, length, refl}
use Rattle.gcd_commands.specs.Fronts.FrontEnds.{ran}
use Rattle.gcd_commands.specs.Hands.HandsRun.{ran as hands_run}
use Rattle.gcd_commands.specs.Fronts.StopsFront.{wanting}
use Rattle.gcd_builder.proofs.Refused.{handed_on}
use Rattle.gcd_commands.proofs.front.front_script.Goals as goal

pub returns-in_err-plan-clause-stopped : goal.returns-in_err-plan-clause-stopped
returns-in_err-plan-clause-stopped g c =
    handed_on _ c.from_residual.result c.in_err-plan.field-0.0 c.from_residual.ensures.1 c.in_err-plan.ensures.stopped

pub returns-in-Ok-clause-told : goal.returns-in-Ok-clause-told
returns-in-Ok-clause-told g c =
    let has = c.in_ok-plan.ensures.intake in
    record {
      loads = length c.in_ok-plan.plan.files + 1;
      made = c.in_ok-plan.ensures.loads;
      is = ran c.in_ok-plan.plan (map (λ f. f.items) c.in_ok-plan.files.items) has.intake c.in_ok-plan.ensures.ready has.intake_is refl
          (c.in-Ok.ensures.told has.intake has.intake_is);
    }

pub returns-in-Ok-clause-found : goal.returns-in-Ok-clause-found
returns-in-Ok-clause-found g c = hands_run c.in_ok-plan.plan c.in_ok-plan.ensures.ready.plan_is c.in-Ok.ensures.found

pub returns-clause-stopped : goal.returns-clause-stopped
returns-clause-stopped g c =
    record {
      loads = length c.in_ok-plan.plan.files + 1;
      made = c.in_ok-plan.ensures.loads;
      is = wanting c.in_ok-plan.plan (map (λ f. f.items) c.in_ok-plan.files.items) c.in_ok-plan.ensures.ready refl refl;
    }
