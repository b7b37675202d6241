use Rattle.std.proofs.Common.{◌≡◌, ◌∙◌, is_some, refl, ap, arith, sym, subst}
use Rattle.gcd_plan.proofs.Options.{none_from_is_some}
use Rattle.gcd_event.specs.Owners.{ended}
use Rattle.gcd_loop.specs.Rushed.{IsRushed}
use Rattle.gcd_loop.proofs.Rushes.{rushed_none, rushed_on}
use Rattle.gcd_machine.specs.Calm.{IsCalm}
use Rattle.gcd_workers.specs.ListRuns.{HasChosen, HasStepped, IsOneMore, IsStep}
use Rattle.gcd_workers.proofs.AloneSteps.{stays_same, stays_through}
use Rattle.gcd_workers.proofs.Rushing.{one_more}
use Rattle.gcd_workers.proofs.jobs_kept.JobsKept.rush_on.Goals as goal

pub loop-calm-init : goal.loop-calm-init
loop-calm-init g c =
    let given = c.args.given.now in let h = c.args.self.now.journal.items in let states = c.args.self.now.states.items in
    record {
      run = c.requires.run;
      rushed = rushed_none given.plan.now h;
      calm = λ calm. c.is_calm-calm.ensures.calm given.plan.now h c.requires.run.stands calm;
      stays = stays_same g.J.Job.gives h h states states refl (λ b value may. may);
    }

pub loop-calm-preserved-then-is_some : goal.loop-calm-preserved-then-is_some
loop-calm-preserved-then-is_some g c =
    let plan = c.args.given.now.plan.now in
    let first = c.args.self.now in let mid = c.loop-calm.self in let next = c.record_quick.new.self in let last = c.rush_through.new.self in
    let start = first.journal.items in let h = mid.journal.items in let k = next.journal.items in let l = last.journal.items in
    let before = c.loop-calm.invariant in
    let step : IsStep plan h k c.in-Some.e = subst (HasStepped plan h k) c.in-Some.is c.in_ok-e.ensures.stepped in
    let one = one_more plan start h k c.in-Some.e before.rushed (before.calm c.loop-calm-test.true) step.chosen in
    let stays = stays_through g.J.Job.gives start h k first.states.items mid.states.items next.states.items before.stays c.in_ok-e.ensures.stays in
    record {
      run = c.rush_through.ensures.run;
      rushed = rushed_on plan start k l one c.in_ok-calm-in-Some.ensures.rushed;
      calm = c.in_ok-calm-in-Some.ensures.calm;
      stays = stays_through g.J.Job.gives start k l first.states.items next.states.items last.states.items stays c.in_ok-calm-in-Some.ensures.stays;
    }

pub loop-calm-preserved-else-is_some : goal.loop-calm-preserved-else-is_some
loop-calm-preserved-else-is_some g c =
    let plan = c.args.given.now.plan.now in
    let first = c.args.self.now in let mid = c.loop-calm.self in let next = c.record_quick.new.self in
    let start = first.journal.items in let h = mid.journal.items in let k = next.journal.items in
    let e = c.in-Some.e in
    let before = c.loop-calm.invariant in
    let calm = before.calm c.loop-calm-test.true in
    let step : IsStep plan h k e = subst (HasStepped plan h k) c.in-Some.is c.in_ok-e.ensures.stepped in
    record {
      run = c.record_quick.ensures.run;
      rushed = one_more plan start h k e before.rushed calm step.chosen;
      calm = λ still. step.calm (none_from_is_some (ended e) (sym (ap is_some c.ended.ensures) ∙ (sym c.is_some.ensures ∙ c.if-is_some.false))) calm;
      stays = stays_through g.J.Job.gives start h k first.states.items mid.states.items next.states.items before.stays c.in_ok-e.ensures.stays;
    }

pub loop-calm-preserved : goal.loop-calm-preserved
loop-calm-preserved g c =
    let plan = c.args.given.now.plan.now in
    let first = c.args.self.now in let mid = c.loop-calm.self in let next = c.record_quick.new.self in let last = c.record_choice.new.self in
    let start = first.journal.items in let h = mid.journal.items in let k = next.journal.items in let l = last.journal.items in
    let before = c.loop-calm.invariant in
    let same : k ≡ h = subst (HasStepped plan h k) c.in-None.is c.in_ok-e.ensures.stepped in
    let one : IsOneMore plan k l = subst (HasChosen plan k l) c.if-not-branch.false c.in_ok-record_choice-in-None.ensures.chosen in
    let stays = stays_through g.J.Job.gives start h k first.states.items mid.states.items next.states.items before.stays c.in_ok-e.ensures.stays in
    record {
      run = c.record_choice.ensures.run;
      rushed = one_more plan start k l one.event (subst (IsRushed plan start) (sym same) before.rushed) (subst (IsCalm plan) (sym same) (before.calm c.loop-calm-test.true)) one.chosen;
      calm = λ calm. c.is_calm-calm-in-None.ensures.calm plan l c.record_choice.ensures.run.stands calm;
      stays = stays_through g.J.Job.gives start k l first.states.items next.states.items last.states.items stays c.in_ok-record_choice-in-None.ensures.stays;
    }
