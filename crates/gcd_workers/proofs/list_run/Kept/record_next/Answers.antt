use Rattle.std.proofs.Common.{subst}
use Rattle.gcd_workers.specs.ListRuns.{HasStepped, IsStep}
use Rattle.gcd_workers.proofs.list_run.Kept.record_next.Goals as goal

pub returns-in-Some-clause-chosen : goal.returns-in-Some-clause-chosen
returns-in-Some-clause-chosen c =
    let plan = c.args.over.now.plan.now in let h = c.args.self.now.journal.items in let k = c.record_quick.new.self.journal.items in
    let step : IsStep plan h k c.in-Some.field-0 = subst (HasStepped plan h k) c.in-Some.is c.in_ok-record_quick.ensures.stepped in
    record { event = c.in-Some.field-0; chosen = step.chosen }
