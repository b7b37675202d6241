use Rattle.gcd_plan.specs.PlanView.{view_of}
use Rattle.gcd_builder.specs.Agreement.{look_up}
use Rattle.gcd_builder.proofs.Agreement.{intake_agrees}
use Rattle.gcd_builder.proofs.draft.PlanDraft.add_intake.Goals as goal

pub returns-clause-agrees : goal.returns-clause-agrees
returns-clause-agrees c =
    let old = c.args.self.now in
    rw c.in_ok-push_intake.ensures
    (intake_agrees (look_up old.meanings) (look_up old.meanings) old.submitted.items c.add_flags.new.flags.items old.applied.items old.acts
    (view_of old.parts) c.requires.valid c.requires.agrees c.args.count c.in_ok-add_flags.ensures
    c.args.queue c.requires.first c.requires.queue c.requires.low c.requires.high c.requires.room)
