use Rattle.gcd_plan.specs.PlanView.{view_of}
use Rattle.gcd_builder.specs.Agreement.{look_up}
use Rattle.gcd_builder.proofs.Agreement.{cancelled_agrees}
use Rattle.gcd_builder.proofs.draft.PlanDraft.add_cancel.Goals as goal

pub returns-clause-agrees : goal.returns-clause-agrees
returns-clause-agrees c =
    let old = c.args.self.now in
    rw c.set_cancel.ensures
    (cancelled_agrees (look_up old.meanings) old.submitted.items old.applied.items old.acts (view_of old.parts) c.requires.agrees c.requires.valid
    c.args.source c.args.block c.requires.source c.requires.lacks c.requires.declared)
