use Rattle.std.proofs.Common.{◌∙◌, sym, subst}
use Rattle.gcd_plan.specs.PlanView.{view_of, obj_view}
use Rattle.gcd_builder.specs.Agreement.{AgreeWithPlan, look_up}
use Rattle.gcd_builder.proofs.Agreement.{object_agrees}
use Rattle.gcd_builder.proofs.Seen.{seen_length}
use Rattle.gcd_builder.proofs.draft.PlanDraft.add_object.Goals as goal

pub returns-clause-agrees : goal.returns-clause-agrees
returns-clause-agrees c =
    let old = c.args.self.now in
    let same = c.len.ensures ∙ seen_length obj_view old.parts.objects in
    subst (AgreeWithPlan (look_up c.declare.new.meanings) old.submitted.items old.applied.items old.acts) (sym c.in_ok-push_object.ensures)
    (object_agrees (look_up old.meanings) (look_up c.declare.new.meanings) old.submitted.items old.applied.items old.acts (view_of old.parts) c.requires.agrees
    c.args.name.now c.args.kind c.args.target c.args.active c.args.path.now c.requires.unused c.len.result same c.in_ok-declare.ensures)
