use Rattle.std.proofs.Common.{◌∙◌, sym, subst}
use Rattle.gcd_plan.specs.PlanView.{view_of, file_view}
use Rattle.gcd_builder.specs.Agreement.{AgreeWithPlan, look_up}
use Rattle.gcd_builder.proofs.Agreement.{file_agrees}
use Rattle.gcd_builder.proofs.Seen.{seen_length}
use Rattle.gcd_builder.proofs.draft.PlanDraft.add_file.Goals as goal

pub returns-clause-agrees : goal.returns-clause-agrees
returns-clause-agrees c =
    let old = c.args.self.now in
    let same = c.len-file.ensures ∙ seen_length file_view old.parts.files in
    subst (AgreeWithPlan (look_up c.declare.new.meanings) old.submitted.items old.applied.items old.acts) (sym c.in_ok-push_file.ensures)
    (file_agrees (look_up old.meanings) (look_up c.declare.new.meanings) old.submitted.items old.applied.items old.acts (view_of old.parts) c.requires.agrees
    c.args.line c.args.name.now c.args.path.now c.requires.unused c.len-file.result same c.in_ok-declare.ensures)
