use Rattle.std.proofs.Common.{◌∙◌}
use Rattle.gcd_plan.specs.PlanView.{view_of, strip_view}
use Rattle.gcd_builder.specs.Agreement.{look_up}
use Rattle.gcd_builder.proofs.Agreement.{strip_agrees}
use Rattle.gcd_builder.proofs.Seen.{seen_length}
use Rattle.gcd_builder.proofs.draft.PlanDraft.add_strip.Goals as goal

pub returns-clause-agrees : goal.returns-clause-agrees
returns-clause-agrees c =
    let old = c.args.self.now in
    let same = c.len-strip.ensures ∙ seen_length strip_view old.parts.strips in
    rw (c.in_ok-push.ensures.items, c.in_ok-push_strip.ensures)
    (strip_agrees (look_up old.meanings) (look_up c.declare.new.meanings) old.submitted.items c.add_flags.new.flags.items old.applied.items old.acts
    (view_of old.parts) c.requires.valid c.requires.agrees c.args.count c.in_ok-add_flags.ensures
    c.args.name.now c.args.how c.args.file c.args.len c.requires.unused c.len-strip.result same c.in_ok-declare.ensures)
