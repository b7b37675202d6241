use Rattle.std.proofs.Common.{◌∙◌}
use Rattle.gcd_plan.specs.PlanView.{view_of, blk_view}
use Rattle.gcd_builder.specs.Agreement.{look_up}
use Rattle.gcd_builder.proofs.Agreement.{block_agrees}
use Rattle.gcd_builder.proofs.Seen.{seen_length}
use Rattle.gcd_builder.proofs.draft.PlanDraft.add_block.Goals as goal

pub returns-clause-agrees : goal.returns-clause-agrees
returns-clause-agrees c =
    let old = c.args.self.now in
    let same = c.len.ensures ∙ seen_length blk_view old.parts.blocks in
    rw (c.in_ok-push.ensures.items, c.in_ok-push_block.ensures)
    (block_agrees (look_up old.meanings) (look_up c.declare.new.meanings) old.submitted.items old.applied.items old.acts (view_of old.parts) c.requires.agrees
    c.args.name.now c.args.work c.requires.unused c.len.result same c.in_ok-declare.ensures)
