use Rattle.std.proofs.Common.{◌∙◌}
use Rattle.gcd_plan.specs.PlanView.{view_of, blk_view}
use Rattle.gcd_builder.proofs.Bodied.{named_has}
use Rattle.gcd_builder.proofs.draft.PlanDraft.has_body.Goals as goal

pub returns : goal.returns
returns c =
    c.is_named.ensures
    ∙ named_has (view_of c.args.self.now.parts) c.requires c.args.b.0 (blk_view c.block_at.result.now) c.block_at.ensures
