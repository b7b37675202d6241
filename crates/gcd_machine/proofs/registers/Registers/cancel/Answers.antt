use Rattle.std.proofs.Common.{◌∙◌, sym, ap}
use Rattle.gcd_plan.specs.PlanView.{cancel_block}
use Rattle.gcd_source.specs.SourcesView.{is_cancelled_at}
use Rattle.gcd_machine.proofs.Conditions.Kept.{may_submit_cancelled}
use Rattle.gcd_machine.proofs.registers.Registers.cancel.Goals as goal

pub submit-requires : goal.submit-requires
submit-requires c =
    let live = ap (λ m. is_cancelled_at m.sources c.args.src.0) (sym c.self.view_is) ∙ (sym c.is_cancelled.ensures ∙ c.if-is_cancelled.false) in
    let plan = ap (λ m. m.plan) (sym (c.self-2.view_is ∙ c.make_cancelled.ensures)) ∙ sym c.deref.ensures in
    let block = ap (λ p. cancel_block p c.args.src.0) plan ∙ sym c.in-Some.ensures in
    may_submit_cancelled c.make_cancelled.ensures (c.requires.submits live c.in-Some.blk block)
