use Rattle.std.proofs.Common.{Some, ap, sym, ◌∙◌}
use Rattle.gcd_plan.specs.declared.numbers.Run.TheVariants.{Block}
use Rattle.gcd_machine.specs.Chosen.{own_event_at}
use Rattle.gcd_machine.proofs.Choice.Quick.{choice_idle, choice_own}
use Rattle.gcd_machine.proofs.registers.Registers.quick.Goals as goal

pub quick_of_block-requires-clause-run : goal.quick_of_block-requires-clause-run
quick_of_block-requires-clause-run c =
    c.requires.shape.own.runs c.args.worker (Block c.in-Some-Block.blk) (sym c.own.ensures ∙ (c.in-Some-Block.is ∙ ap Some c.in-Some-Block.field-0-is))

pub quick_of_block-requires-clause-takes : goal.quick_of_block-requires-clause-takes
quick_of_block-requires-clause-takes c =
    let m = c.args.self.now in
    let w = c.args.worker in
    let run = Block c.in-Some-Block.blk in
    c.requires.takes (own_event_at m w run)
    (choice_own m w run (sym c.is_over.ensures ∙ c.if-is_over.false) (sym c.is_worker.ensures ∙ c.if-not-is_worker.false) (sym c.own.ensures ∙ (c.in-Some-Block.is ∙ ap Some c.in-Some-Block.field-0-is)))

pub quick_start-requires-clause-takes : goal.quick_start-requires-clause-takes
quick_start-requires-clause-takes c = λ e chosen.
    let m = c.args.self.now in
    let w = c.args.worker in
    c.requires.takes e
    (choice_idle m w (sym c.is_over.ensures ∙ c.if-is_over.false) (sym c.is_worker.ensures ∙ c.if-not-is_worker.false) (sym c.own.ensures ∙ c.in-None.is) ∙ chosen)
