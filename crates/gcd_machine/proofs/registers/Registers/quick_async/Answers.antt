use Rattle.std.proofs.Common.{sym, ◌∙◌, subst}
use Rattle.gcd_plan.proofs.Options.{none_from_is_some}
use Rattle.gcd_plan.specs.declared.act.Act.TheVariants.{Async}
use Rattle.gcd_plan.specs.declared.numbers.Run.{Run}
use Rattle.gcd_plan.specs.declared.numbers.Run.TheVariants.{Block}
use Rattle.gcd_history.proofs.Blocks.SubmittedOnNodes.{act_fits}
use Rattle.gcd_history.proofs.Permitted.Reasons.{due_is}
use Rattle.gcd_history.specs.Runs.{act_at}
use Rattle.gcd_machine.specs.Conditions.{CanTake}
use Rattle.gcd_machine.specs.Judged.{done_at, is_cancelled_run_at}
use Rattle.gcd_machine.proofs.Choice.Quick.{act_chosen}
use Rattle.gcd_machine.proofs.registers.Registers.quick_async.Goals as goal

pub misuse-requires-clause-act : goal.misuse-requires-clause-act
misuse-requires-clause-act c =
    let m = c.args.self.now in
    let run : Run = Block c.args.blk in
    let act = Async c.args.queue c.args.b in
    let i = done_at m run in
    act_fits m.plan run i act c.requires.shape.valid (due_is (is_cancelled_run_at m run) (act_at m.plan run i) act c.requires.act)

pub make-requires : goal.make-requires
make-requires c =
    let m = c.args.self.now in
    let run : Run = Block c.args.blk in
    let act = Async c.args.queue c.args.b in
    let i = done_at m run in
    let proper = sym c.misuse.ensures ∙ none_from_is_some c.misuse.result (sym c.is_some.ensures ∙ c.if-is_some.false) in
    let takes = subst (CanTake m) (act_chosen m c.args.worker run act c.requires.act proper) c.requires.takes in
    takes.changes.acts act (due_is (is_cancelled_run_at m run) (act_at m.plan run i) act c.requires.act)
