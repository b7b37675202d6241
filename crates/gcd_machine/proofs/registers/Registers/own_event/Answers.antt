use Rattle.std.proofs.Common.{sym, ◌∙◌}
use Rattle.gcd_history.proofs.Blocks.SubmittedOnNodes.{act_fits}
use Rattle.gcd_history.specs.Runs.{act_at}
use Rattle.gcd_history.proofs.Permitted.Reasons.{due_is}
use Rattle.gcd_machine.specs.Judged.{done_at, is_cancelled_run_at}
use Rattle.gcd_machine.proofs.registers.Registers.own_event.Goals as goal

pub act_event-requires-clause-act : goal.act_event-requires-clause-act
act_event-requires-clause-act c =
    let m = c.args.self.now in
    let i = done_at m c.args.run in
    let at = due_is (is_cancelled_run_at m c.args.run) (act_at m.plan c.args.run i) c.in-Some.act (sym c.next_act.ensures ∙ c.in-Some.is) in
    act_fits m.plan c.args.run i c.in-Some.act c.requires.shape.valid at
