use Rattle.std.proofs.Common.{sym, ◌∙◌}
use Rattle.gcd_history.proofs.Blocks.SubmittedOnNodes.{act_fits}
use Rattle.gcd_machine.proofs.registers.Registers.misuse_of_run.Goals as goal

pub misuse-requires-clause-act : goal.misuse-requires-clause-act
misuse-requires-clause-act c =
    act_fits c.args.self.now.plan c.args.run c.args.index c.in_ok-act_at.field-0 c.requires.valid (sym c.act_at.ensures ∙ c.in_ok-act_at.was)
