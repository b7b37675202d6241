use Rattle.std.proofs.Common.{Some, sym, ap, ◌∙◌}
use Rattle.gcd_machine.proofs.Choice.Slow.{async_is}
use Rattle.gcd_machine.proofs.registers.Registers.quick_of_block.Goals as goal

pub quick_async-requires-clause-act : goal.quick_async-requires-clause-act
quick_async-requires-clause-act c =
    let act = c.in-Some.act in
    sym c.next_act.ensures ∙ c.in-Some.is
    ∙ ap Some (async_is act c.in_ok-queue-in-Some.queue c.in_ok-queue-in-Some.b (sym c.async_of.ensures ∙ c.in_ok-queue-in-Some.was))
