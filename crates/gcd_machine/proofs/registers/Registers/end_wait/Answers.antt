use Rattle.std.proofs.Common.{◌≤◌, ◌∙◌, ap, Some, sym, subst}
use Rattle.gcd_sema.specs.SemasView.{waits_at}
use Rattle.gcd_refinement.specs.MachineView.{MachineView}
use Rattle.gcd_machine.proofs.registers.Registers.end_wait.Goals as goal

pub expire-requires-clause-first : goal.expire-requires-clause-first
expire-requires-clause-first c = (c.requires.semaphore c.in-Rank.s c.in-Rank.rank (c.in-Some.is ∙ ap Some c.in-Rank.is)).low

pub expire-requires-clause-begun : goal.expire-requires-clause-begun
expire-requires-clause-begun c =
    subst (λ (m : MachineView). c.in-Rank.rank ≤ waits_at m.semas c.in-Rank.s.0) (sym c.self.view_is)
    (c.requires.semaphore c.in-Rank.s c.in-Rank.rank (c.in-Some.is ∙ ap Some c.in-Rank.is)).begun
