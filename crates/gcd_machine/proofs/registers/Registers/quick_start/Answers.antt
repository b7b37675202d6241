use Rattle.std.proofs.Common.{subst}
use Rattle.gcd_event.specs.declared.event.Event.TheVariants.{Start}
use Rattle.gcd_machine.specs.Chosen.{idle_choice_at}
use Rattle.gcd_machine.specs.Quick.{IsStartNext, StartsNext}
use Rattle.gcd_machine.proofs.registers.Registers.quick_start.Goals as goal

pub taken-requires : goal.taken-requires
taken-requires c =
    let m = c.args.self.now in
    let w = c.args.worker in
    let b = c.in_ok-blk.blk in
    let due : IsStartNext (idle_choice_at m w 0) m w b = subst (StartsNext (idle_choice_at m w 0) m w) c.in_ok-blk.was c.start_due.ensures in
    c.requires.takes (Start w b) due.chosen_is
