use Rattle.std.proofs.Common.{◌≡◌, false, Some, sym, subst, ◌∙◌}
use Rattle.std.proofs.lemmas.Bool.{false≢true}
use Rattle.gcd_event.specs.declared.event.Event.{Event}
use Rattle.gcd_event.specs.declared.event.Event.TheVariants.{Start}
use Rattle.gcd_machine.specs.Chosen.{idle_choice_at}
use Rattle.gcd_machine.specs.Quick.{StartsNext, is_quick_at}
use Rattle.gcd_machine.proofs.Choice.Quick.{choice_idle}
use Rattle.gcd_machine.proofs.registers.Registers.run_due.Goals as goal

pub returns-in-None : goal.returns-in-None
returns-in-None c = λ b due.
    let m = c.args.self.now in
    let w = c.args.worker in
    let slow : (e : Event) → idle_choice_at m w 0 ≡ Some e → is_quick_at m e ≡ false = subst (StartsNext (idle_choice_at m w 0) m w) c.in-None.is c.start_due.ensures in
    let idle = choice_idle m w (sym c.is_over.ensures ∙ c.if-is_over.false) (sym c.is_worker.ensures ∙ c.if-not-is_worker.false) due.free in
    absurd (false≢true (sym (slow (Start w b) (sym idle ∙ due.chosen)) ∙ due.quick))
