use Rattle.std.proofs.Common.{subst, sym, ◌∙◌}
use Rattle.gcd_pool.specs.Throughs.{SaysThrough}
use Rattle.gcd_machine.specs.declared.put.Put.{Put}
use Rattle.gcd_pool.proofs.EndPuts.{end_barred, end_full, end_halted, end_placed, end_held}
use Rattle.gcd_pool.proofs.own.end_said.Goals as goal

pub returns-in-Placed : goal.returns-in-Placed
returns-in-Placed g c = λ board before e is said mine settled.
    end_placed g.S.Slot.shape g.S.Slot.gives board before c.args.pass.now e is settled c.in-Placed.field-0 (subst (λ (o : Put). SaysThrough g.S.Slot.shape g.S.Slot.gives board e before c.args.pass.now o) c.in-Placed.is said) mine

pub returns-in-Full : goal.returns-in-Full
returns-in-Full g c = λ board before e is said mine settled.
    end_full g.S.Slot.shape g.S.Slot.gives board before c.args.pass.now e is settled (subst (λ (o : Put). SaysThrough g.S.Slot.shape g.S.Slot.gives board e before c.args.pass.now o) c.in-Full.is said)

pub returns-in-Held : goal.returns-in-Held
returns-in-Held g c = λ board before e is said mine settled.
    end_held g.S.Slot.shape g.S.Slot.gives board before c.args.pass.now e is settled c.in-Held.by c.in-Held.passed (subst (λ (o : Put). SaysThrough g.S.Slot.shape g.S.Slot.gives board e before c.args.pass.now o) c.in-Held.is said)

pub returns-then-is_halted : goal.returns-then-is_halted
returns-then-is_halted g c = λ board before e is said mine settled.
    end_halted g.S.Slot.shape g.S.Slot.gives board before c.args.pass.now e is settled c.in-Barred.at c.in-Barred.why c.machine.result.now
    (subst (λ (o : Put). SaysThrough g.S.Slot.shape g.S.Slot.gives board e before c.args.pass.now o) c.in-Barred.is said) c.machine.ensures (λ plan h stands. sym c.if-is_halted.true ∙ c.is_halted.ensures plan h stands)

pub returns-else-is_halted : goal.returns-else-is_halted
returns-else-is_halted g c = λ board before e is said mine settled.
    end_barred g.S.Slot.shape g.S.Slot.gives board before c.args.pass.now e is settled c.in-Barred.at c.in-Barred.why (subst (λ (o : Put). SaysThrough g.S.Slot.shape g.S.Slot.gives board e before c.args.pass.now o) c.in-Barred.is said)
