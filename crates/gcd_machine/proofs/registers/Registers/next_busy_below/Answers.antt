use Rattle.std.proofs.Common.{◌-◌, length, sym, ◌∙◌, arith}
use Rattle.gcd_machine.specs.Chosen.{may_begin_at}
use Rattle.gcd_machine.proofs.Choice.FirstNode.{below_none, below_some, below_past}
use Rattle.gcd_machine.proofs.registers.Registers.next_busy_below.Goals as goal

pub returns-in-Some : goal.returns-in-Some
returns-in-Some c =
    let m = c.args.self.now in
    let long = c.requires.shape.own.busy in
    sym (below_some (may_begin_at m) c.args.from (c.args.end - c.args.from) (length m.busy - c.args.from) c.in-Some.n (omega (arith, long))
    (sym c.next_busy.ensures ∙ c.in-Some.is) (omega arith))

pub returns-in-Some-2 : goal.returns-in-Some-2
returns-in-Some-2 c =
    let m = c.args.self.now in
    let long = c.requires.shape.own.busy in
    sym (below_past (may_begin_at m) c.args.from (c.args.end - c.args.from) (length m.busy - c.args.from) c.in-Some.n (omega (arith, long))
    (sym c.next_busy.ensures ∙ c.in-Some.is) (omega arith))

pub returns-in-None : goal.returns-in-None
returns-in-None c =
    let m = c.args.self.now in
    let long = c.requires.shape.own.busy in
    sym (below_none (may_begin_at m) c.args.from (c.args.end - c.args.from) (length m.busy - c.args.from) (omega (arith, long))
    (sym c.next_busy.ensures ∙ c.in-None.is))
