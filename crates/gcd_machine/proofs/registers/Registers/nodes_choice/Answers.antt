use Rattle.std.proofs.Common.{◌+◌, ◌-◌, ap, sym, ◌∙◌, arith}
use Rattle.std.specs.Option.{option_or}
use Rattle.gcd_machine.specs.Chosen.{may_begin_at, nodes_at}
use Rattle.gcd_machine.proofs.Choice.FirstNode.{found_within, nodes_step}
use Rattle.gcd_machine.proofs.registers.Registers.nodes_choice.Goals as goal

pub returns-in-Some-node_choice-clause-event : goal.returns-in-Some-node_choice-clause-event
returns-in-Some-node_choice-clause-event c =
    let m = c.args.self.now in
    let w = c.args.worker in
    let o = c.in-Some.o in
    let rest = nodes_at m w (o + 1) (c.args.end - (o + 1)) in
    let found = sym c.next_busy_below.ensures ∙ c.in-Some.is in
    let here = sym c.node_choice.ensures.event ∙ c.in-Some-node_choice.is in
    sym (sym c.loop-o.invariant.same ∙ (nodes_step m w c.loop-o.n c.args.end o c.loop-o.invariant.order found ∙ ap (λ v. option_or v rest) here))

pub loop-o-preserved : goal.loop-o-preserved
loop-o-preserved c =
    let m = c.args.self.now in
    let w = c.args.worker in
    let o = c.in-Some.o in
    let rest = nodes_at m w (o + 1) (c.args.end - (o + 1)) in
    let found = sym c.next_busy_below.ensures ∙ c.in-Some.is in
    let here = sym c.node_choice.ensures.event ∙ c.in_default-node_choice.is in
    let within = found_within (may_begin_at m) c.loop-o.n (c.args.end - c.loop-o.n) o found in
    record {
      order = omega (arith, within.to);
      sound = c.node_choice.ensures.sound;
      same = sym (nodes_step m w c.loop-o.n c.args.end o c.loop-o.invariant.order found ∙ ap (λ v. option_or v rest) here) ∙ c.loop-o.invariant.same;
    }
