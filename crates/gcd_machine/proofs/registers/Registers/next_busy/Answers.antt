use Rattle.std.proofs.Common.{ℕ, ◌-◌, ◌<◌, ◌≤◌, ◌+◌, ◌&&◌, not, false, length, ap, arith, ◌∙◌}
use Rattle.std.specs.List.{find, range_with_len, slice_index_or}
use Rattle.gcd_sets.proofs.Passing.{find_alike}
use Rattle.gcd_refinement.specs.MachineView.{MachineView}
use Rattle.gcd_machine.specs.Inside.{view_of}
use Rattle.gcd_machine.specs.Chosen.{may_begin_at}
use Rattle.gcd_machine.proofs.registers.Registers.next_busy.Goals as goal

pub next_in-requires : goal.next_in-requires
next_in-requires c =
    let busy = ap (λ (m : MachineView). length m.busy) c.self.view_is in
    let targets = ap (λ (m : MachineView). length m.tree.targets) c.self.view_is in
    omega (arith, busy, targets, c.requires.own.busy, c.requires.parts.targets, c.self.invariant.are.as_many)

pub returns : goal.returns
returns c =
    let v = view_of c.self.inside in
    let busy = ap (λ (m : MachineView). length m.busy) c.self.view_is in
    let targets = ap (λ (m : MachineView). length m.tree.targets) c.self.view_is in
    let alike = find_alike (λ i. slice_index_or v.busy i false && not (slice_index_or c.self.inside.held i false)) (may_begin_at v) c.args.from
    (length v.busy - c.args.from)
    (λ (i : ℕ) (from : c.args.from ≤ i) (to : i < c.args.from + (length v.busy - c.args.from)).
    ap (λ held. slice_index_or v.busy i false && not held)
    (c.self.invariant.are.exact i (omega (arith, from, to, busy, targets, c.requires.own.busy, c.requires.parts.targets)))) in
    c.next_in.ensures ∙ alike
    ∙ ap (λ (m : MachineView). find (may_begin_at m) (range_with_len c.args.from (length m.busy - c.args.from))) c.self.view_is
