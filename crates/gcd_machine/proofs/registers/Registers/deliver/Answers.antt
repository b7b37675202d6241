use Rattle.std.proofs.Common.{◌+◌, sym, subst}
use Rattle.gcd_drain.proofs.HeldAfter.{held_with_open}
use Rattle.gcd_tree.specs.TreeView.{TreeView, open_on_at}
use Rattle.gcd_machine.specs.KnowsHeld.{KnowsHeld}
use Rattle.gcd_machine.proofs.registers.Registers.deliver.Goals as goal

pub invariant_of-self-2 : goal.invariant_of-self-2
invariant_of-self-2 c =
    let i = c.self.inside in
    let o = c.args.src.0 in
    subst (λ (t : TreeView). KnowsHeld i.held t i.holds) (sym c.opened.ensures)
    (record { long = c.self.invariant.long; are = held_with_open i.held i.tree i.holds c.self.invariant.are o (open_on_at i.tree o + 1) })
