use Rattle.std.proofs.Common.{◌≡◌, ⊎_elim, ◌-◌, ◌<◌, ◌≤◌, None, slice_index_or, ap, sym, ◌∙◌, subst, arith}
use Rattle.gcd_tree.specs.IsTree.{IsTree}
use Rattle.gcd_refinement.specs.MachineView.{MachineView}
use Rattle.std.proofs.lemmas.Bool.{cases_lt}
use Rattle.gcd_drain.proofs.Holding.{held_by_target}
use Rattle.gcd_drain.proofs.HeldAfter.{held_settled, held_with_open}
use Rattle.gcd_plan.proofs.Options.{none_from_is_some}
use Rattle.gcd_tree.specs.TreeView.{TreeView, open_on_at, settled_to, with_open}
use Rattle.gcd_machine.specs.KnowsHeld.{KnowsHeld}
use Rattle.gcd_machine.proofs.registers.Registers.close_on.Goals as goal

pub rehold-requires-clause-others : goal.rehold-requires-clause-others
rehold-requires-clause-others c =
    let valid = subst (λ (m : MachineView). IsTree m.tree) (sym c.self.view_is) c.valid_tree.ensures in
    let i = c.self.inside in
    let same = ap (λ (m : MachineView). open_on_at m.tree c.args.node.0) c.self.view_is in
    ⊎_elim
    (λ (more : 1 < open_on_at i.tree c.args.node.0).
    rw (c.closed.ensures.others more) (record {
      as_many = c.self.invariant.are.as_many;
      others = λ p lt other. held_by_target i.tree i.holds valid i.held c.self.invariant.are p lt;
    }))
    (λ (few : open_on_at i.tree c.args.node.0 ≤ 1).
    let one : open_on_at i.tree c.args.node.0 ≡ 1 = omega (arith, few, same, c.requires.closes.is_open) in
    rw (c.closed.ensures.last one) (held_settled i.held i.tree i.holds c.self.invariant.are valid c.args.node.0 0))
    (cases_lt 1 (open_on_at i.tree c.args.node.0))

pub invariant_of-self-else-moves : goal.invariant_of-self-else-moves
invariant_of-self-else-moves c =
    let i = c.self.inside in
    let o = c.args.node.0 in
    let same = ap (λ (m : MachineView). open_on_at m.tree o) c.self.view_is in
    let none : slice_index_or i.tree.requests o None ≡ None =
    none_from_is_some (slice_index_or i.tree.requests o None) (sym c.is_moving-moves.ensures ∙ c.if-moves.false) in
    ⊎_elim
    (λ (more : 1 < open_on_at i.tree o).
    subst (λ (t : TreeView). KnowsHeld i.held t i.holds) (sym (c.closed.ensures.others more))
    (record { long = c.self.invariant.long; are = held_with_open i.held i.tree i.holds c.self.invariant.are o (open_on_at i.tree o - 1) }))
    (λ (few : open_on_at i.tree o ≤ 1).
    let one : open_on_at i.tree o ≡ 1 = omega (arith, few, same, c.requires.closes.is_open) in
    subst (λ (t : TreeView). KnowsHeld i.held t i.holds) (sym (c.closed.ensures.last one ∙ ap (settled_to (with_open i.tree o 0) o) none))
    (record { long = c.self.invariant.long; are = held_with_open i.held i.tree i.holds c.self.invariant.are o 0 }))
    (cases_lt 1 (open_on_at i.tree o))
