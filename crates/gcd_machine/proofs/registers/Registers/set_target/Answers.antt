use Rattle.std.proofs.Common.{◌≡◌, ⊎_elim, ◌⊎◌, inl, inr, ℕ, zero, suc, ◌<◌, Some, sym, subst, refl, arith}
use Rattle.gcd_tree.specs.IsTree.{IsTree}
use Rattle.gcd_refinement.specs.MachineView.{MachineView}
use Rattle.gcd_tree.specs.TreeView.{open_on_at}
use Rattle.gcd_drain.proofs.HeldAfter.{held_with_target, held_with_request}
use Rattle.gcd_machine.proofs.registers.Registers.set_target.Goals as goal

pub rehold-requires-clause-others : goal.rehold-requires-clause-others
rehold-requires-clause-others c =
    let valid = subst (λ (m : MachineView). IsTree m.tree) (sym c.self.view_is) c.valid_tree.ensures in
    let i = c.self.inside in
    ⊎_elim
    (λ (none : open_on_at i.tree c.args.o.0 ≡ 0). rw (c.set_target.ensures.at_once none) (held_with_target i.held i.tree i.holds c.self.invariant.are valid c.args.o.0 c.args.t))
    (λ (some : 0 < open_on_at i.tree c.args.o.0). rw (c.set_target.ensures.later some) (held_with_request i.held i.tree i.holds c.self.invariant.are valid c.args.o.0 (Some c.args.t)))
    (none_or_some (open_on_at i.tree c.args.o.0))
  where
    none_or_some : (n : ℕ) → (n ≡ 0) ⊎ (0 < n)
    none_or_some zero = inl refl
    none_or_some (suc n) = inr (omega arith)
