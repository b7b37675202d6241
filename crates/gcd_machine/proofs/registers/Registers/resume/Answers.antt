use Rattle.std.proofs.Common.{◌≡◌, ⊎_elim, ◌⊎◌, inl, inr, ℕ, zero, suc, ◌-◌, ◌<◌, sym, subst, refl, arith}
use Rattle.gcd_tree.specs.IsTree.{IsTree}
use Rattle.gcd_refinement.specs.MachineView.{MachineView}
use Rattle.gcd_hold.specs.HoldsView.{hold_at}
use Rattle.gcd_drain.proofs.HeldAfter.{held_with_active, held_with_hold}
use Rattle.gcd_machine.proofs.registers.Registers.resume.Goals as goal

pub rehold-requires-clause-others : goal.rehold-requires-clause-others
rehold-requires-clause-others c =
    let valid = subst (λ (m : MachineView). IsTree m.tree) (sym c.self.view_is) c.valid_tree.ensures in
    let i = c.self.inside in
    ⊎_elim
    (λ (none : hold_at i.holds c.args.o.0 ≡ 0). rw (c.resume.ensures.activated none) (held_with_active i.held i.tree i.holds c.self.invariant.are valid c.args.o.0))
    (λ (some : 0 < hold_at i.holds c.args.o.0). rw (c.resume.ensures.lowered some) (held_with_hold i.held i.tree i.holds c.self.invariant.are valid c.args.o.0 (hold_at i.holds c.args.o.0 - 1)))
    (none_or_some (hold_at i.holds c.args.o.0))
  where
    none_or_some : (n : ℕ) → (n ≡ 0) ⊎ (0 < n)
    none_or_some zero = inl refl
    none_or_some (suc n) = inr (omega arith)
