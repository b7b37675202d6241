use Rattle.std.proofs.Common.{◌≡◌, Bool, true, false, set, refl, sym, ◌∙◌, subst}
use Rattle.std.proofs.Math.Bool.{beq}
use Rattle.gcd_drain.specs.Held.{AreHeld}
use Rattle.gcd_drain.proofs.Holding.{held_there, held_with}
use Rattle.gcd_drain.proofs.held_chains.HeldChains.rehold.Goals as goal

-- what the test of two truth values says
alike : (a b : Bool) → beq a b ≡ true → a ≡ b
alike true true e = refl
alike true false e = sym e
alike false true e = e
alike false false e = refl

pub returns-then-held-before : goal.returns-then-held-before
returns-then-held-before c =
    held_there c.args.tree.now c.args.holds.now c.is_held_by_target-held.ensures.valid c.args.self.now c.args.o.0 c.requires.others
    (sym c.has-before.ensures ∙ sym (alike c.is_held_by_target-held.result c.has-before.result c.if-held-before.true) ∙ c.is_held_by_target-held.ensures.answer)

pub returns-then-is_never_target : goal.returns-then-is_never_target
returns-then-is_never_target c =
    let now : c.put.new.self ≡ set c.args.self.now c.args.o.0 c.is_held_by_target-held.result = cc (c.put.ensures, c.self.view_is) in
    subst (λ xs. AreHeld xs c.args.tree.now c.args.holds.now) (sym now)
    (held_with c.args.tree.now c.args.holds.now c.is_held_by_target-held.ensures.valid c.args.self.now c.args.o.0 c.is_held_by_target-held.result
    c.requires.object c.requires.others c.is_held_by_target-held.ensures.answer (c.is_never_target.ensures c.if-is_never_target.true))
