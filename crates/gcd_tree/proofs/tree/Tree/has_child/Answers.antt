use Rattle.std.proofs.Common.{sym, ap, ◌∙◌, ◌<◌, length, arith}
use Rattle.gcd_tree.specs.TreeView.{is_child_of}
use Rattle.gcd_plan.proofs.Quantifiers.{list_any_in_range}
use Rattle.gcd_tree.proofs.tree.Tree.has_child.Goals as goal

pub returns-then-is_child : goal.returns-then-is_child
returns-then-is_child c =
    let within : c.loop-p.p < length c.args.self.now.targets =
    omega (arith, c.self.inside.targets.ok.0, ap (λ v. length v.targets) c.self.view_is) in
    sym (list_any_in_range (is_child_of c.args.self.now c.args.o.0) (length c.args.self.now.targets) c.loop-p.p within (sym c.is_child.ensures ∙ c.if-is_child.true))
