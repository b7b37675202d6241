use Rattle.std.proofs.Common.{◌≡◌, length, sym, ap, ◌∙◌, arith}
use Rattle.gcd_plan.specs.Chains.{chain_by, is_in}
use Rattle.gcd_tree.specs.TreeView.{walk_next}
use Rattle.gcd_tree.proofs.Walks.{walk_meets}
use Rattle.gcd_tree.proofs.tree.Tree.would_cycle.Goals as goal

pub returns-then-at-o : goal.returns-then-at-o
returns-then-at-o c =
    let f = walk_next c.args.self.now in
    let whole : length c.args.self.now.targets ≡ c.len-end.result =
    omega (arith, c.self.inside.targets.ok.0, ap (λ v. length v.targets) c.self.view_is, c.len-end.ensures) in
    sym (ap (λ b. is_in c.args.o.0 (chain_by f b c.args.t.0)) whole
    ∙ c.loop.invariant.0
    ∙ walk_meets f c.len-end.result c.loop.counter c.loop.at.0 c.args.o.0 c.loop-test.true c.if-at-o.true)
