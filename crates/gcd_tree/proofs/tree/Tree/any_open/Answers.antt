use Rattle.std.proofs.Common.{nat_lt, ap, subst, ◌∙◌, arith}
use Rattle.std.proofs.lemmas.List.{get_or_read}
use Rattle.gcd_tree.specs.TreeView.{open_beneath_at}
use Rattle.gcd_tree.specs.IsTree.{IsTree}
use Rattle.gcd_tree.proofs.tree.Tree.any_open.Goals as goal

pub index-requires : goal.index-requires
index-requires c = omega (arith, c.self.invariant.0.root, c.self.invariant.1.as_many, c.self.inside.open_beneath.ok)

pub returns-clause-open : goal.returns-clause-open
returns-clause-open c =
    ap (λ n. nat_lt 0 n)
    (get_or_read c.self.inside.open_beneath.items 0 c.index.result.now (omega (arith, c.self.invariant.0.root, c.self.invariant.1.as_many)) c.index.ensures 0
    ∙ c.self.invariant.1.exact 0 c.self.invariant.0.root
    ∙ ap (λ v. open_beneath_at v 0) c.self.view_is)

pub returns-clause-valid : goal.returns-clause-valid
returns-clause-valid c = subst IsTree c.self.view_is c.self.invariant.0
