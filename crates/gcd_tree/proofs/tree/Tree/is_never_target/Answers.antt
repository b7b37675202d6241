use Rattle.std.proofs.Common.{◌≡◌, ◌<◌, true, false, not, length, get_or, sym, ap, subst, ◌∙◌, arith}
use Rattle.std.proofs.lemmas.Bool.{true≢false}
use Rattle.std.proofs.lemmas.List.{get_or_read}
use Rattle.gcd_tree.specs.TreeView.{target_at, target_in}
use Rattle.gcd_tree.proofs.tree.Tree.is_never_target.Goals as goal

pub index-requires : goal.index-requires
index-requires c = omega (arith, c.requires, c.self.invariant.2.as_many, ap (λ v. length v.targets) c.self.view_is, c.self.inside.marks.ok)

pub returns : goal.returns
returns c = λ never p lt there.
    let targets = c.self.inside.targets.items in
    let marks = c.self.inside.marks.items in
    let o = c.args.o.0 in
    let long = ap (λ v. length v.targets) c.self.view_is in
    let within : o < length marks = omega (arith, c.requires, c.self.invariant.2.as_many, long) in
    let at : target_in targets p ≡ o = ap (λ v. target_at v p) c.self.view_is ∙ there in
    let marked : get_or marks o false ≡ true = subst (λ t. get_or marks t false ≡ true) at (c.self.invariant.2.marked p (omega (arith, lt, long))) in
    true≢false (sym never ∙ ap not (get_or_read marks o c.index.result.now within c.index.ensures false ∙ marked))
