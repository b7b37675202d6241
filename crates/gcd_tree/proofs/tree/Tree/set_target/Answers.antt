use Rattle.std.proofs.Common.{◌≡◌, ◌<◌, Some, sym, ◌∙◌, arith}
use Rattle.std.proofs.lemmas.List.{get_or_read}
use Rattle.gcd_tree.specs.TreeView.{open_on_at, with_target, with_request}
use Rattle.gcd_tree.specs.Inside.{view_of}
use Rattle.gcd_tree.proofs.Marks.{marked_more}
use Rattle.gcd_tree.proofs.Runs.{IsCountedTree, counted_retargeted, counted_asked}
use Rattle.gcd_tree.proofs.tree.Tree.set_target.Goals as goal

pub invariant_of-self : goal.invariant_of-self
invariant_of-self c =
    let view = view_of c.self.inside in
    let object = rw (← c.self.view_is) at c.requires.object in
    let read = get_or_read view.open_on c.args.o.0 _ (omega (arith, object, c.self.invariant.0.as_many_open_on)) c.index.ensures 0 in
    let none : open_on_at view c.args.o.0 ≡ 0 = sym read ∙ c.if-index-eq0.true in
    let target = rw (← c.self.view_is) at c.requires.target in
    let counted : IsCountedTree (with_target view c.args.o.0 c.args.t) c.self.inside.open_beneath.items =
    counted_retargeted view c.self.inside.open_beneath.items (c.self.invariant.0, c.self.invariant.1) c.args.o.0 c.args.t object
    target (rw (← c.self.view_is) at c.requires.node)
    (rw (← c.self.view_is) at c.requires.no_cycle) (rw (← c.self.view_is) at c.requires.quiet) none in
    (counted.0, counted.1, marked_more view.targets c.self.inside.marks.items c.self.invariant.2 c.args.o.0 c.args.t target)

pub invariant_of-self-else-index-eq0 : goal.invariant_of-self-else-index-eq0
invariant_of-self-else-index-eq0 c =
    let view = view_of c.self.inside in
    let object = rw (← c.self.view_is) at c.requires.object in
    let read = get_or_read view.open_on c.args.o.0 _ (omega (arith, object, c.self.invariant.0.as_many_open_on)) c.index.ensures 0 in
    let some : 0 < open_on_at view c.args.o.0 = omega (arith, read, c.if-index-eq0.false) in
    let counted : IsCountedTree (with_request view c.args.o.0 (Some c.args.t)) c.self.inside.open_beneath.items =
    counted_asked view c.self.inside.open_beneath.items (c.self.invariant.0, c.self.invariant.1) c.args.o.0 c.args.t object
    (rw (← c.self.view_is) at c.requires.target) (rw (← c.self.view_is) at c.requires.node)
    (rw (← c.self.view_is) at c.requires.no_cycle) (rw (← c.self.view_is) at c.requires.quiet) some in
    (counted.0, counted.1, c.self.invariant.2)
