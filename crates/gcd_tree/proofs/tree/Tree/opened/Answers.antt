use Rattle.std.proofs.Common.{◌≡◌, ◌+◌, length, sym, ap, ◌∙◌, subst, arith}
use Rattle.std.proofs.lemmas.List.{with_items_is, get_or_read}
use Rattle.std.specs.Vec.{with_items}
use Rattle.gcd_tree.specs.TreeView.{open_on_at, with_open}
use Rattle.gcd_tree.specs.Inside.{view_of}
use Rattle.gcd_tree.proofs.Runs.{IsCountedTree, opened_room, counted_opened}
use Rattle.gcd_tree.proofs.tree.Tree.opened.Goals as goal

pub raise_along-requires-clause-room : goal.raise_along-requires-clause-room
raise_along-requires-clause-room c =
    let view = view_of c.self.inside in
    rw (c.deref.ensures.value, c.deref_mut.ensures.value)
    (opened_room view c.self.inside.open_beneath.items (c.self.invariant.0, c.self.invariant.1) c.args.node.0
    (rw (← c.self.view_is) at c.requires.object) (rw (← c.self.view_is) at c.requires.room))

pub invariant_of-self : goal.invariant_of-self
invariant_of-self c =
    let view = view_of c.self.inside in
    let counts = c.self.inside.open_beneath in
    let next = c.raise_along.new.counts in
    let node = c.args.node.0 in
    let n = c.index_mut.result.now + 1 in
    let object = rw (← c.self.view_is) at c.requires.object in
    let same : length next ≡ length counts.items = c.raise_along.auto.counts ∙ ap length c.deref_mut.ensures.value in
    let more : n ≡ open_on_at view node + 1 =
    ap (λ k. k + 1) (get_or_read view.open_on node _ (omega (arith, object, c.self.invariant.0.as_many_open_on)) c.index_mut.ensures.value 0) in
    let raised = rw (c.deref.ensures.value, c.deref_mut.ensures.value) at c.raise_along.ensures in
    let counted : IsCountedTree (with_open view node n) (with_items counts next).items =
    subst (λ xs. IsCountedTree (with_open view node n) xs) (sym (with_items_is counts next (same ∙ sym counts.ok.0)))
    (counted_opened view counts.items next (c.self.invariant.0, c.self.invariant.1) node n object (rw (← c.self.view_is) at c.requires.still) more same raised) in
    (counted.0, counted.1, c.self.invariant.2)
