use Rattle.std.proofs.Common.{◌≡◌, ◌-◌, ◌<◌, None, is_some, length, sym, ap, ◌∙◌, subst, arith}
use Rattle.std.proofs.lemmas.List.{with_items_is, get_or_read}
use Rattle.std.proofs.lemmas.Bool.{true≢false}
use Rattle.std.specs.Vec.{with_items}
use Rattle.gcd_tree.specs.TreeView.{with_open, with_target, with_request}
use Rattle.gcd_tree.specs.Inside.{view_of}
use Rattle.gcd_tree.proofs.Marks.{marked_more}
use Rattle.gcd_tree.proofs.Runs.{IsCountedTree, read_back, request_fits, one_less, closed_enough, counted_closed, counted_settled}
use Rattle.gcd_tree.proofs.tree.Tree.closed.Goals as goal

pub lower_along-requires-clause-enough : goal.lower_along-requires-clause-enough
lower_along-requires-clause-enough c =
    let view = view_of c.self.inside in
    rw (c.deref.ensures.value, c.deref_mut.ensures.value)
    (closed_enough view c.self.inside.open_beneath.items (c.self.invariant.0, c.self.invariant.1) c.args.node.0
    (rw (← c.self.view_is) at c.requires.object) (rw (← c.self.view_is) at c.requires.open))

pub invariant_of-self : goal.invariant_of-self
invariant_of-self c =
    let view = view_of c.self.inside in
    let counts = c.self.inside.open_beneath in
    let next = c.lower_along.new.counts in
    let node = c.args.node.0 in
    let n = c.index_mut.result.now - 1 in
    let object = rw (← c.self.view_is) at c.requires.object in
    let fits : node < length view.open_on = omega (arith, object, c.self.invariant.0.as_many_open_on) in
    let less = one_less view.open_on node _ fits c.index_mut.ensures.value (rw (← c.self.view_is) at c.requires.open) in
    let left : c.index.result.now ≡ n = read_back view.open_on node n _ fits c.index.ensures in
    let same : length next ≡ length counts.items = c.lower_along.auto.counts ∙ ap length c.deref_mut.ensures.value in
    let lowered = rw (c.deref.ensures.value, c.deref_mut.ensures.value) at c.lower_along.ensures in
    let counted : IsCountedTree (with_open view node n) (with_items counts next).items =
    subst (λ xs. IsCountedTree (with_open view node n) xs) (sym (with_items_is counts next (same ∙ sym counts.ok.0)))
    (counted_closed view counts.items next (c.self.invariant.0, c.self.invariant.1) node n object less (λ _. omega (arith, left, c.if-index-gt0.true)) same lowered) in
    (counted.0, counted.1, c.self.invariant.2)

pub invariant_of-self-in-Some : goal.invariant_of-self-in-Some
invariant_of-self-in-Some c =
    let view = view_of c.self.inside in
    let counts = c.self.inside.open_beneath in
    let next = c.lower_along.new.counts in
    let node = c.args.node.0 in
    let n = c.index_mut.result.now - 1 in
    let object = rw (← c.self.view_is) at c.requires.object in
    let fits : node < length view.open_on = omega (arith, object, c.self.invariant.0.as_many_open_on) in
    let less = one_less view.open_on node _ fits c.index_mut.ensures.value (rw (← c.self.view_is) at c.requires.open) in
    let left : c.index.result.now ≡ n = read_back view.open_on node n _ fits c.index.ensures in
    let same : length next ≡ length counts.items = c.lower_along.auto.counts ∙ ap length c.deref_mut.ensures.value in
    let lowered = rw (c.deref.ensures.value, c.deref_mut.ensures.value) at c.lower_along.ensures in
    let none : n ≡ 0 = omega (arith, left, c.if-index-gt0.false) in
    let asked = get_or_read view.requests node _ (omega (arith, object, c.self.invariant.0.as_many_requests)) c.index-2.ensures None in
    let counted : IsCountedTree (with_request (with_target (with_open view node n) node c.in-Some.t) node None) (with_items counts next).items =
    subst (λ k. IsCountedTree (with_request (with_target (with_open view node k) node c.in-Some.t) node None) (with_items counts next).items) (sym none)
    (subst (λ xs. IsCountedTree (with_request (with_target (with_open view node 0) node c.in-Some.t) node None) xs) (sym (with_items_is counts next (same ∙ sym counts.ok.0)))
    (counted_settled view counts.items next (c.self.invariant.0, c.self.invariant.1) node c.in-Some.t object (omega (arith, less, none)) (sym asked ∙ c.in-Some.is) same lowered)) in (
      counted.0,
      counted.1,
      marked_more view.targets c.self.inside.marks.items c.self.invariant.2 node c.in-Some.t
          (request_fits view c.self.invariant.0 node c.in-Some.t object (sym asked ∙ c.in-Some.is)),
    )

pub invariant_of-self-in_default : goal.invariant_of-self-in_default
invariant_of-self-in_default c =
    let view = view_of c.self.inside in
    let counts = c.self.inside.open_beneath in
    let next = c.lower_along.new.counts in
    let node = c.args.node.0 in
    let n = c.index_mut.result.now - 1 in
    let object = rw (← c.self.view_is) at c.requires.object in
    let fits : node < length view.open_on = omega (arith, object, c.self.invariant.0.as_many_open_on) in
    let less = one_less view.open_on node _ fits c.index_mut.ensures.value (rw (← c.self.view_is) at c.requires.open) in
    let left : c.index.result.now ≡ n = read_back view.open_on node n _ fits c.index.ensures in
    let same : length next ≡ length counts.items = c.lower_along.auto.counts ∙ ap length c.deref_mut.ensures.value in
    let lowered = rw (c.deref.ensures.value, c.deref_mut.ensures.value) at c.lower_along.ensures in
    let asked = get_or_read view.requests node _ (omega (arith, object, c.self.invariant.0.as_many_requests)) c.index-2.ensures None in
    let counted : IsCountedTree (with_open view node n) (with_items counts next).items =
    subst (λ xs. IsCountedTree (with_open view node n) xs) (sym (with_items_is counts next (same ∙ sym counts.ok.0)))
    (counted_closed view counts.items next (c.self.invariant.0, c.self.invariant.1) node n object less (λ moving. absurd (true≢false (sym moving ∙ ap is_some (sym asked ∙ c.in_default.is)))) same lowered) in
    (counted.0, counted.1, c.self.invariant.2)
