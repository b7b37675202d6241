use Rattle.std.proofs.Common.{◌≡◌, None, replicate, length, sym, subst, rules}
use Rattle.gcd_tree.specs.Inside.{view_of}
use Rattle.gcd_tree.specs.IsTree.{MarkTargets}
use Rattle.gcd_tree.proofs.PlanTree.{counted_as}
use Rattle.gcd_tree.proofs.Runs.{IsCountedTree}
use Rattle.gcd_tree.proofs.tree.Tree.new.Goals as goal

pub invariant_of-result : goal.invariant_of-result
invariant_of-result c =
    let plan = c.args.plan.now in
    let requests : c.in_ok-vec.field-0.items ≡ replicate (length plan.objects) None = search rules in
    let open_on : c.in_ok-vec-2.field-0.items ≡ replicate (length plan.objects) 0 = search rules in
    let counts : c.in_ok-vec-3.field-0.items ≡ replicate (length plan.objects) 0 = search rules in
    let view = view_of record { targets = c.in_ok-first_targets.field-0; requests = c.in_ok-vec.field-0; open_on = c.in_ok-vec-2.field-0; open_beneath = c.in_ok-vec-3.field-0; nodes = c.in_ok-nodes.nodes; marks = c.in_ok-nodes.marks } in
    let counted : IsCountedTree view c.in_ok-vec-3.field-0.items =
    counted_as plan c.objects-count.ensures.valid view c.in_ok-vec-3.field-0.items c.in_ok-first_targets.ensures requests open_on c.in_ok-nodes.ensures.nodes counts in
    (counted.0, counted.1, subst (λ targets. MarkTargets targets c.in_ok-nodes.marks.items) (sym c.in_ok-first_targets.ensures) c.in_ok-nodes.ensures.marks)
