use Rattle.std.proofs.Common.{false, ap, sym, ◌∙◌, arith}
use Rattle.std.specs.Option.{option_map_or}
use Rattle.gcd_plan.specs.Kinds.{is_node, is_node_kind}
use Rattle.gcd_tree.proofs.PlanTree.{filled_more, filled_nodes}
use Rattle.gcd_tree.proofs.first.nodes.Goals as goal

pub loop-o-preserved : goal.loop-o-preserved
loop-o-preserved c =
    filled_more (is_node c.args.plan.now) c.loop-o.o c.loop-o.nodes.items c.push.new.self.items c.is_node.result c.loop-o.invariant
    (c.is_node.ensures ∙ ap (λ r. option_map_or is_node_kind r false) (sym c.kind.ensures)) c.in_ok-push.ensures.items

pub returns : goal.returns
returns c =
    filled_nodes c.args.plan.now c.loop-o.o c.loop-o.nodes.items c.loop-o.invariant
    (omega (arith, c.loop-o-test.false, c.loop-o.auto.o-end, c.objects-o-end.ensures.count))
