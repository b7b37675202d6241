use Rattle.std.proofs.Common.{◌≡◌, ◌+◌, ◌-◌, ◌∙◌, ap, arith}
use Rattle.gcd_lists.specs.ListsView.{span}
use Rattle.gcd_lists.proofs.Seen.{shown, low_node}
use Rattle.gcd_lists.proofs.Spans.{behind, none_came, next_nowhere, next_came, node_still, blocks_still}
use Rattle.gcd_lists.proofs.lists.Lists.push_span.Goals as goal

pub loop-b-init : goal.loop-b-init
loop-b-init c = none_came c.args.self.now c.args.node.0 c.args.first.0 (c.args.first.0 - c.args.first.0) (omega arith)

pub push-requires-clause-node : goal.push-requires-clause-node
push-requires-clause-node c =
    omega (arith, c.requires.node, node_still c.args.self.now c.loop-b.self c.args.node.0 c.args.first.0 (c.loop-b.b - c.args.first.0) c.loop-b.invariant)

pub push-requires-clause-blk : goal.push-requires-clause-blk
push-requires-clause-blk c =
    omega (arith, c.requires.blocks, c.loop-b-test.true, blocks_still c.args.self.now c.loop-b.self c.args.node.0 c.args.first.0 (c.loop-b.b - c.args.first.0) c.loop-b.invariant)

pub push-requires-clause-waits_nowhere : goal.push-requires-clause-waits_nowhere
push-requires-clause-waits_nowhere c =
    next_nowhere c.args.self.now c.loop-b.self c.args.node.0 c.args.first.0 (c.loop-b.b - c.args.first.0) c.loop-b.b c.loop-b.invariant
    (omega (arith, c.loop-b.auto.b)) (c.requires.wait_nowhere c.loop-b.b c.loop-b.auto.b c.loop-b-test.true)

pub loop-b-preserved : goal.loop-b-preserved
loop-b-preserved c =
    next_came c.args.self.now c.loop-b.self c.push.new.self c.args.node.0 c.args.first.0 (c.loop-b.b - c.args.first.0) (record { 0 = c.loop-b.b })
    (c.loop-b.b + 1 - c.args.first.0) c.requires.node c.loop-b.invariant (omega (arith, c.loop-b.auto.b)) (omega (arith, c.loop-b.auto.b)) c.push.ensures.behind

pub returns-clause-behind : goal.returns-clause-behind
returns-clause-behind c =
    let end : c.loop-b.b - c.args.first.0 ≡ c.args.count = omega (arith, c.loop-b-test.false, c.loop-b.auto.b-end (omega arith)) in
    c.loop-b.invariant ∙ ap (λ k. behind c.args.self.now c.args.node.0 (span c.args.first.0 k)) end

pub returns-clause-low : goal.returns-clause-low
returns-clause-low c = low_node (shown c.self.invariant c.self.view_is) c.args.node.0 c.requires.node
