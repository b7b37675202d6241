use Rattle.std.proofs.Common.{arith}
use Rattle.gcd_drain.proofs.ShutChains.{shut_here, open_at_root, shut_beyond, still_sound, shorter}
use Rattle.gcd_drain.proofs.drains.Drains.+is_shut.Goals as goal

pub returns-then-bars-clause-answer : goal.returns-then-bars-clause-answer
returns-then-bars-clause-answer t c =
    shut_here c.args.self.now c.args.tree.now c.args.holds.now c.target-next.ensures.valid c.args.node.0
    (omega (arith, c.requires.node, c.requires.tree)) c.if-bars.ensures

pub returns-then-bars-clause-sound : goal.returns-then-bars-clause-sound
returns-then-bars-clause-sound t c =
    still_sound c.args.self.now c.args.tree.now c.args.holds.now c.args.marks.now c.mark.new.self c.args.node.0 _ c.requires.sound
    (shut_here c.args.self.now c.args.tree.now c.args.holds.now c.target-next.ensures.valid c.args.node.0
    (omega (arith, c.requires.node, c.requires.tree)) c.if-bars.ensures)
    c.mark.ensures.there c.mark.ensures.others

pub returns-then-node-eq0-clause-sound : goal.returns-then-node-eq0-clause-sound
returns-then-node-eq0-clause-sound t c =
    still_sound c.args.self.now c.args.tree.now c.args.holds.now c.args.marks.now c.mark-then-node-eq0.new.self c.args.node.0 _ c.requires.sound
    (open_at_root c.args.self.now c.args.tree.now c.args.holds.now c.target-next.ensures.valid c.args.node.0 c.if-node-eq0.true c.if-bars.ensures)
    c.mark-then-node-eq0.ensures.there c.mark-then-node-eq0.ensures.others

pub is_shut-shut-requires : goal.is_shut-shut-requires
is_shut-shut-requires t c =
    let less = shorter c.args.self.now c.args.tree.now c.args.holds.now c.target-next.ensures.valid c.args.node.0 c.target-next.result.0
    (omega (arith, c.requires.node, c.requires.tree)) (λ at. omega (arith, c.if-node-eq0.false, at)) c.target-next.ensures.target in (
      omega (arith, less, c.decreases),
      (omega (arith, c.target-next.ensures.in_range, c.requires.tree), (c.requires.tree, (c.requires.holds, c.requires.sound))),
    )

pub returns-clause-answer : goal.returns-clause-answer
returns-clause-answer t c =
    shut_beyond c.args.self.now c.args.tree.now c.args.holds.now c.target-next.ensures.valid c.args.node.0 c.target-next.result.0 c.is_shut-shut.result
    (omega (arith, c.requires.node, c.requires.tree)) (λ at. omega (arith, c.if-node-eq0.false, at)) c.if-bars.ensures c.target-next.ensures.target
    c.is_shut-shut.ensures.answer

pub returns-clause-sound : goal.returns-clause-sound
returns-clause-sound t c =
    still_sound c.args.self.now c.args.tree.now c.args.holds.now c.is_shut-shut.new.marks c.mark-2.new.self c.args.node.0 c.is_shut-shut.result
    c.is_shut-shut.ensures.sound
    (shut_beyond c.args.self.now c.args.tree.now c.args.holds.now c.target-next.ensures.valid c.args.node.0 c.target-next.result.0 c.is_shut-shut.result
    (omega (arith, c.requires.node, c.requires.tree)) (λ at. omega (arith, c.if-node-eq0.false, at)) c.if-bars.ensures c.target-next.ensures.target
    c.is_shut-shut.ensures.answer)
    c.mark-2.ensures.there c.mark-2.ensures.others
