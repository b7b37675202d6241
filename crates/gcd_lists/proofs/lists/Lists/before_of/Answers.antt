use Rattle.std.proofs.Common.{◌∙◌, sym, arith}
use Rattle.gcd_lists.proofs.Seen.{shown, before_read, befores_long, head_read, waits_within, blocks_long, before_of_none, before_of_first, before_of_later}
use Rattle.gcd_lists.proofs.lists.Lists.before_of.Goals as goal

pub returns-in_err-first : goal.returns-in_err-first
returns-in_err-first c =
    let s = shown c.self.invariant c.self.view_is in
    let head = head_read s c.args.node.0 c.index.result.now c.requires.node c.index.ensures ∙ c.in_err-first.was in
    c.from_residual.ensures ∙ before_of_none s c.args.node.0 c.args.blk.0 head

pub returns-then-first-blk : goal.returns-then-first-blk
returns-then-first-blk c =
    let s = shown c.self.invariant c.self.view_is in
    let head = head_read s c.args.node.0 c.index.result.now c.requires.node c.index.ensures ∙ c.in_ok-first.was in
    before_of_first s c.args.node.0 c.in_ok-first.first c.args.blk.0 head c.if-first-blk.true

pub index-requires-2 : goal.index-requires-2
index-requires-2 c =
    let s = shown c.self.invariant c.self.view_is in
    omega (arith, waits_within s c.args.node.0 c.args.blk.0 c.requires.waits, c.self.inside.before.ok.0, befores_long s, blocks_long s)

pub returns : goal.returns
returns c =
    let s = shown c.self.invariant c.self.view_is in
    let head = head_read s c.args.node.0 c.index.result.now c.requires.node c.index.ensures ∙ c.in_ok-first.was in
    let block = waits_within s c.args.node.0 c.args.blk.0 c.requires.waits in
    c.get.ensures
    ∙ sym (before_read s c.args.blk.0 c.index-2.result.now (omega (arith, block, befores_long s, blocks_long s)) c.index-2.ensures)
    ∙ before_of_later s c.args.node.0 c.in_ok-first.first c.args.blk.0 c.requires.waits head c.if-first-blk.false
