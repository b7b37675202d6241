use Rattle.std.proofs.Common.{refl, ◌∙◌, arith}
use Rattle.gcd_lists.proofs.Seen.{shown, befores_long, few_wait, head_read, last_read, end_within, low_node, shows_first, shows_behind}
use Rattle.gcd_lists.proofs.lists.Lists.push.Goals as goal

pub index_mut-requires-in-Some : goal.index_mut-requires-in-Some
index_mut-requires-in-Some c =
    let s = shown c.self.invariant c.self.view_is in
    let head = head_read s c.args.node.0 c.index.result.now c.requires.node c.index.ensures ∙ c.in-Some.is in
    let last = last_read s c.args.node.0 c.index-last.result.now c.requires.node c.index-last.ensures in
    omega (arith, end_within s c.args.node c.in-Some.field-0 c.index-last.result.now head last, c.self.inside.next.ok.0)

pub index_mut-requires-in-Some-2 : goal.index_mut-requires-in-Some-2
index_mut-requires-in-Some-2 c =
    let s = shown c.self.invariant c.self.view_is in
    omega (arith, befores_long s, c.requires.blk, c.self.inside.before.ok.0)

pub of-requires-in-Some-2 : goal.of-requires-in-Some-2
of-requires-in-Some-2 c =
    let s = shown c.self.invariant c.self.view_is in
    let head = head_read s c.args.node.0 c.index.result.now c.requires.node c.index.ensures ∙ c.in-Some.is in
    let last = last_read s c.args.node.0 c.index-last.result.now c.requires.node c.index-last.ensures in
    omega (arith, end_within s c.args.node c.in-Some.field-0 c.index-last.result.now head last, c.self.invariant.few_blocks)

pub invariant_of-self : goal.invariant_of-self
invariant_of-self c =
    let s = shown c.self.invariant c.self.view_is in
    let head = head_read s c.args.node.0 c.index.result.now c.requires.node c.index.ensures ∙ c.in-Some.is in
    let last = last_read s c.args.node.0 c.index-last.result.now c.requires.node c.index-last.ensures in
    rw (c.of.ensures, c.of-in-Some.ensures, c.of-in-Some-2.ensures)
    (shows_behind s c.args.node c.in-Some.field-0 c.index-last.result.now c.args.blk c.args.barrier c.requires.node c.requires.blk
    c.requires.waits_nowhere head last).are

pub returns-in-Some : goal.returns-in-Some
returns-in-Some c =
    let s = shown c.self.invariant c.self.view_is in
    let head = head_read s c.args.node.0 c.index.result.now c.requires.node c.index.ensures ∙ c.in-Some.is in
    let last = last_read s c.args.node.0 c.index-last.result.now c.requires.node c.index-last.ensures in
    let shows = shows_behind s c.args.node c.in-Some.field-0 c.index-last.result.now c.args.blk c.args.barrier c.requires.node c.requires.blk
    c.requires.waits_nowhere head last in
    rw (c.of.ensures, c.of-in-Some.ensures) (record { behind = shows.seen; few = few_wait (shown shows.are refl) c.args.node.0; low = low_node s c.args.node.0 c.requires.node })

pub invariant_of-self-in-None : goal.invariant_of-self-in-None
invariant_of-self-in-None c =
    let s = shown c.self.invariant c.self.view_is in
    let head = head_read s c.args.node.0 c.index.result.now c.requires.node c.index.ensures ∙ c.in-None.is in
    rw c.of.ensures (shows_first s c.args.node c.args.blk c.args.barrier c.requires.node c.requires.blk c.requires.waits_nowhere head).are

pub returns-in-None : goal.returns-in-None
returns-in-None c =
    let s = shown c.self.invariant c.self.view_is in
    let head = head_read s c.args.node.0 c.index.result.now c.requires.node c.index.ensures ∙ c.in-None.is in
    let shows = shows_first s c.args.node c.args.blk c.args.barrier c.requires.node c.requires.blk c.requires.waits_nowhere head in
    rw c.of.ensures (record { behind = shows.seen; few = few_wait (shown shows.are refl) c.args.node.0; low = low_node s c.args.node.0 c.requires.node })
