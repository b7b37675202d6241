use Rattle.std.proofs.Common.{◌∙◌, sym, arith}
use Rattle.gcd_lists.proofs.Seen.{shown, taken_within, taken_gone, shows_rest}
use Rattle.gcd_lists.proofs.lists.Lists.pop.Goals as goal

pub index-requires : goal.index-requires
index-requires c =
    let s = shown c.self.invariant c.self.view_is in
    let within = taken_within s c.args.node c.in_ok-blk.blk c.in_ok-blk.barrier (sym c.first.ensures.value ∙ c.in_ok-blk.was) in
    omega (arith, within, c.self.inside.next.ok.0)

pub index_mut-requires-2 : goal.index_mut-requires-2
index_mut-requires-2 c =
    let s = shown c.self.invariant c.self.view_is in
    let within = taken_within s c.args.node c.in_ok-blk.blk c.in_ok-blk.barrier (sym c.first.ensures.value ∙ c.in_ok-blk.was) in
    omega (arith, within, c.self.inside.places.ok.0, c.self.invariant.linked.places_long)

pub invariant_of-self : goal.invariant_of-self
invariant_of-self c =
    let s = shown c.self.invariant c.self.view_is in
    let first = sym c.first.ensures.value ∙ c.in_ok-blk.was in
    rw c.get.ensures (shows_rest s c.args.node c.in_ok-blk.blk c.in_ok-blk.barrier c.index.result.now c.requires first c.index.ensures).are

pub returns-clause-rest : goal.returns-clause-rest
returns-clause-rest c =
    let s = shown c.self.invariant c.self.view_is in
    let first = sym c.first.ensures.value ∙ c.in_ok-blk.was in
    rw c.get.ensures (shows_rest s c.args.node c.in_ok-blk.blk c.in_ok-blk.barrier c.index.result.now c.requires first c.index.ensures).seen

pub returns-clause-gone : goal.returns-clause-gone
returns-clause-gone c =
    let s = shown c.self.invariant c.self.view_is in
    let first = sym c.first.ensures.value ∙ c.in_ok-blk.was in
    rw c.get.ensures (taken_gone s c.args.node c.in_ok-blk.blk c.in_ok-blk.barrier c.index.result.now c.requires first c.index.ensures)
