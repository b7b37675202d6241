use Rattle.std.proofs.Common.{arith}
use Rattle.gcd_sema.proofs.Cells.{shown, in_given, in_reached, in_bases, past_seen, beyond_seen, within_seen, begun_seen, place_within, read_at}
use Rattle.gcd_sema.proofs.semas.Semas.passed.Goals as goal

pub index-requires : goal.index-requires
index-requires c = omega (arith, in_given (shown c.self.invariant c.self.view_is) c.args.s.0 c.requires.semaphore, c.self.inside.given.ok)

pub index-requires-then-index-rank : goal.index-requires-then-index-rank
index-requires-then-index-rank c = omega (arith, in_given (shown c.self.invariant c.self.view_is) c.args.s.0 c.requires.semaphore, c.self.inside.given.ok)

pub index-requires-then-index-rank-2 : goal.index-requires-then-index-rank-2
index-requires-then-index-rank-2 c = omega (arith, in_reached (shown c.self.invariant c.self.view_is) c.args.s.0 c.requires.semaphore, c.self.inside.reached.ok)

pub returns-then-index-rank : goal.returns-then-index-rank
returns-then-index-rank c =
    let sh = shown c.self.invariant c.self.view_is in
    let s = c.args.s.0 in
    let within = c.requires.semaphore in
    past_seen sh s within _ _ c.index-then-index-rank.ensures c.index-then-index-rank-2.ensures c.args.rank
    (omega (arith, c.if-index-rank.true, read_at sh s within _ _ (in_given sh s within) c.index.ensures, read_at sh s within _ _ (in_given sh s within) c.index-then-index-rank.ensures))

pub index-requires-2 : goal.index-requires-2
index-requires-2 c = omega (arith, in_reached (shown c.self.invariant c.self.view_is) c.args.s.0 c.requires.semaphore, c.self.inside.reached.ok)

pub index-requires-then-rank-index : goal.index-requires-then-rank-index
index-requires-then-rank-index c = omega (arith, in_bases (shown c.self.invariant c.self.view_is) c.args.s.0 c.requires.semaphore, c.self.inside.bases.ok)

pub index-requires-then-rank-index-2 : goal.index-requires-then-rank-index-2
index-requires-then-rank-index-2 c =
    let sh = shown c.self.invariant c.self.view_is in
    let s = c.args.s.0 in
    let within = c.requires.semaphore in
    let begun = begun_seen sh s within c.args.rank _ c.index.ensures c.if-index-rank.false in
    omega (arith, place_within sh s within c.args.rank c.requires.first begun _ c.index-then-rank-index.ensures, c.self.inside.expired.ok)

pub returns-then-rank-index : goal.returns-then-rank-index
returns-then-rank-index c =
    let sh = shown c.self.invariant c.self.view_is in
    let s = c.args.s.0 in
    let within = c.requires.semaphore in
    within_seen sh s within _ _ c.index.ensures c.index-2.ensures c.args.rank _ c.index-then-rank-index.ensures c.requires.first c.if-index-rank.false _ c.index-then-rank-index-2.ensures c.if-rank-index.true

pub returns-else-rank-index : goal.returns-else-rank-index
returns-else-rank-index c =
    let sh = shown c.self.invariant c.self.view_is in
    let s = c.args.s.0 in
    let within = c.requires.semaphore in
    beyond_seen sh s within _ _ c.index.ensures c.index-2.ensures c.args.rank c.if-index-rank.false c.if-rank-index.false
