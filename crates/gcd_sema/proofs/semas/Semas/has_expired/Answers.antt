use Rattle.std.proofs.Common.{arith}
use Rattle.gcd_sema.proofs.Cells.{shown, in_bases, place_within, flag_seen}
use Rattle.gcd_sema.proofs.semas.Semas.has_expired.Goals as goal

pub index-requires : goal.index-requires
index-requires c = omega (arith, in_bases (shown c.self.invariant c.self.view_is) c.args.s.0 c.requires.semaphore, c.self.inside.bases.ok)

pub index-requires-2 : goal.index-requires-2
index-requires-2 c =
    let sh = shown c.self.invariant c.self.view_is in
    let s = c.args.s.0 in
    let within = c.requires.semaphore in
    omega (arith, place_within sh s within c.args.rank c.requires.first c.requires.begun _ c.index.ensures, c.self.inside.expired.ok)

pub returns : goal.returns
returns c =
    let sh = shown c.self.invariant c.self.view_is in
    let s = c.args.s.0 in
    let within = c.requires.semaphore in
    flag_seen sh s within c.args.rank c.requires.first c.requires.begun _ c.index.ensures _ c.index-2.ensures
