use Rattle.std.proofs.Common.{arith}
use Rattle.gcd_sema.proofs.Cells.{shown, in_bases, in_next, base_low, room_read}
use Rattle.gcd_sema.proofs.semas.Semas.room.Goals as goal

pub index-requires : goal.index-requires
index-requires c =
    let sh = shown c.self.invariant c.self.view_is in
    let s = c.args.s.0 in
    let within = c.requires in
    omega (arith, in_next sh s within, c.self.inside.bases.ok)

pub index-requires-2 : goal.index-requires-2
index-requires-2 c =
    let sh = shown c.self.invariant c.self.view_is in
    let s = c.args.s.0 in
    let within = c.requires in
    omega (arith, in_bases sh s within, c.self.inside.bases.ok)

pub overflow_sub-result : goal.overflow_sub-result
overflow_sub-result c =
    let sh = shown c.self.invariant c.self.view_is in
    let s = c.args.s.0 in
    let within = c.requires in
    base_low sh s within _ _ c.index-2.ensures c.index.ensures

pub returns : goal.returns
returns c =
    let sh = shown c.self.invariant c.self.view_is in
    let s = c.args.s.0 in
    let within = c.requires in
    room_read sh s within _ _ c.index-2.ensures c.index.ensures
