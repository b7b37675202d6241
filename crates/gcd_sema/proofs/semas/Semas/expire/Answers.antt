use Rattle.std.proofs.Common.{◌∙◌, ◌+◌, ◌-◌, ◌≤◌, true, length, slice_range, ap, arith, length-set}
use Rattle.gcd_sema.proofs.Cells.{shown, in_left, in_given, in_reached, in_bases, is_low, part_fits, part_long, place_within, some_left_here, expired_shows}
use Rattle.gcd_sema.proofs.semas.Semas.expire.Goals as goal

pub index-requires : goal.index-requires
index-requires c = omega (arith, in_bases (shown c.self.invariant c.self.view_is) c.args.s.0 c.requires.semaphore, c.self.inside.bases.ok)

pub index_mut-requires : goal.index_mut-requires
index_mut-requires c =
    let sh = shown c.self.invariant c.self.view_is in
    let s = c.args.s.0 in
    let within = c.requires.semaphore in
    omega (arith, place_within sh s within c.args.rank c.requires.first c.requires.begun _ c.index.ensures, c.self.inside.expired.ok)

pub index-requires-2 : goal.index-requires-2
index-requires-2 c = omega (arith, in_given (shown c.self.invariant c.self.view_is) c.args.s.0 c.requires.semaphore, c.self.inside.given.ok)

pub slice_bounds-waits-end : goal.slice_bounds-waits-end
slice_bounds-waits-end c =
    let sh = shown c.self.invariant c.self.view_is in
    let s = c.args.s.0 in
    let within = c.requires.semaphore in
    let same = ap length c.deref.ensures.value ∙ length-set c.self.inside.expired.items (c.index.result.now + (c.args.rank - 1)) true in
    let fits : c.index.result.now + c.index-2.result.now ≤ length c.deref.result.now =
    omega (arith, part_fits sh s within _ _ c.index.ensures c.index-2.ensures, same) in
    fits

pub index-requires-3 : goal.index-requires-3
index-requires-3 c = omega (arith, in_reached (shown c.self.invariant c.self.view_is) c.args.s.0 c.requires.semaphore, c.self.inside.reached.ok)

pub unexpired_from-reached-requires-clause-from : goal.unexpired_from-reached-requires-clause-from
unexpired_from-reached-requires-clause-from c =
    let sh = shown c.self.invariant c.self.view_is in
    let s = c.args.s.0 in
    let within = c.requires.semaphore in
    let part = ap (λ xs. slice_range xs c.index.result.now (c.index.result.now + c.index-2.result.now)) c.deref.ensures.value in
    let same = length-set c.self.inside.expired.items (c.index.result.now + (c.args.rank - 1)) true in
    let long = part_long sh s within _ _ c.index.ensures c.index-2.ensures _ _ same part in
    omega (arith, long, is_low sh s within _ _ c.index-2.ensures c.index-3.ensures)

pub index_mut-requires-2 : goal.index_mut-requires-2
index_mut-requires-2 c = omega (arith, in_reached (shown c.self.invariant c.self.view_is) c.args.s.0 c.requires.semaphore, c.self.inside.reached.ok)

pub index_mut-requires-3 : goal.index_mut-requires-3
index_mut-requires-3 c = omega (arith, in_left (shown c.self.invariant c.self.view_is) c.args.s.0 c.requires.semaphore, c.self.inside.left.ok)

pub overflow_sub-index_mut : goal.overflow_sub-index_mut
overflow_sub-index_mut c =
    let sh = shown c.self.invariant c.self.view_is in
    let s = c.args.s.0 in
    let within = c.requires.semaphore in
    let some = some_left_here sh s within c.args.rank c.requires.first c.requires.begun _ c.index.ensures c.requires.unexpired _ c.index_mut-3.ensures.value in
    omega (arith, some)

pub invariant_of-self : goal.invariant_of-self
invariant_of-self c =
    let sh = shown c.self.invariant c.self.view_is in
    let s = c.args.s.0 in
    let within = c.requires.semaphore in
    let part = ap (λ xs. slice_range xs c.index.result.now (c.index.result.now + c.index-2.result.now)) c.deref.ensures.value in
    (expired_shows sh s within c.args.rank c.requires.first c.requires.begun _ c.index.ensures c.requires.unexpired c.requires.waiting _ _ _ _ _
    c.index_mut-3.ensures.value c.index-2.ensures c.index-3.ensures part c.unexpired_from-reached.ensures).cells

pub returns : goal.returns
returns c =
    let sh = shown c.self.invariant c.self.view_is in
    let s = c.args.s.0 in
    let within = c.requires.semaphore in
    let part = ap (λ xs. slice_range xs c.index.result.now (c.index.result.now + c.index-2.result.now)) c.deref.ensures.value in
    (expired_shows sh s within c.args.rank c.requires.first c.requires.begun _ c.index.ensures c.requires.unexpired c.requires.waiting _ _ _ _ _
    c.index_mut-3.ensures.value c.index-2.ensures c.index-3.ensures part c.unexpired_from-reached.ensures).seen
