use Rattle.std.proofs.Common.{◌∙◌, ◌+◌, ◌≤◌, min, length, slice_range, refl, ap, sym, arith}
use Rattle.gcd_sema.proofs.Cells.{shown, in_signals, in_given, in_reached, in_bases, read_at, is_low, part_fits, part_long, signals_seen, signalled_shows}
use Rattle.gcd_sema.proofs.semas.Semas.signal.Goals as goal

pub index-requires : goal.index-requires
index-requires c = omega (arith, in_bases (shown c.self.invariant c.self.view_is) c.args.s.0 c.requires.semaphore, c.self.inside.bases.ok)

pub index-requires-2 : goal.index-requires-2
index-requires-2 c = omega (arith, in_given (shown c.self.invariant c.self.view_is) c.args.s.0 c.requires.semaphore, c.self.inside.given.ok)

pub slice_bounds-waits-end : goal.slice_bounds-waits-end
slice_bounds-waits-end c =
    let sh = shown c.self.invariant c.self.view_is in
    let s = c.args.s.0 in
    let within = c.requires.semaphore in
    let fits : c.index.result.now + c.index-2.result.now ≤ length c.deref.result.now =
    omega (arith, part_fits sh s within _ _ c.index.ensures c.index-2.ensures, c.deref.ensures.len, c.self.inside.expired.ok) in
    fits

pub index-requires-3 : goal.index-requires-3
index-requires-3 c = omega (arith, in_reached (shown c.self.invariant c.self.view_is) c.args.s.0 c.requires.semaphore, c.self.inside.reached.ok)

pub index-requires-4 : goal.index-requires-4
index-requires-4 c = omega (arith, in_given (shown c.self.invariant c.self.view_is) c.args.s.0 c.requires.semaphore, c.self.inside.given.ok)

pub one_further-requires : goal.one_further-requires
one_further-requires c =
    let sh = shown c.self.invariant c.self.view_is in
    let s = c.args.s.0 in
    let within = c.requires.semaphore in
    is_low sh s within _ _ c.index-4.ensures c.index-3.ensures

pub unexpired_from-reached-requires-clause-from : goal.unexpired_from-reached-requires-clause-from
unexpired_from-reached-requires-clause-from c =
    let sh = shown c.self.invariant c.self.view_is in
    let s = c.args.s.0 in
    let within = c.requires.semaphore in
    let part = ap (λ xs. slice_range xs c.index.result.now (c.index.result.now + c.index-2.result.now)) c.deref.ensures.value in
    let long = part_long sh s within _ _ c.index.ensures c.index-2.ensures _ c.self.inside.expired.items refl part in
    let again = read_at sh s within _ _ (in_given sh s within) c.index-4.ensures ∙ sym (read_at sh s within _ _ (in_given sh s within) c.index-2.ensures) in
    omega (arith, long, c.one_further.ensures, again)

pub index_mut-requires : goal.index_mut-requires
index_mut-requires c = omega (arith, in_signals (shown c.self.invariant c.self.view_is) c.args.s.0 c.requires.semaphore, c.self.inside.signals.ok)

pub overflow_add-index_mut : goal.overflow_add-index_mut
overflow_add-index_mut c =
    let sh = shown c.self.invariant c.self.view_is in
    let s = c.args.s.0 in
    let within = c.requires.semaphore in
    omega (arith, c.requires.room, signals_seen sh s within, read_at sh s within _ _ (in_signals sh s within) c.index_mut.ensures.value)

pub index_mut-requires-2 : goal.index_mut-requires-2
index_mut-requires-2 c = omega (arith, in_reached (shown c.self.invariant c.self.view_is) c.args.s.0 c.requires.semaphore, c.self.inside.reached.ok)

pub invariant_of-self : goal.invariant_of-self
invariant_of-self c =
    let sh = shown c.self.invariant c.self.view_is in
    let s = c.args.s.0 in
    let within = c.requires.semaphore in
    let again = read_at sh s within _ _ (in_given sh s within) c.index-4.ensures ∙ sym (read_at sh s within _ _ (in_given sh s within) c.index-2.ensures) in
    let part = ap (λ xs. slice_range xs c.index.result.now (c.index.result.now + c.index-2.result.now)) c.deref.ensures.value in
    (signalled_shows sh s within _ _ _ _ _ _ _ c.index_mut.ensures.value c.index.ensures c.index-2.ensures c.index-3.ensures
    (c.one_further.ensures ∙ ap (λ n. min (c.index-3.result.now + 1) n) again) part c.unexpired_from-reached.ensures).cells

pub returns : goal.returns
returns c =
    let sh = shown c.self.invariant c.self.view_is in
    let s = c.args.s.0 in
    let within = c.requires.semaphore in
    let again = read_at sh s within _ _ (in_given sh s within) c.index-4.ensures ∙ sym (read_at sh s within _ _ (in_given sh s within) c.index-2.ensures) in
    let part = ap (λ xs. slice_range xs c.index.result.now (c.index.result.now + c.index-2.result.now)) c.deref.ensures.value in
    (signalled_shows sh s within _ _ _ _ _ _ _ c.index_mut.ensures.value c.index.ensures c.index-2.ensures c.index-3.ensures
    (c.one_further.ensures ∙ ap (λ n. min (c.index-3.result.now + 1) n) again) part c.unexpired_from-reached.ensures).seen
