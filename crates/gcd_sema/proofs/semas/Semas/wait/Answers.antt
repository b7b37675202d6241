use Rattle.std.proofs.Common.{◌∙◌, ◌+◌, cond, ap, arith}
use Rattle.gcd_sema.proofs.Cells.{shown, in_left, in_given, in_reached, in_bases, read_at, given_seen, rank_fits, left_fits, cell_within, waited_shows}
use Rattle.gcd_sema.proofs.semas.Semas.wait.Goals as goal

pub index-place-requires : goal.index-place-requires
index-place-requires c = omega (arith, in_given (shown c.self.invariant c.self.view_is) c.args.s.0 c.requires.semaphore, c.self.inside.given.ok)

pub index-requires : goal.index-requires
index-requires c = omega (arith, in_reached (shown c.self.invariant c.self.view_is) c.args.s.0 c.requires.semaphore, c.self.inside.reached.ok)

pub reached_with_wait-reached-requires : goal.reached_with_wait-reached-requires
reached_with_wait-reached-requires c =
    let sh = shown c.self.invariant c.self.view_is in
    let s = c.args.s.0 in
    let within = c.requires.semaphore in
    omega (arith, rank_fits sh s within c.requires.room _ c.index-place.ensures)

pub index-requires-2 : goal.index-requires-2
index-requires-2 c = omega (arith, in_bases (shown c.self.invariant c.self.view_is) c.args.s.0 c.requires.semaphore, c.self.inside.bases.ok)

pub index_mut-requires : goal.index_mut-requires
index_mut-requires c =
    let sh = shown c.self.invariant c.self.view_is in
    let s = c.args.s.0 in
    let within = c.requires.semaphore in
    omega (arith, cell_within sh s within c.requires.room _ _ c.index-place.ensures c.index-2.ensures, c.self.inside.expired.ok)

pub index_mut-requires-2 : goal.index_mut-requires-2
index_mut-requires-2 c = omega (arith, in_left (shown c.self.invariant c.self.view_is) c.args.s.0 c.requires.semaphore, c.self.inside.left.ok)

pub overflow_add-index_mut : goal.overflow_add-index_mut
overflow_add-index_mut c =
    let sh = shown c.self.invariant c.self.view_is in
    let s = c.args.s.0 in
    let within = c.requires.semaphore in
    omega (arith, left_fits sh s within c.requires.room _ c.index_mut-2.ensures.value)

pub index_mut-requires-3 : goal.index_mut-requires-3
index_mut-requires-3 c = omega (arith, in_reached (shown c.self.invariant c.self.view_is) c.args.s.0 c.requires.semaphore, c.self.inside.reached.ok)

pub overflow_add-place : goal.overflow_add-place
overflow_add-place c =
    let sh = shown c.self.invariant c.self.view_is in
    let s = c.args.s.0 in
    let within = c.requires.semaphore in
    omega (arith, rank_fits sh s within c.requires.room _ c.index-place.ensures)

pub index_mut-requires-4 : goal.index_mut-requires-4
index_mut-requires-4 c = omega (arith, in_given (shown c.self.invariant c.self.view_is) c.args.s.0 c.requires.semaphore, c.self.inside.given.ok)

pub overflow_add-result : goal.overflow_add-result
overflow_add-result c =
    let sh = shown c.self.invariant c.self.view_is in
    let s = c.args.s.0 in
    let within = c.requires.semaphore in
    omega (arith, rank_fits sh s within c.requires.room _ c.index-place.ensures)

pub invariant_of-self : goal.invariant_of-self
invariant_of-self c =
    let sh = shown c.self.invariant c.self.view_is in
    let s = c.args.s.0 in
    let within = c.requires.semaphore in
    (waited_shows sh s within _ _ _ _ _ c.index-place.ensures c.index-2.ensures c.index_mut-2.ensures.value c.index.ensures
    (c.reached_with_wait-reached.ensures ∙ ap (λ t. cond t (c.index-place.result.now + 1) c.index.result.now) c.has_value.ensures) c.requires.room).cells

pub returns-clause-rank : goal.returns-clause-rank
returns-clause-rank c =
    let sh = shown c.self.invariant c.self.view_is in
    let s = c.args.s.0 in
    let within = c.requires.semaphore in
    ap (λ n. n + 1) (read_at sh s within _ _ (in_given sh s within) c.index-place.ensures ∙ given_seen sh s within)

pub returns-clause-counted : goal.returns-clause-counted
returns-clause-counted c =
    let sh = shown c.self.invariant c.self.view_is in
    let s = c.args.s.0 in
    let within = c.requires.semaphore in
    (waited_shows sh s within _ _ _ _ _ c.index-place.ensures c.index-2.ensures c.index_mut-2.ensures.value c.index.ensures
    (c.reached_with_wait-reached.ensures ∙ ap (λ t. cond t (c.index-place.result.now + 1) c.index.result.now) c.has_value.ensures) c.requires.room).seen
