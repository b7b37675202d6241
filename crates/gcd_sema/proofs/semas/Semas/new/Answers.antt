use Rattle.std.proofs.Common.{◌≤◌, subst, sym, slice_index, length, rules, arith}
use Rattle.gcd_plan.specs.Limits.{max_acts}
use Rattle.gcd_sema.specs.Rooms.{Rise}
use Rattle.gcd_sema.proofs.Fresh.{low_rooms, fresh_shows}
use Rattle.gcd_sema.proofs.semas.Semas.new.Goals as goal

pub bases-requires-clause-low : goal.bases-requires-clause-low
bases-requires-clause-low c s =
    subst (λ xs. slice_index xs s ≤ max_acts) (sym c.deref.ensures.value)
    (low_rooms c.args.plan.now c.objects-objects.ensures.valid c.in_ok-rooms.field-0.items c.in_ok-rooms.ensures s)

pub invariant_of-result : goal.invariant_of-result
invariant_of-result c =
    (fresh_shows c.args.plan.now c.in_ok-rooms.field-0.items c.in_ok-bases.bases.items c.in_ok-first_values.field-0.items c.in_ok-vec.field-0.items
    c.in_ok-vec-2.field-0.items c.in_ok-vec-3.field-0.items c.in_ok-vec-4.field-0.items c.in_ok-vec-5.field-0.items c.objects-objects.result c.index-end.result.now
    c.in_ok-rooms.ensures (subst (λ xs. Rise xs c.in_ok-bases.bases.items (length xs)) c.deref.ensures.value c.in_ok-bases.ensures) c.objects-objects.ensures.count
    (omega (arith, c.objects-objects.ensures.count, c.objects-objects.ensures.valid.few_objects)) c.index-end.ensures
    c.in_ok-first_values.ensures (c.in_ok-vec.ensures.items_if_clones_equal (λ y same. search rules)) (c.in_ok-vec-2.ensures.items_if_clones_equal (λ y same. search rules))
    (c.in_ok-vec-3.ensures.items_if_clones_equal (λ y same. search rules)) (c.in_ok-vec-4.ensures.items_if_clones_equal (λ y same. search rules))
    (c.in_ok-vec-5.ensures.items_if_clones_equal (λ y same. search rules))).cells

pub returns : goal.returns
returns c =
    (fresh_shows c.args.plan.now c.in_ok-rooms.field-0.items c.in_ok-bases.bases.items c.in_ok-first_values.field-0.items c.in_ok-vec.field-0.items
    c.in_ok-vec-2.field-0.items c.in_ok-vec-3.field-0.items c.in_ok-vec-4.field-0.items c.in_ok-vec-5.field-0.items c.objects-objects.result c.index-end.result.now
    c.in_ok-rooms.ensures (subst (λ xs. Rise xs c.in_ok-bases.bases.items (length xs)) c.deref.ensures.value c.in_ok-bases.ensures) c.objects-objects.ensures.count
    (omega (arith, c.objects-objects.ensures.count, c.objects-objects.ensures.valid.few_objects)) c.index-end.ensures
    c.in_ok-first_values.ensures (c.in_ok-vec.ensures.items_if_clones_equal (λ y same. search rules)) (c.in_ok-vec-2.ensures.items_if_clones_equal (λ y same. search rules))
    (c.in_ok-vec-3.ensures.items_if_clones_equal (λ y same. search rules)) (c.in_ok-vec-4.ensures.items_if_clones_equal (λ y same. search rules))
    (c.in_ok-vec-5.ensures.items_if_clones_equal (λ y same. search rules))).seen
