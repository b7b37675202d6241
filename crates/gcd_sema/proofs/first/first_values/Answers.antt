use Rattle.std.specs.List.{slice_get}
use Rattle.gcd_plan.specs.KindValues.{first_value_of}
use Rattle.gcd_plan.proofs.Mapped.{map_goes_on, test_found}
use Rattle.gcd_sema.proofs.first.first_values.Goals as goal

pub loop-o-preserved : goal.loop-o-preserved
loop-o-preserved c =
    let objects = c.args.plan.now.objects in
    let found = test_found (λ obj. obj.kind) first_value_of c.kind.result c.first_value.result (slice_get objects c.loop-o.o) c.kind.ensures c.first_value.ensures in
    map_goes_on (λ obj. first_value_of obj.kind) c.first_value.result objects c.loop-o.o _ _ c.loop-o.invariant c.in_ok-push.ensures.items found
