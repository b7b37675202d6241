use Rattle.std.proofs.Common.{arith}
use Rattle.std.proofs.lemmas.List.Sums.{sum_by_more_le}
use Rattle.gcd_jobs.proofs.Pieces.{sum_of_bytes}
use Rattle.gcd_jobs.proofs.works.short_sum.Goals as goal

pub overflow_add-n : goal.overflow_add-n
overflow_add-n c =
    let whole = sum_of_bytes c.args.bytes.now c.type_inv.bytes in
    let more = sum_by_more_le (λ x. x) c.args.bytes.now c.loop-c.c-index 0 c.loop-c-test.true in
    omega (arith, c.requires, c.loop-c.invariant)
