use Rattle.std.proofs.Common.{length, sym, arith}
use Rattle.gcd_plan.proofs.Sums.{sum_by_one_more}
use Rattle.gcd_plan.proofs.Valid.{acts_seen, submissions_counted}
use Rattle.gcd_plan.proofs.submitted_once.submissions.Goals as goal

pub object_submissions-requires : goal.object_submissions-requires
object_submissions-requires c =
    let more = sum_by_one_more (λ o. length o.handler.items) c.args.parts.now.objects.items in
    let seen = acts_seen c.args.parts.now in
    rw c.deref-2.ensures.value (omega (arith, more, seen, c.requires))

pub returns : goal.returns
returns c =
    rw (c.block_submissions.ensures.count, c.object_submissions.ensures.count, c.deref.ensures.value, c.deref-2.ensures.value)
    (sym (submissions_counted c.args.parts.now c.args.b.0))
