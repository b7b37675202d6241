use Rattle.std.proofs.Common.{arith, inr, sym}
use Rattle.gcd_pool.proofs.duty.duty_of.Goals as goal

pub returns-then-len-most : goal.returns-then-len-most
returns-then-len-most c = λ plan h stands few.
    let len = c.len.ensures plan h stands in
    c.exit_of.ensures c.args.most plan h stands (inr (inr (omega (arith, few, len))))

pub returns-in-None : goal.returns-in-None
returns-in-None c = λ plan h stands few.
    let len = c.len.ensures plan h stands in
    c.rest_or_leave.ensures c.args.most plan h c.args.worker c.args.from stands (sym (c.in-None.ensures.choice plan h stands)) (omega (arith, few, len))
