use Rattle.gcd_pool.proofs.Exits.{exit_ended}
use Rattle.gcd_pool.proofs.duty.has_ended.Goals as goal

pub returns-in-Some : goal.returns-in-Some
returns-in-Some c = λ plan h stands few yes. exit_ended c.args.most plan h c.in-Some.field-0 (c.in-Some.ensures c.args.most plan h stands)
