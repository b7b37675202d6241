use Rattle.std.proofs.Common.{subst, sym}
use Rattle.gcd_commands.specs.Senders.{IsOpen}
use Rattle.gcd_commands.proofs.senders.send_each.Goals as goal

pub for_each_mut-requires-clause-accepts : goal.for_each_mut-requires-clause-accepts
for_each_mut-requires-clause-accepts g c κs within = λ i p low is. subst (IsOpen c.args.front.now) (sym is) (c.requires i p.now low)
