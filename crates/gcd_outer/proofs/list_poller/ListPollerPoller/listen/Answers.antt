use Rattle.std.proofs.Common.{arith, rules}
use Rattle.gcd_outer.proofs.TextLemmas.{bytes_pushed}
use Rattle.gcd_outer.proofs.list_poller.ListPollerPoller.listen.Goals as goal

pub returns-clause-used : goal.returns-clause-used
returns-clause-used c =
    let pushed = bytes_pushed c.args.self.now.addresses c.push.new.self 0 c.args.addr.now (search rules) in
    omega (arith, pushed)
