use Rattle.std.proofs.Common.{arith, rules}
use Rattle.gcd_outer.proofs.TextLemmas.{bytes_pushed}
use Rattle.gcd_outer.proofs.list_poller.ListPollerPoller.watch.Goals as goal

pub returns-clause-used : goal.returns-clause-used
returns-clause-used c =
    let pushed = bytes_pushed c.args.self.now.paths c.push.new.self c.args.feed c.args.path.now (search rules) in
    omega (arith, pushed)
