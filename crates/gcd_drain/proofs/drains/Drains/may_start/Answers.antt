use Rattle.std.proofs.Common.{sym, arith}
use Rattle.gcd_drain.proofs.Placed.{place_within}
use Rattle.gcd_drain.proofs.drains.Drains.may_start.Goals as goal

pub place_fault-requires-clause-node : goal.place_fault-requires-clause-node
place_fault-requires-clause-node c =
    omega (arith, place_within c.args.lists.now c.args.b.0 c.in-Some.place (sym c.in-Some.ensures), c.requires.lists)
