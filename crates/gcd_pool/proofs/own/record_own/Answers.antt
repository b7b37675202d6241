use Rattle.std.proofs.Common.{rules}
use Rattle.gcd_plan.specs.declared.numbers.Run.TheVariants.{Block}
use Rattle.gcd_pool.proofs.Puts.{ended_held}
use Rattle.gcd_pool.proofs.own.record_own.Goals as goal

pub run_body-requires-clause-run : goal.run_body-requires-clause-run
run_body-requires-clause-run g c =
    ended_held g.S.Slot.shape g.S.Slot.gives c.args.pool.now.board.now c.args.hand.now.pass c.args.e (Block c.in-Some-Block.b) c.requires.ready.of.pass c.requires.worker c.requires.may (search rules)
