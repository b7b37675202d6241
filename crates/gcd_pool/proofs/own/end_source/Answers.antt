use Rattle.gcd_plan.specs.declared.numbers.Run.TheVariants.{Source}
use Rattle.gcd_pool.proofs.Puts.{ended_held}
use Rattle.gcd_pool.proofs.own.end_source.Goals as goal

pub call_handler-requires-clause-run : goal.call_handler-requires-clause-run
call_handler-requires-clause-run g c = ended_held g.S.Slot.shape g.S.Slot.gives c.args.pool.now.board.now c.args.hand.now.pass c.args.e (Source c.args.s) c.requires.of.pass c.requires.worker c.requires.may c.requires.ends
