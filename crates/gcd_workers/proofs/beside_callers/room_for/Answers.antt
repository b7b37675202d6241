use Rattle.gcd_workers.proofs.Intakes.{some_blocks}
use Rattle.gcd_workers.proofs.beside_callers.room_for.Goals as goal

pub returns-in-Some : goal.returns-in-Some
returns-in-Some c = some_blocks c.args.plan.now _ c.blocks-all.ensures.valid c.in-Some.ensures
