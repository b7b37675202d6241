use Rattle.gcd_plan.specs.declared.numbers.Run.TheVariants.{Source}
use Rattle.gcd_row.specs.declared.cell.Cell.TheVariants.{Away}
use Rattle.gcd_row.proofs.SourceSlots.{slot_here}
use Rattle.gcd_row.proofs.bodies.RowBoard+Cell+J+H.give_handler.Goals as goal

pub change-away-requires-clause-here : goal.change-away-requires-clause-here
change-away-requires-clause-here g c = (Away, slot_here _ _ c.args.self.now c.args.pass.now (Source c.args.s) _ _ c.requires.pass c.source_slot-slot.ensures c.requires.away)
