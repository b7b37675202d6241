use Rattle.gcd_plan.specs.declared.numbers.Run.TheVariants.{Source}
use Rattle.gcd_row.specs.declared.cell.Cell.TheVariants.{Handler}
use Rattle.gcd_row.proofs.SourceSlots.{slot_here}
use Rattle.gcd_row.proofs.bodies.RowBoard+Cell+J+H.take_handler.Goals as goal

pub change-requires-clause-here : goal.change-requires-clause-here
change-requires-clause-here g c = let h = c.requires.handler in (Handler h.0, slot_here _ _ c.args.self.now c.args.pass.now (Source c.args.s) _ _ c.requires.pass c.source_slot-slot.ensures h.1)
