use Rattle.std.proofs.Common.{rules, arith}
use Rattle.gcd_steal.proofs.Placing.{wakes, tested}
use Rattle.gcd_steal.proofs.places.take_slot.Goals as goal

pub swap-found-requires : goal.swap-found-requires
swap-found-requires c = (search rules, omega arith, wakes _ _ _ c.args.node.0 _ _ (search rules) (omega arith) (search rules))

pub returns-clause-told : goal.returns-clause-told
returns-clause-told c = tested c.swap-found.result 1 _ _ (c.swap-found.ensures.2 c.args.node.0 c.word_of_node.ensures)
