use Rattle.std.proofs.Common.{rules, arith}
use Rattle.gcd_steal.proofs.Placing.{lies}
use Rattle.gcd_steal.proofs.places.give_slot.Goals as goal

pub store-requires : goal.store-requires
store-requires c = (search rules, omega arith, lies _ _ _ c.args.node.0 _ _ (search rules) (omega arith) c.requires.slot)

pub returns-clause-seat : goal.returns-clause-seat
returns-clause-seat c = let told = c.store.ensures.2 c.args.node.0 c.word_of_node.ensures in (search rules, told.1)

pub returns-clause-told : goal.returns-clause-told
returns-clause-told c = let told = c.store.ensures.2 c.args.node.0 c.word_of_node.ensures in told.0
