use Rattle.std.proofs.Common.{rules}
use Rattle.gcd_steal.proofs.Placing.{first_of, none_else}
use Rattle.gcd_steal.proofs.places.lay_in_place.Goals as goal

pub exchange-requires : goal.exchange-requires
exchange-requires c = (search rules, first_of _ _ c.args.drain.placed)

pub give_slot-requires-clause-slot : goal.give_slot-requires-clause-slot
give_slot-requires-clause-slot c = let e = none_else _ _ c.args.drain.placed in (c.args.drain.token, search (rules, e), search rules)
