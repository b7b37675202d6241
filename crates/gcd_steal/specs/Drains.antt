-- What a Drain is to its rack.
use Rattle.std.specs.Prelude.{◌≡◌, ◌<◌}
use Rattle.atomic_table.specs.Seated.{TableId}
use Rattle.gcd_plan.specs.declared.numbers.Obj.{Obj}
use Rattle.gcd_steal.specs.declared.deque.RackId.{RackId}
use Rattle.gcd_steal.specs.declared.drain.Drain.{Drain}
use Rattle.gcd_steal.specs.declared.places.Sight.{Sight}

-- the node that the Drain may drain
abbrev pub node_of : Drain → Obj
node_of d = d.node

-- what the seat that took the Drain from its place knew then
abbrev pub sight_with : Drain → Sight
sight_with d = d.place.me.0

-- d is a Drain of the rack with these tables of tokens and of places
pub record IsDrainOf (tokens_id places_id : TableId) (d : Drain) : Type 0 where
  pub token : d.token.table_id ≡ tokens_id
  pub place : d.place.table_id ≡ places_id
  pub told : d.token.table_id ≡ (sight_with d).tokens.table_id
  pub node : (node_of d).0 < places_id.slots

abbrev pub IsOf : RackId → Drain → Type 0
IsOf rack d = IsDrainOf rack.tokens.table_id rack.places.table_id d
