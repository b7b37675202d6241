-- A worked row: what handlers have taken before a second delivery, at an or source and at an add source.
use Rattle.std.specs.Prelude.{◌≡◌, false, List, [], ◌∷◌, None, refl}
use Rattle.gcd_plan.specs.PlanView.{PlanView, ObjView}
use Rattle.gcd_plan.specs.declared.act.Act.TheVariants.{Activate, Merge}
use Rattle.gcd_plan.specs.declared.kind.Kind.{Kind}
use Rattle.gcd_plan.specs.declared.kind.Kind.TheVariants.{Concurrent, Add, Or}
use Rattle.gcd_plan.specs.declared.numbers.Run.TheVariants.{Block}
use Rattle.gcd_event.specs.declared.event.Event.{Event}
use Rattle.gcd_event.specs.declared.event.Event.TheVariants.{Start, Act as Acted, Deliver, DeliverEnd}
use Rattle.gcd_history.specs.History.{received_of}
use Rattle.gcd_row.specs.Totals.{received_earlier}

abbrev object_of : Kind → ObjView
object_of kind = record { name = []; kind = kind; target = record { 0 = 0 }; active = false; path = []; handler = []; cancel = None }

-- source s of this kind; main; activate s; merge s 3; merge s 6; merge s 12
abbrev merged_thrice : Kind → PlanView
merged_thrice kind = record {
  objects = object_of Concurrent ∷ object_of kind ∷ [];
  blocks = record { name = []; acts = Activate (record { 0 = 1 }) ∷ Merge (record { 0 = 1 }) 3 ∷ Merge (record { 0 = 1 }) 6 ∷ Merge (record { 0 = 1 }) 12 ∷ []; work = None } ∷ [];
  files = [];
  until = 1000;
  intake = None;
  strips = [];
}

-- worker 1 delivers what the first two merges made, and, after the third, delivers again
abbrev delivered_again : List Event
delivered_again = Start 0 (record { 0 = 0 })
    ∷ Acted 0 (Block (record { 0 = 0 })) 0
    ∷ Acted 0 (Block (record { 0 = 0 })) 1
    ∷ Acted 0 (Block (record { 0 = 0 })) 2
    ∷ Deliver 1 (record { 0 = 1 })
    ∷ Acted 0 (Block (record { 0 = 0 })) 3
    ∷ DeliverEnd 1 (record { 0 = 1 })
    ∷ Deliver 1 (record { 0 = 1 })
    ∷ []

-- the or source's handler has 3 or 6 bit by bit, and with 12 it will have 15; the add source's has the sums
or_earlier : (received_earlier (merged_thrice Or) delivered_again 1 ≡ 7) × (received_of (merged_thrice Or) delivered_again 1 ≡ 15)
unfolding received_earlier received_of
or_earlier = (refl, refl)

add_earlier : (received_earlier (merged_thrice Add) delivered_again 1 ≡ 9) × (received_of (merged_thrice Add) delivered_again 1 ≡ 21)
unfolding received_earlier received_of
add_earlier = (refl, refl)
