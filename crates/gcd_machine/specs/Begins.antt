-- What a worker may begin on a node (this project's own rule).
use Rattle.std.specs.Prelude.{ℕ, List, Option, Some, None, is_none, if◌then◌else◌}
use Rattle.std.specs.Option.{option_map_or, option_or}
use Rattle.gcd_plan.specs.Kinds.{is_source}
use Rattle.gcd_plan.specs.PlanView.{PlanView}
use Rattle.gcd_event.specs.declared.event.Event.{Event}
use Rattle.gcd_event.specs.declared.event.Event.TheVariants.{Start, Deliver}
use Rattle.gcd_history.specs.History.{first_waiting_of, why}

-- the event, if it may come next
abbrev pub if_permitted : PlanView → List Event → Event → Option Event
if_permitted plan h e = if is_none (why plan h e) then Some e else None

-- the Start of the first block that waits on node n, if it may come next
abbrev pub start_of : PlanView → List Event → (w n : ℕ) → Option Event
start_of plan h w n = option_map_or (λ b. if_permitted plan h (Start w b)) (first_waiting_of plan h n) None

-- the Deliver of node n, if it is a source and its Deliver may come next
abbrev pub deliver_of : PlanView → List Event → (w n : ℕ) → Option Event
deliver_of plan h w n = if is_source plan n then if_permitted plan h (Deliver w (record { 0 = n })) else None

-- what worker w may begin on node n: the one or the other
abbrev pub begin_of : PlanView → List Event → (w n : ℕ) → Option Event
begin_of plan h w n = option_or (start_of plan h w n) (deliver_of plan h w n)
