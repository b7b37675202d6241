-- Which waits have expired. A wait is told by the position of its act (dispatch_semaphore_wait(3), dispatch_group_wait(3); that
-- an event says so is this project's own rule).
use Rattle.std.specs.Prelude.{ℕ, ◌==◌, Bool, false, ◌||◌, if◌then◌else◌, List, [], ◌∷◌, length, Option, Some, None}
use Rattle.std.specs.Option.{option_map_or}
use Rattle.gcd_plan.specs.declared.numbers.Run.TheVariants.{Block}
use Rattle.gcd_event.specs.declared.event.Event.{Event}
use Rattle.gcd_event.specs.declared.event.Event.TheVariants.{Start, Act as Acted, Wake, End, Deliver, DeliverEnd, Tick, Ready, FeedEnd, Misuse, Halt, Expire, Accept, Shut}
use Rattle.gcd_history.specs.Runs.{same_run}

-- the position of block b's last act
abbrev pub last_act : List Event → ℕ → Option ℕ
last_act [] b = None
last_act (Acted w r i ∷ past) b = if same_run r (Block (record { 0 = b })) then Some (length past) else last_act past b
last_act (e ∷ past) b = last_act past b

-- the event after past is an Expire of the block whose last act stands at this position
abbrev pub expires : List Event → Event → (position : ℕ) → Bool
expires past (Expire b) position = option_map_or (λ p. p == position) (last_act past b.0) false
expires past (Start w c) position = false
expires past (Acted w r i) position = false
expires past (Wake w c) position = false
expires past (End w c) position = false
expires past (Deliver w s) position = false
expires past (DeliverEnd w s) position = false
expires past (Tick t) position = false
expires past (Ready s n) position = false
expires past (FeedEnd s) position = false
expires past (Misuse w c r i) position = false
expires past Halt position = false
expires past (Accept c s) position = false
expires past Shut position = false

-- the wait of the act at this position has expired: an Expire of its block stands after the act and before the block's next act
abbrev pub has_expired : List Event → (position : ℕ) → Bool
has_expired [] position = false
has_expired (e ∷ past) position = expires past e position || has_expired past position
