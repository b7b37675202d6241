-- What a history says that the parts do not ask of it, for the machine's own arrays: which group counts a block, who waits for
-- its end and for the blocks of a strip, which blocks sleep at a semaphore or a group, their wait neither passed nor expired, and
-- which limits are ahead.
-- Histories are the newest event first.
use Rattle.std.specs.Prelude.{ℕ, ◌+◌, ◌==◌, nat_lt, Bool, false, not, ◌&&◌, if◌then◌else◌, List, [], ◌∷◌, ◌++◌, length, map, filter, drop, Option, Some, None, option_and_then}
use Rattle.std.specs.Option.{option_or, option_map_or}
use Rattle.std.specs.List.{list_all}
use Rattle.gcd_plan.specs.Effects.{effects_of, Awaits, goes_on, end_of_own, end_of, empty_group, turn_at, ends_of}
use Rattle.gcd_plan.specs.Made.{strip_blocks}
use Rattle.gcd_plan.specs.PlanView.{PlanView}
use Rattle.gcd_plan.specs.declared.act.Act.{Act}
use Rattle.gcd_plan.specs.declared.numbers.Blk.{Blk}
use Rattle.gcd_plan.specs.declared.numbers.Obj.{Obj}
use Rattle.gcd_plan.specs.declared.numbers.Run.TheVariants.{Block, Source}
use Rattle.gcd_event.specs.declared.event.Event.{Event}
use Rattle.gcd_event.specs.declared.event.Event.TheVariants.{Start, Act as Acted, Wake, End, Deliver, DeliverEnd, Tick, Ready, FeedEnd, Misuse, Halt, Expire, Accept, Shut}
use Rattle.gcd_history.specs.Runs.{act_at, act_of, is_ended}
use Rattle.gcd_history.specs.Expired.{has_expired}
use Rattle.gcd_history.specs.Groups.{count}
use Rattle.gcd_history.specs.Parked.{may_wake}
use Rattle.gcd_history.specs.Timers.{now}
use Rattle.gcd_history.specs.Due.{limit, is_at_limit}
use Rattle.gcd_history.specs.Semas.{first_value, signal_count, waits}

-- the group to which the act adds block b
abbrev pub grouped : ℕ → Option Act → Option Obj
grouped b act = option_map_or (λ j. if j.1.0 == b then Some j.0 else None) (effects_of act).joins None

-- the group that counts block b, until its end
abbrev pub group_of : PlanView → List Event → ℕ → Option Obj
group_of plan [] b = None
group_of plan (e ∷ past) b = option_or (grouped b (act_of plan e)) (group_of plan past b)

-- block b, where it waits for the end of block c, which its act submits
abbrev pub caller_for : ℕ → Blk → Awaits → Option Blk
caller_for c b goes_on = None
caller_for c b (end_of_own d) = if d.0 == c then Some b else None
caller_for c b (end_of d) = None
caller_for c b (empty_group g) = None
caller_for c b (turn_at s) = None
caller_for c b (ends_of a) = None

-- the caller, where the act makes it wait for the end of block c
abbrev pub called_by : ℕ → Blk → Option Act → Option Blk
called_by c b act = caller_for c b (effects_of act).awaits

abbrev pub calls : PlanView → ℕ → Event → Option Blk
calls plan c (Start w b) = None
calls plan c (Acted w (Block b) i) = called_by c b (act_at plan (Block b) i)
calls plan c (Acted w (Source s) i) = None
calls plan c (Wake w b) = None
calls plan c (End w b) = None
calls plan c (Deliver w s) = None
calls plan c (DeliverEnd w s) = None
calls plan c (Tick t) = None
calls plan c (Ready s n) = None
calls plan c (FeedEnd s) = None
calls plan c (Misuse w k run i) = None
calls plan c Halt = None
calls plan c (Expire b) = None
calls plan c (Accept b s) = None
calls plan c Shut = None

-- the block that has waited for the end of block c, or still does
abbrev pub caller_of : PlanView → List Event → ℕ → Option Blk
caller_of plan [] c = None
caller_of plan (e ∷ past) c = option_or (calls plan c e) (caller_of plan past c)

-- it waits for the end of block c, which another act submits
abbrev pub is_for_end : ℕ → Awaits → Bool
is_for_end c goes_on = false
is_for_end c (end_of_own d) = false
is_for_end c (end_of d) = d.0 == c
is_for_end c (empty_group g) = false
is_for_end c (turn_at s) = false
is_for_end c (ends_of a) = false

-- the act waits for the end of block c, which it did not submit
abbrev pub waits_for_end : ℕ → Option Act → Bool
waits_for_end c act = is_for_end c (effects_of act).awaits

-- it waits for the blocks of strip a
abbrev pub is_for_strip : ℕ → Awaits → Bool
is_for_strip a goes_on = false
is_for_strip a (end_of_own b) = false
is_for_strip a (end_of b) = false
is_for_strip a (empty_group g) = false
is_for_strip a (turn_at s) = false
is_for_strip a (ends_of c) = c == a

-- the act applies strip a
abbrev pub applies : ℕ → Option Act → Bool
applies a act = is_for_strip a (effects_of act).awaits

-- the block whose act the event is, where the act passes the test
abbrev pub block_if : (Option Act → Bool) → PlanView → Event → List Blk
block_if test plan (Start w b) = []
block_if test plan (Acted w (Block b) i) = if test (act_at plan (Block b) i) then b ∷ [] else []
block_if test plan (Acted w (Source s) i) = []
block_if test plan (Wake w b) = []
block_if test plan (End w b) = []
block_if test plan (Deliver w s) = []
block_if test plan (DeliverEnd w s) = []
block_if test plan (Tick t) = []
block_if test plan (Ready s n) = []
block_if test plan (FeedEnd s) = []
block_if test plan (Misuse w c run i) = []
block_if test plan Halt = []
block_if test plan (Expire b) = []
block_if test plan (Accept b s) = []
block_if test plan Shut = []

-- the blocks that wait for the end of block c, which has not come
abbrev pub end_waiters : PlanView → List Event → ℕ → List Blk
end_waiters plan [] c = []
end_waiters plan (e ∷ past) c =
    if is_ended (e ∷ past) c then [] else end_waiters plan past c ++ block_if (waits_for_end c) plan e

-- all blocks of strip a have ended
abbrev pub is_done : PlanView → List Event → ℕ → Bool
is_done plan past a = list_all (λ b. is_ended past b.0) (strip_blocks plan a)

-- the blocks that wait for the blocks of strip a, which have not all ended: one at most
abbrev pub strip_sleepers : PlanView → List Event → ℕ → List Blk
strip_sleepers plan [] a = []
strip_sleepers plan (e ∷ past) a =
    if is_done plan (e ∷ past) a then [] else strip_sleepers plan past a ++ block_if (applies a) plan e

-- it waits for group g to be empty
abbrev pub is_for_group : ℕ → Awaits → Bool
is_for_group g goes_on = false
is_for_group g (end_of_own b) = false
is_for_group g (end_of b) = false
is_for_group g (empty_group h) = h.0 == g
is_for_group g (turn_at s) = false
is_for_group g (ends_of a) = false

-- the act waits for group g
abbrev pub waits_for_group : ℕ → Option Act → Bool
waits_for_group g act = is_for_group g (effects_of act).awaits

-- the wait that the event after past begins, where its act passes the test: the position of the act, and its block
abbrev pub wait_if : (Option Act → Bool) → PlanView → List Event → Event → List (ℕ × Blk)
wait_if test plan past (Start w b) = []
wait_if test plan past (Acted w (Block b) i) = if test (act_at plan (Block b) i) then (length past, b) ∷ [] else []
wait_if test plan past (Acted w (Source s) i) = []
wait_if test plan past (Wake w b) = []
wait_if test plan past (End w b) = []
wait_if test plan past (Deliver w s) = []
wait_if test plan past (DeliverEnd w s) = []
wait_if test plan past (Tick t) = []
wait_if test plan past (Ready s n) = []
wait_if test plan past (FeedEnd s) = []
wait_if test plan past (Misuse w c run i) = []
wait_if test plan past Halt = []
wait_if test plan past (Expire b) = []
wait_if test plan past (Accept b s) = []
wait_if test plan past Shut = []

-- the blocks of these waits that have not expired
abbrev pub unexpired_blocks : List Event → List (ℕ × Blk) → List Blk
unexpired_blocks past waits = map (λ w. w.1) (filter (λ w. not (has_expired past w.0)) waits)

-- the waits on semaphore s, by their rank, from 1
abbrev pub sema_waits : PlanView → List Event → ℕ → List (ℕ × Blk)
sema_waits plan [] s = []
sema_waits plan (e ∷ past) s = sema_waits plan past s ++ wait_if (waits s) plan past e

-- the blocks whose wait on semaphore s has neither passed nor expired
abbrev pub sema_sleepers : PlanView → List Event → ℕ → List Blk
sema_sleepers plan past s = drop (first_value plan s + signal_count plan past s) (unexpired_blocks past (sema_waits plan past s))

-- the waits for group g since it was empty last
abbrev pub group_waits : PlanView → List Event → ℕ → List (ℕ × Blk)
group_waits plan [] g = []
group_waits plan (e ∷ past) g =
    if count plan (e ∷ past) g == 0 then [] else group_waits plan past g ++ wait_if (waits_for_group g) plan past e

-- the blocks whose wait for group g has neither passed nor expired
abbrev pub group_sleepers : PlanView → List Event → ℕ → List Blk
group_sleepers plan past g = unexpired_blocks past (group_waits plan past g)

-- the limit, where it is above this time
abbrev pub if_ahead : (now limit : ℕ) → Option ℕ
if_ahead now end = if nat_lt now end then Some end else None

-- the limit of block b's wait, where the wait is not over and the limit is ahead
abbrev pub limit_ahead : PlanView → List Event → ℕ → Option ℕ
limit_ahead plan past b = if may_wake plan past b then None else option_and_then (if_ahead (now past)) (limit plan past b)

-- the wait of block b may expire: it is not over, and its limit has come
abbrev pub may_expire : PlanView → List Event → ℕ → Bool
may_expire plan past b = is_at_limit plan past b && not (may_wake plan past b)
