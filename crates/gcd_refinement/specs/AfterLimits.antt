-- How an event changes the limits of waits in the view: which are ahead, and which waits may expire.
use Rattle.std.specs.Prelude.{ℕ, ◌+◌, ◌==◌, nat_le, nat_lt, min, Bool, true, false, ◌||◌, if◌then◌else◌, List, length, map, fold, Option, Some, None, option_and_then, slice_set}
use Rattle.std.specs.Option.{option_map_or, option_map}
use Rattle.std.specs.List.{range_with_len}
use Rattle.gcd_plan.specs.Effects.{effects_of}
use Rattle.gcd_plan.specs.PlanView.{PlanView}
use Rattle.gcd_plan.specs.declared.act.Act.{Act}
use Rattle.gcd_plan.specs.declared.numbers.Blk.{Blk}
use Rattle.gcd_plan.specs.declared.numbers.Run.TheVariants.{Block, Source}
use Rattle.gcd_event.specs.declared.event.Event.{Event}
use Rattle.gcd_event.specs.declared.event.Event.TheVariants.{Start, Act as Acted, Wake, End, Deliver, DeliverEnd, Tick, Ready, FeedEnd, Misuse, Halt, Expire, Accept, Shut}
use Rattle.gcd_history.specs.Runs.{act_at}
use Rattle.gcd_refinement.specs.MachineView.{MachineView, ahead_at, is_ripe_at}
use Rattle.gcd_refinement.specs.Sleepers.{if_ahead}
use Rattle.gcd_refinement.specs.Submits.{come_at_once, come_by}

-- the limit of the wait that the act begins
abbrev pub limit_in_view : MachineView → Option Act → Option ℕ
limit_in_view v act = option_map (λ ms. min (v.timers.moment + ms) v.plan.until) (effects_of act).limit

-- the limit of block b's wait is ahead, where it has one that is above the time
abbrev pub laid_ahead : MachineView → Blk → Option ℕ → List (Option ℕ)
laid_ahead v b None = v.ahead
laid_ahead v b (Some end) = if nat_lt v.timers.moment end then slice_set v.ahead b.0 (Some end) else v.ahead

-- and else the wait may expire at once
abbrev pub laid_ripe : MachineView → Blk → Option ℕ → List Bool
laid_ripe v b None = v.ripe
laid_ripe v b (Some end) = if nat_lt v.timers.moment end then v.ripe else slice_set v.ripe b.0 true

-- a limit that time t has reached is ahead no more
abbrev pub still_ahead : ℕ → Option ℕ → Option ℕ
still_ahead t end = option_and_then (if_ahead t) end

-- time t has reached the limit
abbrev pub is_reached : ℕ → Option ℕ → Bool
is_reached t end = option_map_or (λ n. nat_le n t) end false

-- block b's wait may expire once time has come to t
abbrev pub is_ripe_by : MachineView → ℕ → ℕ → Bool
is_ripe_by v t b = is_ripe_at v b || is_reached t (ahead_at v b)

-- the limit of the wait that the act begins, where its block goes to sleep
abbrev pub limit_asleep : MachineView → Blk → Option Act → Option ℕ
limit_asleep v b act = if length (come_at_once v b act) == 0 then limit_in_view v act else None

abbrev pub ahead_at_event : PlanView → MachineView → Event → List (Option ℕ)
ahead_at_event plan v (Start w b) = v.ahead
ahead_at_event plan v (Acted w (Block b) i) = laid_ahead v b (limit_asleep v b (act_at plan (Block b) i))
ahead_at_event plan v (Acted w (Source s) i) = v.ahead
ahead_at_event plan v (Wake w b) = v.ahead
ahead_at_event plan v (End w b) = v.ahead
ahead_at_event plan v (Deliver w s) = v.ahead
ahead_at_event plan v (DeliverEnd w s) = v.ahead
ahead_at_event plan v (Tick t) = map (still_ahead t) v.ahead
ahead_at_event plan v (Ready s n) = v.ahead
ahead_at_event plan v (FeedEnd s) = v.ahead
ahead_at_event plan v (Misuse w c run i) = v.ahead
ahead_at_event plan v Halt = v.ahead
ahead_at_event plan v (Expire b) = v.ahead
ahead_at_event plan v (Accept b s) = v.ahead
ahead_at_event plan v Shut = v.ahead

abbrev pub ripe_at_event : PlanView → MachineView → Event → List Bool
ripe_at_event plan v (Start w b) = v.ripe
ripe_at_event plan v (Acted w (Block b) i) = laid_ripe v b (limit_asleep v b (act_at plan (Block b) i))
ripe_at_event plan v (Acted w (Source s) i) = v.ripe
ripe_at_event plan v (Wake w b) = v.ripe
ripe_at_event plan v (End w b) = v.ripe
ripe_at_event plan v (Deliver w s) = v.ripe
ripe_at_event plan v (DeliverEnd w s) = v.ripe
ripe_at_event plan v (Tick t) = map (is_ripe_by v t) (range_with_len 0 (length v.ripe))
ripe_at_event plan v (Ready s n) = v.ripe
ripe_at_event plan v (FeedEnd s) = v.ripe
ripe_at_event plan v (Misuse w c run i) = v.ripe
ripe_at_event plan v Halt = v.ripe
ripe_at_event plan v (Expire b) = v.ripe
ripe_at_event plan v (Accept b s) = v.ripe
ripe_at_event plan v Shut = v.ripe

-- the wait of block b is over
abbrev pub without_limit : List (Option ℕ) → Blk → List (Option ℕ)
without_limit ahead b = slice_set ahead b.0 None

abbrev pub without_ripe : List Bool → Blk → List Bool
without_ripe ripe b = slice_set ripe b.0 false

abbrev pub ahead_after : PlanView → MachineView → Event → List (Option ℕ)
ahead_after plan v e = fold without_limit (ahead_at_event plan v e) (come_by plan v e)

abbrev pub ripe_after : PlanView → MachineView → Event → List Bool
ripe_after plan v e = fold without_ripe (ripe_at_event plan v e) (come_by plan v e)
