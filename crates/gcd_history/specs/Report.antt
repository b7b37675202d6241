-- The report of a run: results, sources, waits and the end, a line each (this project's own rule).
use Rattle.std.specs.Prelude.{ℕ, Bool, true, false, ◌-◌, ◌&&◌, not, if◌then◌else◌, List, [], ◌∷◌, ◌++◌, length, slice_get, sum_by, is_some, codes}
use Rattle.std.specs.Option.{option_map_or}
use Rattle.std.specs.List.{flat_map, range_with_len}
use Rattle.std.specs.Fmt.{decimal}
use Rattle.gcd_plan.specs.PlanView.{PlanView, work_of, name_of_obj, name_of_blk, name_of_strip}
use Rattle.gcd_plan.specs.Kinds.{is_source}
use Rattle.gcd_plan.specs.declared.numbers.Blk.{Blk}
use Rattle.gcd_plan.specs.declared.numbers.Run.{Run}
use Rattle.gcd_plan.specs.declared.numbers.Run.TheVariants.{Block, Source}
use Rattle.gcd_plan.specs.declared.reason.Reason.{Reason}
use Rattle.gcd_plan.specs.declared.reason.Reason.TheVariants.{Block as EndOf, Group, Strip, Rank}
use Rattle.gcd_event.specs.declared.event.Event.{Event}
use Rattle.gcd_event.specs.declared.event.Event.TheVariants.{Start, Act as Acted, Wake, End, Deliver, DeliverEnd, Tick, Ready, FeedEnd, Misuse, Halt, Expire, Accept, Shut}
use Rattle.gcd_history.specs.declared.state.State.{State}
use Rattle.gcd_history.specs.declared.state.State.TheVariants.{Drained, Stuck, Misused, Halted, Live}
use Rattle.gcd_history.specs.History.{is_block_cancelled, is_submitted, is_started, is_ended, awaited_of, received_of, delivery_count_of, pending_of}
use Rattle.gcd_history.specs.Intake.{blocks_of_sender}
use Rattle.gcd_history.specs.Values.{value_of}

-- the byte at the end of a line
abbrev pub line_end : List ℕ
line_end = 10 ∷ []

-- the name of the run's block or source
abbrev pub name_of_run : PlanView → Run → List ℕ
name_of_run plan (Block b) = name_of_blk plan b.0
name_of_run plan (Source s) = name_of_obj plan s.0

-- what follows the name in a block's line: `= VALUE`, or that it is cancelled
abbrev pub outcome : (cancelled : Bool) → ℕ → List ℕ
outcome true value = codes " cancelled"
outcome false value = codes " = " ++ decimal value

-- `NAME = VALUE`, for a block with work that has ended; `NAME cancelled` where it is cancelled
abbrev pub result_line : PlanView → (value : ℕ → ℕ) → List Event → ℕ → List ℕ
result_line plan value h b =
    if is_some (work_of plan b) && is_ended h b
    then name_of_blk plan b ++ (outcome (is_block_cancelled plan h b) (value b) ++ line_end)
    else []

-- what follows the name in a source's line
abbrev pub source_counts : PlanView → List Event → ℕ → List ℕ
source_counts plan h s =
    codes " received " ++ (decimal (received_of plan h s)
    ++ (codes " in " ++ (decimal (delivery_count_of h s)
    ++ (codes " pending " ++ (decimal (pending_of plan h s) ++ line_end)))))

-- `NAME received R in K pending Q`, for a source: what its Delivers handed over in one, their number, and what is pending
abbrev pub source_line : PlanView → List Event → ℕ → List ℕ
source_line plan h s =
    if is_source plan s
    then name_of_obj plan s ++ source_counts plan h s
    else []

-- the name of the block, group, strip or semaphore that is waited for
abbrev pub awaited_name : PlanView → Reason → List ℕ
awaited_name plan (EndOf b) = name_of_blk plan b.0
awaited_name plan (Group g position) = name_of_obj plan g.0
awaited_name plan (Strip a) = name_of_strip plan a
awaited_name plan (Rank s k) = name_of_obj plan s.0

-- `NAME waits for X`, for a parked block
abbrev pub wait_line : PlanView → List Event → ℕ → List ℕ
wait_line plan h b =
    option_map_or (λ awaited. name_of_blk plan b ++ (codes " waits for " ++ (awaited_name plan awaited ++ line_end))) (awaited_of plan h b) []

-- `NAME not started`, for a submitted block that has not started
abbrev pub unstarted_line : PlanView → List Event → ℕ → List ℕ
unstarted_line plan h b =
    if is_submitted plan h b && not (is_started h b) then name_of_blk plan b ++ (codes " not started" ++ line_end) else []

-- where the run is stuck: the parked blocks, and then the blocks that have not started, by number
abbrev pub stuck_lines : PlanView → State → List Event → List ℕ
stuck_lines plan Drained h = []
stuck_lines plan Stuck h =
    flat_map (wait_line plan h) (range_with_len 0 (length plan.blocks))
    ++ flat_map (unstarted_line plan h) (range_with_len 0 (length plan.blocks))
stuck_lines plan Misused h = []
stuck_lines plan Halted h = []
stuck_lines plan Live h = []

-- `misuse R I Mk`, for a Misuse: the run's name, the act's index and the code
abbrev pub misuse_line : PlanView → Event → List ℕ
misuse_line plan (Misuse w c run i) =
    codes "misuse " ++ (name_of_run plan run ++ (codes " " ++ (decimal i ++ (codes " M" ++ (decimal c ++ line_end)))))
misuse_line plan (Start w b) = []
misuse_line plan (Acted w r i) = []
misuse_line plan (Wake w b) = []
misuse_line plan (End w b) = []
misuse_line plan (Deliver w s) = []
misuse_line plan (DeliverEnd w s) = []
misuse_line plan (Tick t) = []
misuse_line plan (Ready s n) = []
misuse_line plan (FeedEnd s) = []
misuse_line plan Halt = []
misuse_line plan (Expire b) = []
misuse_line plan (Accept b s) = []
misuse_line plan Shut = []

-- the last line: `drained`, `stuck`, the misuse, `read fault` after a Halt, and else `full`
abbrev pub last_line : PlanView → State → List Event → List ℕ
last_line plan Drained h = codes "drained" ++ line_end
last_line plan Stuck h = codes "stuck" ++ line_end
last_line plan Misused h = option_map_or (misuse_line plan) (slice_get h (length h - 1)) []
last_line plan Halted h = codes "read fault" ++ line_end
last_line plan Live h = codes "full" ++ line_end

-- the report of a history that has come so far, with these values of the blocks: the results by number of block, the sources
-- by number, the waits where it is stuck, and the end
unfoldable pub report_by : PlanView → (value : ℕ → ℕ) → State → List Event → List ℕ
report_by plan value state h =
    flat_map (result_line plan value h) (range_with_len 0 (length plan.blocks))
    ++ (flat_map (source_line plan h) (range_with_len 0 (length plan.objects))
    ++ (stuck_lines plan state h ++ last_line plan state h))

-- the report over the files, by number
abbrev pub report_text : PlanView → (files : List (List ℕ)) → State → List Event → List ℕ
report_text plan files state h = report_by plan (value_of plan files) state h

-- the value of the block, where it has ended
abbrev pub ended_value : (value : ℕ → ℕ) → List Event → Blk → ℕ
ended_value value h b = if is_ended h b.0 then value b.0 else 0

-- `sender S accepted K total T`: how many blocks were accepted of sender s, and the values of those that have ended, in one
abbrev pub sender_line : (value : ℕ → ℕ) → List Event → ℕ → List ℕ
sender_line value h s =
    codes "sender " ++ (decimal s
    ++ (codes " accepted " ++ (decimal (length (blocks_of_sender h s))
    ++ (codes " total " ++ (decimal (sum_by (ended_value value h) (blocks_of_sender h s)) ++ line_end)))))

-- what is told of a run with so many senders: a line for each, and the end
unfoldable pub front_text : PlanView → (senders : ℕ) → (value : ℕ → ℕ) → State → List Event → List ℕ
front_text plan senders value state h = flat_map (sender_line value h) (range_with_len 0 senders) ++ last_line plan state h
