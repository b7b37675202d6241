-- The report of a run of a caller's own jobs (this project's own rule).
use Rattle.std.specs.Prelude.{ℕ, if◌then◌else◌, List, [], ◌++◌, Option, None, length, slice_get, unwrap_or}
use Rattle.std.specs.List.{flat_map, range_with_len}
use Rattle.gcd_plan.specs.PlanView.{PlanView, name_of_blk}
use Rattle.gcd_event.specs.declared.event.Event.{Event}
use Rattle.gcd_history.specs.declared.state.State.{State}
use Rattle.gcd_history.specs.History.{is_block_cancelled, is_ended}
use Rattle.gcd_history.specs.Report.{line_end, outcome, source_line, stuck_lines, last_line}

-- the value that the list has for block b; 0 if it has none
abbrev pub job_value : List (Option ℕ) → ℕ → ℕ
job_value values b = unwrap_or (unwrap_or (slice_get values b) None) 0

-- `NAME = VALUE`, for a block that has ended; `NAME cancelled` if it is cancelled
abbrev pub job_line : PlanView → (value : ℕ → ℕ) → List Event → ℕ → List ℕ
job_line plan value h b =
    if is_ended h b
    then name_of_blk plan b ++ (outcome (is_block_cancelled plan h b) (value b) ++ line_end)
    else []

-- what follows the results in a report: the sources by number, the waits if the run is stuck, and the end
abbrev pub ending : PlanView → State → List Event → List ℕ
ending plan state h =
    flat_map (source_line plan h) (range_with_len 0 (length plan.objects))
    ++ (stuck_lines plan state h ++ last_line plan state h)

-- The report of a history that has come to this state, with these values of the blocks' jobs. Each block has a job, so each that has ended
-- has a line, by number; the rest is that of `report_by`.
unfoldable pub jobs_report : PlanView → (value : ℕ → ℕ) → State → List Event → List ℕ
jobs_report plan value state h =
    flat_map (job_line plan value h) (range_with_len 0 (length plan.blocks)) ++ ending plan state h
