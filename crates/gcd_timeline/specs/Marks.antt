-- The marks of a journal: which runs it has, on whose lane each goes on, from which place to which. Here a history is the
-- oldest event first, and a place is an event's index, from 0.
use Rattle.std.specs.Prelude.{ℕ, ◌+◌, ◌-◌, Bool, false, if◌then◌else◌, List, drop, length, Option, Some, None, option_map, position, slice_get}
use Rattle.std.specs.Option.{option_map_or, option_and_then}
use Rattle.std.specs.List.{filter_map, range_with_len}
use Rattle.gcd_plan.specs.PlanView.{PlanView}
use Rattle.gcd_plan.specs.declared.numbers.Run.{Run}
use Rattle.gcd_event.specs.declared.event.Event.{Event}
use Rattle.gcd_event.specs.Owners.{begun, ended, worker_of}
use Rattle.gcd_history.specs.Runs.{same_run}
use Rattle.gcd_history.specs.Held.{taken, given}
use Rattle.gcd_timeline.specs.declared.mark.Stretch.{Stretch}
use Rattle.gcd_timeline.specs.declared.mark.Mark.{Mark}

-- a mark as a plain record: a run, and the stretches in which a worker has it, in order
pub record MarkView : Type 0 where
  pub run : Run
  pub stretches : List Stretch

abbrev pub mark_view : Mark → MarkView
mark_view m = record { run = m.run; stretches = m.stretches.items }

-- what is told is run r
abbrev pub is_run : Run → Option Run → Bool
is_run r told = option_map_or (same_run r) told false

-- the first place from i on whose event passes the test; the history's length where there is none
abbrev pub first_from : (Event → Bool) → List Event → ℕ → ℕ
first_from test h i = option_map_or (λ n. i + n) (position test (drop i h)) (length h)

-- where run r is given back, from place i on: by the act that parks it, or by its end
abbrev pub given_from : PlanView → List Event → Run → ℕ → ℕ
given_from plan h r i = first_from (λ e. is_run r (given plan e)) h i

-- where run r ends, from place i on
abbrev pub ended_from : List Event → Run → ℕ → ℕ
ended_from h r i = first_from (λ e. is_run r (ended e)) h i

-- the stretch of run r that begins at place i, where the event there takes it: on the lane of the event's worker, up to where
-- the run is given back
abbrev pub stretch_at : PlanView → List Event → Run → ℕ → Option Stretch
stretch_at plan h r i =
    option_and_then
    (λ e. if is_run r (taken e) then Some (record { worker = worker_of e; from = i; to = given_from plan h r i }) else None)
    (slice_get h i)

-- the stretches of run r that begins at place i: those that begin before its end, in order
abbrev pub stretches_of : PlanView → List Event → Run → ℕ → List Stretch
stretches_of plan h r i = filter_map (stretch_at plan h r) (range_with_len i (ended_from h r i - i))

-- the mark of the run that begins at place i
abbrev pub mark_at : PlanView → List Event → ℕ → Option MarkView
mark_at plan h i = option_map (λ r. record { run = r; stretches = stretches_of plan h r i }) (option_and_then begun (slice_get h i))

-- a mark for each run of the journal, in the order in which they begin
abbrev pub marks_of : PlanView → List Event → List MarkView
marks_of plan h = filter_map (mark_at plan h) (range_with_len 0 (length h))
