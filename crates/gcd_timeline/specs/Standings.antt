-- How the blocks of a plan stand after a history.
use Rattle.std.specs.Prelude.{ℕ, if◌then◌else◌, List, length, map}
use Rattle.std.specs.List.{range_with_len}
use Rattle.gcd_plan.specs.PlanView.{PlanView}
use Rattle.gcd_event.specs.declared.event.Event.{Event}
use Rattle.gcd_history.specs.History.{is_started, is_submitted}
use Rattle.gcd_timeline.specs.declared.standing.Standing.{Standing}
use Rattle.gcd_timeline.specs.declared.standing.Standing.TheVariants.{Started, Waiting, Unsubmitted}

-- how block b stands: it has started, is submitted and has not started, or is not submitted (dispatch_async(3))
abbrev pub standing_of : PlanView → List Event → ℕ → Standing
standing_of plan h b = if is_started h b then Started else if is_submitted plan h b then Waiting else Unsubmitted

-- how each block stands, by number
abbrev pub standings_of : PlanView → List Event → List Standing
standings_of plan h = map (standing_of plan h) (range_with_len 0 (length plan.blocks))
