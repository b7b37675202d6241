-- The values of a plan's blocks, as far as a run has come (this project's own rule).
use Rattle.std.specs.Prelude.{◌≡◌, ◌<◌, ◌&&◌, ℕ, Bool, true, false, not, if◌then◌else◌, List, length, Some, slice_get}
use Rattle.gcd_plan.specs.PlanView.{PlanView}
use Rattle.gcd_event.specs.declared.event.Event.{Event}
use Rattle.gcd_history.specs.History.{is_block_cancelled, is_ended}
use Rattle.gcd_history.specs.Values.{value_of}

-- block b has given its value: it has ended, and is not cancelled, since a cancelled block does no work (dispatch_block_cancel(3))
abbrev pub has_given : PlanView → List Event → ℕ → Bool
has_given plan h b = is_ended h b && not (is_block_cancelled plan h b)

-- what block b comes to at its End: the value of its work, and 0 where it is cancelled
abbrev pub value_at_end : PlanView → (files : List (List ℕ)) → List Event → ℕ → ℕ
value_at_end plan files h b = if is_block_cancelled plan h b then 0 else value_of plan files b

-- for each block the value of its work where it has given one, and else 0
pub record AreValues (plan : PlanView) (files : List (List ℕ)) (h : List Event) (given : List ℕ) : Type 0 where
  pub count : length given ≡ length plan.blocks
  pub values : (b : ℕ) → has_given plan h b ≡ true → slice_get given b ≡ Some (value_of plan files b)
  pub others : (b : ℕ) → b < length plan.blocks → has_given plan h b ≡ false → slice_get given b ≡ Some 0
