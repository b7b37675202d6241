-- What is known of the cells of runs, an event on, the oldest event first (this project's own rules).
use Rattle.std.specs.Prelude.{◌≡◌, ◌≤◌, ◌*◌, ◌+◌, ℕ, false, List, [], ◌∷◌, ◌++◌, length, Some, None}
use Rattle.gcd_plan.specs.Limits.{max_value}
use Rattle.gcd_plan.specs.PlanView.{PlanView}
use Rattle.gcd_plan.specs.declared.numbers.Blk.{Blk}
use Rattle.gcd_plan.specs.declared.numbers.Obj.{Obj}
use Rattle.gcd_plan.specs.declared.numbers.Run.TheVariants.{Block, Source}
use Rattle.gcd_event.specs.declared.event.Event.{Event}
use Rattle.gcd_event.specs.declared.event.Event.TheVariants.{Deliver}
use Rattle.gcd_history.specs.Runs.{ends}
use Rattle.gcd_history.specs.Sources.{joined}
use Rattle.gcd_history.specs.History.{why, is_ended, delivery_count_of, received_of, last_data_of, pending_of}
use Rattle.gcd_history.specs.Held.{taken, given}
use Rattle.gcd_history.specs.Team.{held_by}
use Rattle.gcd_history.specs.TeamFacts.{SourceWaits}

-- an event ends only the block that it gives, and hands over only at the source whose run it takes
pub record CellsStay (plan : PlanView) (h : List Event) (e : Event) : Type 0 where
  pub bodies : (b : Blk) → (given plan e ≡ Some (Block b) → ⊥) → is_ended (h ++ e ∷ []) b.0 ≡ is_ended h b.0
  pub handlers : (s : Obj) → (taken e ≡ Some (Source s) → ⊥) → SourceWaits plan h (e ∷ []) s.0

-- a run that somebody has: a block has not ended, and a source hands nothing over, whatever comes
pub record HeldCellsWait (plan : PlanView) (h : List Event) : Type 0 where
  pub bodies : (w : ℕ) (b : Blk) → held_by plan h w ≡ Some (Block b) → is_ended h b.0 ≡ false
  pub handlers : (w : ℕ) (s : Obj) (e : Event) → held_by plan h w ≡ Some (Source s) → why plan h e ≡ None → SourceWaits plan h (e ∷ []) s.0

-- a block that is given back has ended where the event is its end
abbrev pub BodiesComeBack : PlanView → List Event → Type 0
BodiesComeBack plan h = (e : Event) (b : Blk) → given plan e ≡ Some (Block b) → why plan h e ≡ None → is_ended (h ++ e ∷ []) b.0 ≡ ends b.0 e

-- a Deliver counts once, and hands over what is pending
pub record HandsOver (plan : PlanView) (h : List Event) (w : ℕ) (s : Obj) : Type 0 where
  pub times : delivery_count_of (h ++ Deliver w s ∷ []) s.0 ≡ delivery_count_of h s.0 + 1
  pub value : last_data_of plan (h ++ Deliver w s ∷ []) s.0 ≡ pending_of plan h s.0
  pub total : received_of plan (h ++ Deliver w s ∷ []) s.0 ≡ joined plan s.0 (received_of plan h s.0) (last_data_of plan (h ++ Deliver w s ∷ []) s.0)

-- what sources count and add up is small: below 2^63 in the longest history
pub record TotalsFit (plan : PlanView) (h : List Event) (s : ℕ) : Type 0 where
  pub times : delivery_count_of h s ≤ length h
  pub value : last_data_of plan h s ≤ max_value * length h
  pub total : received_of plan h s ≤ max_value * length h
