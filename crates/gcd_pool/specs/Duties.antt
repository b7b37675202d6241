-- What a worker has to do at a history, and how a history has ended.
use Rattle.std.specs.Prelude.{◌≡◌, ◌<◌, ℕ, List, length, Option, Some, None}
use Rattle.std.specs.Option.{option_and_then}
use Rattle.gcd_plan.specs.PlanView.{PlanView}
use Rattle.gcd_plan.specs.declared.numbers.Obj.{Obj}
use Rattle.gcd_plan.specs.declared.numbers.Run.{Run}
use Rattle.gcd_plan.specs.declared.numbers.Run.TheVariants.{Block, Source}
use Rattle.gcd_event.specs.declared.event.Event.{Event}
use Rattle.gcd_event.specs.Owners.{begun}
use Rattle.gcd_history.specs.Ends.{IsFull, IsGoingOn, IsHalted, IsQuiescent}
use Rattle.gcd_history.specs.History.{choice_of, node_of}
use Rattle.gcd_pool.specs.declared.duty.Duty.{Duty}
use Rattle.gcd_pool.specs.declared.duty.Duty.TheVariants.{Leave, Record, Begin, Rest}
use Rattle.gcd_pool.specs.declared.duty.Exit.{Exit}
use Rattle.gcd_pool.specs.declared.duty.Exit.TheVariants.{Quiescent, Halted, Full}

-- the history, of at most so many events, has ended so
abbrev pub HasExit : (most : ℕ) → PlanView → List Event → Exit → Type 0
HasExit most plan h Quiescent = IsQuiescent plan h
HasExit most plan h Halted = IsHalted h
HasExit most plan h Full = IsFull most plan h

-- the node on which the run begins: a block's queue or source, or a handler's source. None for main
abbrev pub node_of_run : PlanView → List Event → Run → Option Obj
node_of_run plan h (Block b) = node_of plan h b.0
node_of_run plan h (Source s) = Some s

-- the node on which the event begins a run. None for the Start of main, and for what begins no run
abbrev pub begun_on : PlanView → List Event → Event → Option Obj
begun_on plan h e = option_and_then (node_of_run plan h) (begun e)

-- what worker w chooses, the nodes from number `from` on, for which there is room
pub record Chooses (most : ℕ) (plan : PlanView) (h : List Event) (w from : ℕ) (e : Event) : Type 0 where
  pub chosen : choice_of plan h w from ≡ Some e
  pub room : length h < most

-- what worker w has to do: to leave where the history has ended; to record its choice, for which it has to hold the right to
-- drain a node where that begins a run on one; or nothing, though the run goes on
abbrev pub IsDuty : (most : ℕ) → PlanView → List Event → (w from : ℕ) → Duty → Type 0
IsDuty most plan h w from (Leave exit) = HasExit most plan h exit
IsDuty most plan h w from (Record e) = Chooses most plan h w from e × (begun_on plan h e ≡ None)
IsDuty most plan h w from (Begin node e) = Chooses most plan h w from e × (begun_on plan h e ≡ Some node)
IsDuty most plan h w from Rest = IsGoingOn plan h × (choice_of plan h w from ≡ None) × (length h < most)
