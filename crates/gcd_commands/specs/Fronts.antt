-- What `front` does, and what its runs promise of the jobs that its senders hand in (this project's own rule).
use Rattle.std.specs.Prelude.{◌≡◌, ◌<◌, ◌≤◌, ◌+◌, ◌*◌, ◌/◌, ◌++◌, ℕ, true, false, List, Option, Some, None, length, map, sum, slice_get, unwrap_or, option_to_list, codes}
use Rattle.std.specs.Fmt.{decimal}
use Rattle.gcd_plan.specs.Limits.{max_blocks, max_events}
use Rattle.gcd_plan.specs.PlanView.{PlanView, IntakeView}
use Rattle.gcd_plan.specs.declared.numbers.Blk.{Blk}
use Rattle.gcd_event.specs.declared.event.Event.{Event}
use Rattle.gcd_history.specs.Ends.{IsQuiescent}
use Rattle.gcd_history.specs.History.{is_ended}
use Rattle.gcd_history.specs.Intake.{accepted_of, AcceptsOf, blocks_of_sender}
use Rattle.gcd_history.specs.Report.{front_text, line_end}
use Rattle.gcd_outer.specs.Outside.{Bytes, ClockState, Seen, ShelfState}
use Rattle.gcd_outer.specs.Tells.{PollerState}
use Rattle.gcd_workers.specs.declared.ran.Ran.{Ran as Left}
use Rattle.gcd_commands.specs.Calls.{InputsSeen}
use Rattle.gcd_commands.specs.End.{End, stop_end}
use Rattle.gcd_commands.specs.Loads.{IsPlanOf, IsReady, StopsFile, StopsScript}
use Rattle.gcd_commands.specs.Runs.{Ran, TellsRun}
use Rattle.gcd_commands.specs.declared.stop.Stop.{Stop}
use Rattle.gcd_commands.specs.declared.stop.Stop.TheVariants.{NoIntake, Memory}

-- ## Where it stops

-- why `front` stops, after so many loads: at the script; where that has no intake; at a file of it; or where memory ran out after that
pub data StopsFront (shelf : Seen ShelfState) (script : Bytes) (n : ℕ) (stop : Stop) : Type 0 where
  at_script : StopsScript shelf script stop → n ≡ 1 → StopsFront shelf script n stop
  at_intake : (plan : PlanView) → IsPlanOf shelf script plan → plan.intake ≡ None → stop ≡ NoIntake → n ≡ 1
      → StopsFront shelf script n stop
  at_file : (plan : PlanView) (intake : IntakeView) (f : ℕ) → IsPlanOf shelf script plan → plan.intake ≡ Some intake
      → StopsFile shelf plan.files f stop → n ≡ f + 2 → StopsFront shelf script n stop
  wanting : (plan : PlanView) (contents : List Bytes) → IsReady shelf script plan contents → stop ≡ Memory
      → n ≡ length plan.files + 1 → StopsFront shelf script n stop

-- the loads of `front` up to some step: one of the script; one of each file of its plan, up to some file
pub data IsFrontCount (shelf : Seen ShelfState) (script : Bytes) (n : ℕ) : Type 0 where
  of_script : n ≡ 1 → IsFrontCount shelf script n
  of_files : (plan : PlanView) (f : ℕ) → IsPlanOf shelf script plan → f ≤ length plan.files → n ≡ f + 1 → IsFrontCount shelf script n

-- ## Its run

-- how many workers run it
abbrev pub front_workers : ℕ
front_workers = 4

-- how many jobs each of so many senders hands in: with the same number of each, as many as the intake has blocks for
abbrev pub share_of : IntakeView → (senders : ℕ) → ℕ
share_of intake senders = intake.count / senders

-- The blocks that were accepted of each sender stand for its jobs, in order: the k-th job of sender s, from 1, gives 1000 s + k. There
-- are no more than it hands in, and where the run has come to rest as many.
pub record HearsSenders (plan : PlanView) (intake : IntakeView) (senders : ℕ) (value : ℕ → ℕ) (h : List Event) : Type 0 where
  pub values : (s k : ℕ) (b : Blk) → slice_get (blocks_of_sender h s) k ≡ Some b → is_ended h b.0 ≡ true → value b.0 ≡ 1000 * s + (k + 1)
  pub few : (s : ℕ) → length (blocks_of_sender h s) ≤ share_of intake senders
  pub whole : IsQuiescent plan h → (s : ℕ) → s < senders → length (blocks_of_sender h s) ≡ share_of intake senders

-- a plan has run beside so many senders, and what is told is a line for each sender, and the end
pub record TellsFront (poller : Seen PollerState) (clock : Seen ClockState) (plan : PlanView) (intake : IntakeView) (senders : ℕ) (end : End)
    : Type 0 where
  pub value : ℕ → ℕ
  pub tells : TellsRun poller clock plan front_workers max_events (AcceptsOf senders) (front_text plan senders value) end
  pub hears : HearsSenders plan intake senders value tells.h

-- what `front` tells, after so many loads: why it stopped; or its plan has an intake, and ran beside the senders
pub data FrontEnds (seen : InputsSeen) (script : Bytes) (senders n : ℕ) (end : End) : Type 0 where
  stopped : (stop : Stop) → StopsFront seen.shelf script n stop → stop_end stop ≡ Some end → FrontEnds seen script senders n end
  ran : (plan : PlanView) (contents : List Bytes) (intake : IntakeView) → IsReady seen.shelf script plan contents
      → plan.intake ≡ Some intake → n ≡ length plan.files + 1 → TellsFront seen.poller seen.clock plan intake senders end
      → FrontEnds seen script senders n end

-- ## In the code

-- the plan has an intake of so many blocks
pub record HasIntake (plan : PlanView) (blocks : ℕ) : Type 0 where
  pub intake : IntakeView
  pub intake_is : plan.intake ≡ Some intake
  pub count : intake.count ≡ blocks

-- the value of block b; 0 where it has none
abbrev pub value_or_0 : List (Option ℕ) → (b : ℕ) → ℕ
value_or_0 values b = unwrap_or (unwrap_or (slice_get values b) None) 0

-- the value of the block that the event accepts of sender s, where it accepts one
abbrev pub values_at : List (Option ℕ) → (s : ℕ) → Event → List ℕ
values_at values s e = map (λ b. value_or_0 values b.0) (option_to_list (accepted_of s e))

-- `sender S accepted K total T`, by the values of the blocks
abbrev pub sender_text : List (Option ℕ) → List Event → (s : ℕ) → Bytes
sender_text values h s =
    codes "sender " ++ (decimal s
    ++ (codes " accepted " ++ (decimal (length (blocks_of_sender h s))
    ++ (codes " total " ++ (decimal (sum (map (λ b. value_or_0 values b.0) (blocks_of_sender h s))) ++ line_end)))))

-- a plan has run beside so many senders; a block that has not ended has no value
pub record RanBeside (plan : PlanView) (blocks senders : ℕ) (poller : Seen PollerState) (clock : Seen ClockState) (run : Left) : Type 0 where
  pub ran : Ran poller clock plan front_workers max_events (AcceptsOf senders) run.journal.items run.state
  pub hears : (intake : IntakeView) → plan.intake ≡ Some intake → HearsSenders plan intake senders (value_or_0 run.values.items) run.journal.items
  pub few : (s : ℕ) → length (blocks_of_sender run.journal.items s) ≤ max_blocks
  pub others : (b : ℕ) → is_ended run.journal.items b ≡ false → value_or_0 run.values.items b ≡ 0
