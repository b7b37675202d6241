-- What a run keeps of the pages of strips and of block objects (dispatch_apply(3), dispatch_block_cancel(3),
-- dispatch_block_notify(3)).
use Rattle.std.specs.Prelude.{◌≡◌, ◌<◌, ℕ, List, ◌++◌, Some, slice_get, codes}
use Rattle.std.specs.Fmt.{decimal}
use Rattle.gcd_plan.specs.Made.{strip_blocks}
use Rattle.gcd_plan.specs.PlanView.{PlanView, name_of_blk}
use Rattle.gcd_plan.specs.declared.act.Act.TheVariants.{Apply}
use Rattle.gcd_plan.specs.declared.numbers.Blk.{Blk}
use Rattle.gcd_plan.specs.declared.numbers.Obj.{Obj}
use Rattle.gcd_plan.specs.declared.numbers.Run.TheVariants.{Block}
use Rattle.gcd_event.specs.declared.event.Event.{Event}
use Rattle.gcd_event.specs.declared.event.Event.TheVariants.{Act as Acted, Wake}
use Rattle.gcd_history.specs.Laws.{AppliedStripsHaveRun, CancelledBlocksDoNothing, CancelledBlocksMayEnd, NotifiedOnce}
use Rattle.gcd_history.specs.Report.{line_end, result_line}
use Rattle.gcd_history.specs.Runs.{act_at}
use Rattle.gcd_history.specs.Values.{value_of}
use Rattle.gcd_jobs.specs.StripValues.{strip_values}
use Rattle.gcd_outer.specs.Outside.{Bytes}

-- strip a was applied, and its caller has gone on after that (dispatch_apply(3))
pub record HasApplied (plan : PlanView) (h : List Event) (a : ℕ) : Type 0 where
  pub caller : Blk
  pub queue : Obj
  pub index : ℕ
  pub worker : ℕ
  pub waker : ℕ
  pub act_place : ℕ
  pub wake_place : ℕ
  pub applies : act_at plan (Block caller) index ≡ Some (Apply queue a)
  pub act : slice_get h act_place ≡ Some (Acted worker (Block caller) index)
  pub wake : slice_get h wake_place ≡ Some (Wake waker caller)
  pub after : act_place < wake_place

-- `NAME = VALUE`, for block b
abbrev pub value_line : PlanView → (b value : ℕ) → List ℕ
value_line plan b value = name_of_blk plan b ++ (codes " = " ++ (decimal value ++ line_end))

-- where a caller has gone on, the report tells of the blocks of its strip, by index, the values that one thread computes of them
-- (dispatch_apply(3))
abbrev pub StripsAreTold : PlanView → (contents : List Bytes) → List Event → Type 0
StripsAreTold plan contents h =
    (a i value : ℕ) (b : Blk) → HasApplied plan h a → slice_get (strip_blocks plan a) i ≡ Some b
    → slice_get (strip_values plan contents a) i ≡ Some value
    → result_line plan (value_of plan contents) h b.0 ≡ value_line plan b.0 value

-- the run keeps the pages: each block of a strip has run once between the act that applies it and the caller's Wake, and the report
-- tells their values; no act of a cancelled block stands, and its End may follow its Start; a notify block of a block is submitted
-- once where its act and that block's End stand, and else never
pub record KeepsPages (plan : PlanView) (contents : List Bytes) (h : List Event) : Type 0 where
  pub strips_run : AppliedStripsHaveRun plan h
  pub strips_told : StripsAreTold plan contents h
  pub cancelled_idle : CancelledBlocksDoNothing plan h
  pub cancelled_end : CancelledBlocksMayEnd plan h
  pub notified_once : NotifiedOnce plan h
