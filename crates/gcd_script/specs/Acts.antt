-- What the lines of acts mean, by the words after the first. An act belongs to the body that is
-- open; where none is open the line is of no form.
use Rattle.std.specs.Prelude.{ℕ, List, [], ◌∷◌, Option, Ok, Err}
use Rattle.std.specs.Option.{option_map_or}
use Rattle.gcd_plan.specs.Limits.{max_value, max_time}
use Rattle.gcd_plan.specs.PlanView.{PlanView}
use Rattle.gcd_plan.specs.declared.act.Act.{Act}
use Rattle.gcd_plan.specs.declared.act.Act.TheVariants as act
use Rattle.gcd_plan.specs.declared.numbers.Blk.{Blk}
use Rattle.gcd_plan.specs.declared.numbers.Obj.{Obj}
use Rattle.gcd_plan.specs.declared.numbers.Run.{Run}
use Rattle.gcd_script.specs.declared.keyword.Submission.{Submission}
use Rattle.gcd_script.specs.declared.keyword.Submission.TheVariants.{Async, Barrier, Sync, BarrierSync}
use Rattle.gcd_script.specs.declared.keyword.GroupSubmission.{GroupSubmission}
use Rattle.gcd_script.specs.declared.keyword.GroupSubmission.TheVariants.{GroupAsync, Notify}
use Rattle.gcd_script.specs.declared.keyword.LimitedWait.{LimitedWait}
use Rattle.gcd_script.specs.declared.keyword.LimitedWait.TheVariants.{WaitFor, GroupWaitFor}
use Rattle.gcd_script.specs.declared.keyword.ObjectAct.{ObjectAct}
use Rattle.gcd_script.specs.declared.keyword.ObjectAct.TheVariants.{Enter, Leave, GroupWait, Signal, Wait, Suspend, Resume, Activate, Cancel, Retain, Release}
use Rattle.gcd_script.specs.declared.keyword.BlockAct.{BlockAct}
use Rattle.gcd_script.specs.declared.keyword.BlockAct.TheVariants.{CancelBlock, WaitBlock}
use Rattle.gcd_script.specs.declared.line.Line.{Line}
use Rattle.gcd_script.specs.declared.line.Line.TheVariants.{AddAct}
use Rattle.gcd_builder.specs.declared.asked.Asked.{Asked}
use Rattle.gcd_builder.specs.declared.asked.Asked.TheVariants.{Source, Node, Group, Semaphore, MergeSource, Any}
use Rattle.gcd_builder.specs.Asked.{asks}
use Rattle.gcd_script.specs.declared.refusal.Refusal.TheVariants.{NoForm}
use Rattle.gcd_script.specs.Meant.{Meant, meant, both}
use Rattle.gcd_script.specs.Words.{number, block, queue, strip, object, object_but_root}

-- an act of the open body
abbrev pub act_line : Option Run → Meant Act → Meant (Line (List ℕ))
act_line body what = meant (λ (run, a). AddAct run a) (both (option_map_or Ok body (Err NoForm)) what)

-- the act that submits a block to a queue
abbrev pub submitting : Submission → Obj → Blk → Act
submitting Async q b = act.Async q b
submitting Barrier q b = act.Barrier q b
submitting Sync q b = act.Sync q b
submitting BarrierSync q b = act.BarrierSync q b

-- `async Q B`, `barrier Q B`, `sync Q B`, `barrier_sync Q B`
abbrev pub submit_act : PlanView → Submission → List (List ℕ) → Meant Act
submit_act plan how (q ∷ b ∷ []) = meant (λ (o, c). submitting how o c) (both (queue plan q) (block plan b))
submit_act plan how _ = Err NoForm

-- the act that submits a block to a queue for a group
abbrev pub group_submitting : GroupSubmission → (group queue : Obj) → Blk → Act
group_submitting GroupAsync g q b = act.GroupAsync g q b
group_submitting Notify g q b = act.Notify g q b

-- `group_async G Q B`, `notify G Q B`
abbrev pub group_submit_act : PlanView → GroupSubmission → List (List ℕ) → Meant Act
group_submit_act plan how (g ∷ q ∷ b ∷ []) =
    meant (λ (o, (t, c)). group_submitting how o t c) (both (object plan (asks Group) g) (both (queue plan q) (block plan b)))
group_submit_act plan how _ = Err NoForm

-- what the act asks of its object's kind
abbrev pub asked_of : ObjectAct → Asked
asked_of Enter = Group
asked_of Leave = Group
asked_of GroupWait = Group
asked_of Signal = Semaphore
asked_of Wait = Semaphore
asked_of Suspend = Node
asked_of Resume = Node
asked_of Activate = Node
asked_of Cancel = Source
asked_of Retain = Any
asked_of Release = Any

-- the act on one object
abbrev pub acting : ObjectAct → Obj → Act
acting Enter o = act.Enter o
acting Leave o = act.Leave o
acting GroupWait o = act.GroupWait o
acting Signal o = act.Signal o
acting Wait o = act.Wait o
acting Suspend o = act.Suspend o
acting Resume o = act.Resume o
acting Activate o = act.Activate o
acting Cancel o = act.Cancel o
acting Retain o = act.Retain o
acting Release o = act.Release o

-- `enter G`, `leave G`, `group_wait G`, `signal S`, `wait S`, `suspend O`, `resume O`, `activate O`, `cancel S`, `retain O`,
-- `release O`: none of them may name root
abbrev pub object_act : PlanView → ObjectAct → List (List ℕ) → Meant Act
object_act plan what (o ∷ []) = meant (acting what) (object_but_root plan (asks (asked_of what)) o)
object_act plan what _ = Err NoForm

-- what the wait asks of its object's kind
abbrev pub waited_of : LimitedWait → Asked
waited_of WaitFor = Semaphore
waited_of GroupWaitFor = Group

-- the act that waits for so many milliseconds
abbrev pub waiting : LimitedWait → Obj → (ms : ℕ) → Act
waiting WaitFor o ms = act.WaitFor o ms
waiting GroupWaitFor o ms = act.GroupWaitFor o ms

-- `wait_for S MS`, `group_wait_for G MS`
abbrev pub limited_act : PlanView → LimitedWait → List (List ℕ) → Meant Act
limited_act plan what (o ∷ ms ∷ []) =
    meant (λ (waited, n). waiting what waited n) (both (object plan (asks (waited_of what)) o) (number 0 max_time ms))
limited_act plan what _ = Err NoForm

-- `target O T`
abbrev pub target_act : PlanView → List (List ℕ) → Meant Act
target_act plan (o ∷ t ∷ []) =
    meant (λ (from, to). act.Target from to) (both (object_but_root plan (asks Node) o) (queue plan t))
target_act plan _ = Err NoForm

-- `merge S N`
abbrev pub merge_act : PlanView → List (List ℕ) → Meant Act
merge_act plan (s ∷ n ∷ []) = meant (λ (o, v). act.Merge o v) (both (object plan (asks MergeSource) s) (number 0 max_value n))
merge_act plan _ = Err NoForm

-- `apply Q A` (dispatch_apply(3))
abbrev pub apply_act : PlanView → List (List ℕ) → Meant Act
apply_act plan (q ∷ a ∷ []) = meant (λ (o, n). act.Apply o n) (both (queue plan q) (strip plan a))
apply_act plan _ = Err NoForm

-- the act on one block
abbrev pub acting_on : BlockAct → Blk → Act
acting_on CancelBlock b = act.CancelBlock b
acting_on WaitBlock b = act.WaitBlock b

-- `cancel_block B`, `wait_block B`
abbrev pub block_act : PlanView → BlockAct → List (List ℕ) → Meant Act
block_act plan what (b ∷ []) = meant (acting_on what) (block plan b)
block_act plan what _ = Err NoForm

-- `notify_block B Q C`
abbrev pub notify_block_act : PlanView → List (List ℕ) → Meant Act
notify_block_act plan (b ∷ q ∷ c ∷ []) =
    meant (λ (awaited, (o, noted)). act.NotifyBlock awaited o noted) (both (block plan b) (both (queue plan q) (block plan c)))
notify_block_act plan _ = Err NoForm
