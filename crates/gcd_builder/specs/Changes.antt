-- A plan with one thing more.
use Rattle.std.specs.Prelude.{ℕ, Bool, List, [], ◌∷◌, ◌++◌, length, Option, Some, None, codes, slice_get, slice_set}
use Rattle.std.specs.Option.{option_map_or}
use Rattle.gcd_plan.specs.PlanView.{PlanView, ObjView, BlkView, FileView, IntakeView, StripView}
use Rattle.gcd_plan.specs.Limits.{default_until}
use Rattle.gcd_plan.specs.Made.{made_by_intake, made_by_strip}
use Rattle.gcd_plan.specs.Validity.{root_view}
use Rattle.gcd_plan.specs.declared.act.Act.{Act}
use Rattle.gcd_plan.specs.declared.kind.Kind.{Kind}
use Rattle.gcd_plan.specs.declared.numbers.Blk.{Blk}
use Rattle.gcd_plan.specs.declared.numbers.Obj.{Obj}
use Rattle.gcd_plan.specs.declared.numbers.Run.{Run}
use Rattle.gcd_plan.specs.declared.numbers.Run.TheVariants.{Block, Source}
use Rattle.gcd_plan.specs.declared.work.How.{How}
use Rattle.gcd_plan.specs.declared.work.Work.{Work}

-- a block as it is declared, with no act yet
abbrev pub new_block : List ℕ → Option Work → BlkView
new_block name work = record { name = name; acts = []; work = work }

-- the plan to which nothing was added: root and main alone
abbrev pub empty_plan : PlanView
empty_plan =
    record { objects = root_view ∷ []; blocks = new_block (codes "main") None ∷ []; files = []; until = default_until; intake = None; strips = [] }

-- the queue root
abbrev pub root : Obj
root = record { 0 = 0 }

-- the block main
abbrev pub main : Blk
main = record { 0 = 0 }

-- a plan with another last due time of timers and limit of waits, in milliseconds
abbrev pub with_until : ℕ → PlanView → PlanView
with_until ms plan = record plan { until = ms }

-- a file as it is declared on the line of this number
abbrev pub new_file : (line : ℕ) → (name path : List ℕ) → FileView
new_file line name path = record { name = name; path = path; line = line }

-- an object as it is declared: with no handler and no cancellation block
abbrev pub new_object : (name : List ℕ) → Kind → (target : Obj) → (active : Bool) → (path : List ℕ) → ObjView
new_object name kind target active path =
    record { name = name; kind = kind; target = target; active = active; path = path; handler = []; cancel = None }

-- a plan with one more file
abbrev pub with_file : FileView → PlanView → PlanView
with_file file plan = record plan { files = plan.files ++ file ∷ [] }

-- one more object
abbrev pub with_object : ObjView → PlanView → PlanView
with_object object plan = record plan { objects = plan.objects ++ object ∷ [] }

-- one more block
abbrev pub with_block : BlkView → PlanView → PlanView
with_block block plan = record plan { blocks = plan.blocks ++ block ∷ [] }

-- a plan in which object o is changed
abbrev pub with_object_at : (o : ℕ) → (ObjView → ObjView) → PlanView → PlanView
with_object_at o f plan = option_map_or (λ object. record plan { objects = slice_set plan.objects o (f object) }) (slice_get plan.objects o) plan

-- a plan in which block b is changed
abbrev pub with_block_at : (b : ℕ) → (BlkView → BlkView) → PlanView → PlanView
with_block_at b f plan = option_map_or (λ block. record plan { blocks = slice_set plan.blocks b (f block) }) (slice_get plan.blocks b) plan

-- a block with one more act at its end
abbrev pub block_with_act : Act → BlkView → BlkView
block_with_act act block = record block { acts = block.acts ++ act ∷ [] }

-- a source with one more act at the end of its handler
abbrev pub object_with_act : Act → ObjView → ObjView
object_with_act act object = record object { handler = object.handler ++ act ∷ [] }

-- a plan with one more act at the end of that body
abbrev pub with_act : Act → Run → PlanView → PlanView
with_act act (Block b) plan = with_block_at b.0 (block_with_act act) plan
with_act act (Source s) plan = with_object_at s.0 (object_with_act act) plan

-- a plan in which b is the cancellation block of source s (dispatch_source_set_cancel_handler(3))
abbrev pub with_cancel : (s : Obj) → (b : Blk) → PlanView → PlanView
with_cancel s b plan = with_object_at s.0 (λ object. record object { cancel = Some b }) plan

-- an intake as it is declared: its blocks come behind the others
abbrev pub new_intake : (queue : Obj) → (count : ℕ) → PlanView → IntakeView
new_intake queue count plan = record { queue = queue; first = length plan.blocks; count = count }

-- a strip as it is declared: its blocks come behind the others (dispatch_apply(3))
abbrev pub new_strip : (name : List ℕ) → How → (file len count : ℕ) → PlanView → StripView
new_strip name how file len count plan =
    record { name = name; how = how; file = file; len = len; first = length plan.blocks; count = count }

-- a plan with an intake and its blocks
abbrev pub with_intake : IntakeView → PlanView → PlanView
with_intake i plan = record plan { blocks = plan.blocks ++ made_by_intake i; intake = Some i }

-- a plan with one more strip and its blocks
abbrev pub with_strip : StripView → PlanView → PlanView
with_strip s plan = record plan { blocks = plan.blocks ++ made_by_strip s; strips = plan.strips ++ s ∷ [] }
