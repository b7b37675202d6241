-- When something may be added to a plan, and what a refusal says.
use Rattle.std.specs.Prelude.{◌≡◌, ℕ, ◌+◌, ◌≤◌, ◌<◌, ◌||◌, ◌&&◌, nat_lt, nat_le, Bool, true, false, List, length, Option, codes, is_none}
use Rattle.std.specs.Option.{option_map_or}
use Rattle.std.specs.Str.{bytes_eq}
use Rattle.gcd_plan.specs.Kinds.{has_kind, is_source, is_queue}
use Rattle.gcd_plan.specs.Limits.{max_acts, max_blocks, max_file_bytes, max_files, max_intake, max_objects, max_strips}
use Rattle.gcd_plan.specs.Names.{is_name, is_path}
use Rattle.gcd_plan.specs.PlanView.{PlanView, ObjView, cancel_block}
use Rattle.gcd_plan.specs.Validity.{act_count, is_act, is_declared, is_handler_act, is_held_object, is_object, is_strip_how, is_work}
use Rattle.gcd_plan.specs.declared.act.Act.{Act}
use Rattle.gcd_plan.specs.declared.numbers.Blk.{Blk}
use Rattle.gcd_plan.specs.declared.numbers.Obj.{Obj}
use Rattle.gcd_plan.specs.declared.numbers.Run.{Run}
use Rattle.gcd_plan.specs.declared.work.How.{How}
use Rattle.gcd_plan.specs.declared.work.Work.{Work}
use Rattle.gcd_builder.specs.Asked.{asks}
use Rattle.gcd_builder.specs.Bodies.{IsBody, may_have}
use Rattle.gcd_builder.specs.Names.{is_unused, meaning_of}
use Rattle.gcd_builder.specs.Taken.{is_free, is_unapplied, is_untaken_by}
use Rattle.gcd_builder.specs.declared.fault.BuildFault.{BuildFault}
use Rattle.gcd_builder.specs.declared.fault.BuildFault.TheVariants.{NameIllFormed, NameReserved, NameTaken, PathIllFormed, OtherKind, NotObject, NotHeld, NotCounted, NotBlock, NotFile, NotStrip, NotBody, OutOfRange, NotStripCount, SubmittedTwice, AppliedTwice, InHandler, SecondCancel, SecondIntake, TooManyFiles, TooManyObjects, TooManyBlocks, TooManyStrips, TooManyActs, Memory}

-- a file of this name and path
pub record MayAddFile (plan : PlanView) (name path : List ℕ) : Type 0 where
  pub unused : is_unused plan name ≡ true
  pub fits : is_path path ≡ true
  pub room : length plan.files < max_files

-- this object
pub record MayAddObject (plan : PlanView) (object : ObjView) : Type 0 where
  pub unused : is_unused plan object.name ≡ true
  pub fits : is_object plan object ≡ true
  pub room : length plan.objects < max_objects

-- a block of this name with this work
pub record MayAddBlock (plan : PlanView) (name : List ℕ) (work : Option Work) : Type 0 where
  pub unused : is_unused plan name ≡ true
  pub fits : option_map_or (is_work plan) work true ≡ true
  pub room : length plan.blocks < max_blocks

-- the block as the cancellation block of the source (dispatch_source_set_cancel_handler(3))
pub record MayCancel (plan : PlanView) (source : Obj) (block : Blk) : Type 0 where
  pub kind : is_source plan source.0 ≡ true
  pub declared : is_declared plan block ≡ true
  pub free : is_free plan block ≡ true
  pub lacks : is_none (cancel_block plan source.0) ≡ true

-- an intake on the queue with so many blocks
pub record MayAddIntake (plan : PlanView) (queue : Obj) (count : ℕ) : Type 0 where
  pub first : is_none plan.intake ≡ true
  pub kind : is_queue plan queue.0 ≡ true
  pub low : 1 ≤ count
  pub high : count ≤ max_intake
  pub room : length plan.blocks + count ≤ max_blocks

-- a strip (dispatch_apply(3))
pub record MayAddStrip (plan : PlanView) (name : List ℕ) (how : How) (file len count : ℕ) : Type 0 where
  pub unused : is_unused plan name ≡ true
  pub counts : is_strip_how how ≡ true
  pub reads : file < length plan.files
  pub low : 1 ≤ len
  pub high : len ≤ max_file_bytes
  pub room : length plan.blocks + count ≤ max_blocks
  pub strips : length plan.strips < max_strips

-- the act at the end of the body
pub record MayAct (plan : PlanView) (run : Run) (act : Act) : Type 0 where
  pub body : IsBody plan run
  pub fits : is_act plan act ≡ true
  pub untaken : is_untaken_by plan act ≡ true
  pub allowed : may_have run act ≡ true
  pub room : act_count plan < max_acts

-- the rule that the fault names is broken; want of memory is no rule
abbrev pub Breaks : PlanView → BuildFault → Type 0
Breaks plan (NameIllFormed name) = is_name name.now ≡ false
Breaks plan (NameReserved name) = (bytes_eq name.now (codes "root") || bytes_eq name.now (codes "main")) ≡ true
Breaks plan (NameTaken name) = is_none (meaning_of plan name.now) ≡ false
Breaks plan (PathIllFormed path) = is_path path.now ≡ false
Breaks plan (OtherKind kind asked) = asks asked kind ≡ false
Breaks plan (NotObject o asked) = has_kind (asks asked) plan o.0 ≡ false
Breaks plan (NotHeld o) = is_held_object plan o ≡ false
Breaks plan (NotCounted o) = (nat_lt 0 o.0 && nat_lt o.0 (length plan.objects)) ≡ false
Breaks plan (NotBlock b) = is_declared plan b ≡ false
Breaks plan (NotFile f) = nat_lt f (length plan.files) ≡ false
Breaks plan (NotStrip a) = nat_lt a (length plan.strips) ≡ false
Breaks plan (NotBody run) = ¬ IsBody plan run
Breaks plan (OutOfRange number least most) = (nat_le least number && nat_le number most) ≡ false
Breaks plan (NotStripCount how) = is_strip_how how ≡ false
Breaks plan (SubmittedTwice b) = is_free plan b ≡ false
Breaks plan (AppliedTwice a) = is_unapplied plan a ≡ false
Breaks plan (InHandler act) = is_handler_act act ≡ false
Breaks plan (SecondCancel s) = is_none (cancel_block plan s.0) ≡ false
Breaks plan SecondIntake = is_none plan.intake ≡ false
Breaks plan TooManyFiles = nat_lt (length plan.files) max_files ≡ false
Breaks plan TooManyObjects = nat_lt (length plan.objects) max_objects ≡ false
Breaks plan (TooManyBlocks count) = nat_le (length plan.blocks + count) max_blocks ≡ false
Breaks plan TooManyStrips = nat_lt (length plan.strips) max_strips ≡ false
Breaks plan TooManyActs = nat_lt (act_count plan) max_acts ≡ false
Breaks plan Memory = ⊥

-- a builder: the plan so far, and whether memory has run out in one of its calls
pub record BuilderView : Type 0 where
  pub plan : PlanView
  pub spent : Bool

-- a builder with this plan that has its memory
abbrev pub with_plan : PlanView → BuilderView
with_plan plan = record { plan = plan; spent = false }

-- how a call ends that adds something: the builder had its memory, and has this plan
pub record Adds (old new : BuilderView) (plan : PlanView) : Type 0 where
  pub unspent : old.spent ≡ false
  pub plan_is : new ≡ with_plan plan

-- how a call ends that adds nothing
pub data Refuses (old new : BuilderView) : BuildFault → Type 0 where
  -- the fault is of a broken rule, and the builder, which has its memory, is as before
  broken : {fault : BuildFault} → old.spent ≡ false → new ≡ old → Breaks old.plan fault → Refuses old new fault
  -- memory ran out, in this call or an earlier one
  spent : new.spent ≡ true → Refuses old new Memory
