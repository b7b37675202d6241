-- The rule of plans that a fault names, broken at the part that the fault names.
use Rattle.std.specs.Prelude.{◌≡◌, ◌≢◌, ℕ, ◌+◌, ◌-◌, ◌≤◌, ◌<◌, ◌==◌, nat_le, true, false, ◌&&◌, List, ◌++◌, length, map, take, Some, MatchOption, count_by, slice_get, codes, is_none, is_some}
use Rattle.std.specs.Option.{option_map_or, option_map}
use Rattle.std.specs.List.{list_any}
use Rattle.std.specs.Str.{bytes_eq}
use Rattle.gcd_plan.specs.Limits.{max_objects, max_blocks, max_files, max_acts, max_intake, max_strips, max_time}
use Rattle.gcd_plan.specs.PlanView.{PlanView, BlkView, IntakeView, work_of}
use Rattle.gcd_plan.specs.Kinds.{is_source_kind, is_node_kind, is_queue}
use Rattle.gcd_plan.specs.Names.{is_name}
use Rattle.gcd_plan.specs.Made.{Span, is_within, spans, is_made, intake_span, strip_span, intake_block, strip_block}
use Rattle.gcd_plan.specs.Validity.{declared_names, is_among_blocks, is_strip, root_view, act_count, is_kind, has_path, is_handler_act, is_act, is_declared, is_work, is_file, submitted_blocks, reaches_root}
use Rattle.gcd_plan.specs.declared.parts_fault.PartsFault.{PartsFault}
use Rattle.gcd_plan.specs.declared.parts_fault.PartsFault.TheVariants.{NoRoot, NoMain, MainHasWork, TooManyObjects, TooManyBlocks, TooManyFiles, TooManyActs, UntilOutOfRange, ObjectNameIllFormed, BlockNameIllFormed, FileNameIllFormed, ObjectNameTaken, BlockNameTaken, FileNameTaken, KindOutOfRange, PathUnfit, TargetIsNoQueue, HasSourceParts, HasTarget, Inactive, ActiveSource, HandlerActBarred, HandlerActUnfit, CancelOutOfRange, WorkOutOfRange, BlockActUnfit, FilePathIllFormed, SubmittedTwice, NeverReachesRoot, TooManyStrips, StripNameIllFormed, StripNameTaken, IntakeOnNoQueue, IntakeCountOutOfRange, IntakeBlocksMissing, IntakeBlockUnfit, StripUnfit, StripBlocksMissing, StripBlockUnfit, MadeTwice}

-- there is an element i, and this holds of it
pub record Has {A : Type 0} (xs : List A) (i : ℕ) (P : A → Type 0) : Type 0 where
  pub element : A
  pub stands : slice_get xs i ≡ Some element
  pub holds : P element

-- the name stands among these
abbrev pub IsAmong : List ℕ → List (List ℕ) → Type 0
IsAmong name names = list_any (bytes_eq name) names ≡ true

-- there is an intake, and this holds of it
abbrev pub HasIntake : PlanView → (IntakeView → Type 0) → Type 0
HasIntake plan P = MatchOption plan.intake ⊥ P

-- block b is of the span, and is another than the one made for its place there, from 0
pub record IsOther (plan : PlanView) (span : Span) (make : ℕ → BlkView) (b : ℕ) : Type 0 where
  pub within : is_within b span ≡ true
  pub other : slice_get plan.blocks b ≢ Some (make (b - span.first))

-- the names of the parts before a file, an object, a strip and a block: files come first, then objects, strips and blocks
abbrev pub names_before_file : PlanView → ℕ → List (List ℕ)
names_before_file plan f = take f (map (λ v. v.name) plan.files)

abbrev pub names_before_object : PlanView → ℕ → List (List ℕ)
names_before_object plan o = map (λ v. v.name) plan.files ++ take o (map (λ v. v.name) plan.objects)

abbrev pub names_before_strip : PlanView → ℕ → List (List ℕ)
names_before_strip plan a =
    map (λ v. v.name) plan.files ++ (map (λ v. v.name) plan.objects ++ take a (map (λ v. v.name) plan.strips))

abbrev pub names_before_block : PlanView → ℕ → List (List ℕ)
names_before_block plan b = declared_names plan ++ take b (map (λ v. v.name) plan.blocks)

-- the rule that the fault names is broken at the part that it names
abbrev pub Breaks : PlanView → PartsFault → Type 0
Breaks plan NoRoot = slice_get plan.objects 0 ≢ Some root_view
Breaks plan NoMain = option_map (λ b. b.name) (slice_get plan.blocks 0) ≢ Some (codes "main")
Breaks plan MainHasWork = is_some (work_of plan 0) ≡ true
Breaks plan TooManyObjects = max_objects < length plan.objects
Breaks plan TooManyBlocks = max_blocks < length plan.blocks
Breaks plan TooManyFiles = max_files < length plan.files
Breaks plan TooManyActs = max_acts < act_count plan
Breaks plan UntilOutOfRange = ¬ ((1 ≤ plan.until) × (plan.until ≤ max_time))
Breaks plan (ObjectNameIllFormed o) = Has plan.objects o.0 (λ v. is_name v.name ≡ false)
Breaks plan (BlockNameIllFormed b) = Has plan.blocks b.0 (λ v. (is_name v.name ≡ false) × (is_made plan b.0 ≡ false))
Breaks plan (FileNameIllFormed f) = Has plan.files f (λ v. is_name v.name ≡ false)
Breaks plan (ObjectNameTaken o) = Has plan.objects o.0 (λ v. IsAmong v.name (names_before_object plan o.0))
Breaks plan (BlockNameTaken b) = Has plan.blocks b.0 (λ v. IsAmong v.name (names_before_block plan b.0))
Breaks plan (FileNameTaken f) = Has plan.files f (λ v. IsAmong v.name (names_before_file plan f))
Breaks plan (KindOutOfRange o) = Has plan.objects o.0 (λ v. is_kind v.kind ≡ false)
Breaks plan (PathUnfit o) = Has plan.objects o.0 (λ v. has_path v.kind v.path ≡ false)
Breaks plan (TargetIsNoQueue o) = Has plan.objects o.0 (λ v. (is_node_kind v.kind ≡ true) × (is_queue plan v.target.0 ≡ false))
Breaks plan (HasSourceParts o) = Has plan.objects o.0 (λ v. (is_source_kind v.kind ≡ false) × ((length v.handler == 0 && is_none v.cancel) ≡ false))
Breaks plan (HasTarget o) = Has plan.objects o.0 (λ v. (is_node_kind v.kind ≡ false) × (v.target.0 ≢ 0))
Breaks plan (Inactive o) = Has plan.objects o.0 (λ v. (is_node_kind v.kind ≡ false) × (v.active ≡ false))
Breaks plan (ActiveSource o) = Has plan.objects o.0 (λ v. (is_source_kind v.kind ≡ true) × (v.active ≡ true))
Breaks plan (HandlerActBarred o i) = Has plan.objects o.0 (λ v. (is_source_kind v.kind ≡ true) × Has v.handler i (λ act. is_handler_act act ≡ false))
Breaks plan (HandlerActUnfit o i) = Has plan.objects o.0 (λ v. (is_source_kind v.kind ≡ true) × Has v.handler i (λ act. is_act plan act ≡ false))
Breaks plan (CancelOutOfRange o) = Has plan.objects o.0 (λ v. (is_source_kind v.kind ≡ true) × (option_map_or (is_declared plan) v.cancel true ≡ false))
Breaks plan (WorkOutOfRange b) = Has plan.blocks b.0 (λ v. option_map_or (is_work plan) v.work true ≡ false)
Breaks plan (BlockActUnfit b i) = Has plan.blocks b.0 (λ v. Has v.acts i (λ act. is_act plan act ≡ false))
Breaks plan (FilePathIllFormed f) = Has plan.files f (λ v. is_file v ≡ false)
Breaks plan (SubmittedTwice b) = 1 < count_by (λ c. c.0 == b.0) (submitted_blocks plan)
Breaks plan (NeverReachesRoot o) = (o.0 < length plan.objects) × (reaches_root plan o.0 ≡ false)
Breaks plan TooManyStrips = max_strips < length plan.strips
Breaks plan (StripNameIllFormed a) = Has plan.strips a (λ s. is_name s.name ≡ false)
Breaks plan (StripNameTaken a) = Has plan.strips a (λ s. IsAmong s.name (names_before_strip plan a))
Breaks plan IntakeOnNoQueue = HasIntake plan (λ i. is_queue plan i.queue.0 ≡ false)
Breaks plan IntakeCountOutOfRange = HasIntake plan (λ i. (nat_le 1 i.count && nat_le i.count max_intake) ≡ false)
Breaks plan IntakeBlocksMissing = HasIntake plan (λ i. is_among_blocks plan (intake_span i) ≡ false)
Breaks plan (IntakeBlockUnfit b) = HasIntake plan (λ i. IsOther plan (intake_span i) (λ k. intake_block (k + 1)) b.0)
Breaks plan (StripUnfit a) = Has plan.strips a (λ s. is_strip plan s ≡ false)
Breaks plan (StripBlocksMissing a) = Has plan.strips a (λ s. is_among_blocks plan (strip_span s) ≡ false)
Breaks plan (StripBlockUnfit a b) = Has plan.strips a (λ s. IsOther plan (strip_span s) (strip_block s) b.0)
Breaks plan (MadeTwice b) = 1 < count_by (is_within b.0) (spans plan)
