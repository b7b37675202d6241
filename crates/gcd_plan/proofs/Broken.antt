-- Where a rule is broken, the parts are no plan.
use Rattle.std.proofs.Common.{◌≡◌, ℕ, ◌+◌, ◌-◌, ◌<◌, ◌==◌, true, false, not, ◌&&◌, List, ◌++◌, [], length, map, ap, subst, Option, Some, None, IfSome, MatchOption, refl, sym, ◌∙◌, arith, is_none, is_some, IsNone, IfOk, IfErr, ◌↔◌, Result, Ok, Err}
use Rattle.std.specs.Result.{result_err}
use Rattle.std.specs.List.{list_all, slice_get}
use Rattle.std.specs.Option.{option_and_then, option_map_or}
use Rattle.std.proofs.lemmas.Bool.{and_parts, both_ways, eqb-true, not-true, or_from}
use Rattle.std.proofs.lemmas.Option.{slice_get_within}
use Rattle.std.proofs.lemmas.List.Folds.{list_all-append, list_all-map}
use Rattle.gcd_plan.specs.declared.act.Act.{Act}
use Rattle.gcd_plan.specs.declared.kind.Kind.{Kind}
use Rattle.gcd_plan.specs.declared.kind.Kind.TheVariants.{Serial, Concurrent, Group, Semaphore, Add, Or, Replace, Timer, Read}
use Rattle.gcd_plan.specs.declared.parts_fault.PartsFault.{PartsFault}
use Rattle.gcd_plan.specs.declared.parts_fault.PartsFault.TheVariants.{NoRoot, NoMain, MainHasWork, TooManyObjects, TooManyBlocks, TooManyFiles, TooManyActs, UntilOutOfRange, ObjectNameIllFormed, BlockNameIllFormed, FileNameIllFormed, ObjectNameTaken, BlockNameTaken, FileNameTaken, KindOutOfRange, PathUnfit, TargetIsNoQueue, HasSourceParts, HasTarget, Inactive, ActiveSource, HandlerActBarred, HandlerActUnfit, CancelOutOfRange, WorkOutOfRange, BlockActUnfit, FilePathIllFormed, SubmittedTwice, NeverReachesRoot, TooManyStrips, StripNameIllFormed, StripNameTaken, IntakeOnNoQueue, IntakeCountOutOfRange, IntakeBlocksMissing, IntakeBlockUnfit, StripUnfit, StripBlocksMissing, StripBlockUnfit, MadeTwice}
use Rattle.gcd_plan.specs.Breaks.{Breaks, Has, IsOther}
use Rattle.gcd_plan.specs.Kinds.{is_source_kind, is_node_kind, is_queue}
use Rattle.gcd_plan.specs.Names.{is_name}
use Rattle.gcd_plan.specs.PlanView.{PlanView, ObjView, BlkView, IntakeView, name_of_blk}
use Rattle.gcd_plan.specs.Made.{Span, is_made, intake_span, strip_span, intake_block, strip_block}
use Rattle.gcd_plan.specs.Validity.{IsPlan, IsIntake, has_name, is_kind, has_path, has_fields, has_queue_fields, has_no_fields, has_source_fields, is_object, is_block, is_file, is_work, is_act, is_handler_act, is_declared}
use Rattle.gcd_plan.proofs.Having.{none_fails}
use Rattle.gcd_plan.proofs.NamesApart.{file_twice, object_twice, strip_twice, block_twice}
use Rattle.gcd_plan.proofs.MadeBlocks.{within_parts}
use Rattle.gcd_plan.proofs.Quantifiers.{list_all_get}
use Rattle.gcd_plan.proofs.Spans.{intake_block_at, strip_block_at}

-- ## What an object has beside its path

source_has : (plan : PlanView) (kind : Kind) (o : ObjView) → is_source_kind kind ≡ true → has_fields plan kind o ≡ true → has_source_fields plan o ≡ true
source_has plan Serial o is h = cc
source_has plan Concurrent o is h = cc
source_has plan Group o is h = cc
source_has plan (Semaphore n) o is h = cc
source_has plan Add o is h = h
source_has plan Or o is h = h
source_has plan Replace o is h = h
source_has plan (Timer start every) o is h = h
source_has plan Read o is h = h

target_of_source : (plan : PlanView) (o : ObjView) → has_source_fields plan o ≡ true → is_queue plan o.target.0 ≡ true
target_of_source plan o h = (and_parts (is_queue plan o.target.0) _ h).0

target_of_queue : (plan : PlanView) (o : ObjView) → has_queue_fields plan o ≡ true → is_queue plan o.target.0 ≡ true
target_of_queue plan o h = (and_parts (is_queue plan o.target.0) _ h).0

node_target : (plan : PlanView) (kind : Kind) (o : ObjView) → is_node_kind kind ≡ true → has_fields plan kind o ≡ true → is_queue plan o.target.0 ≡ true
node_target plan Serial o is h = target_of_queue plan o h
node_target plan Concurrent o is h = target_of_queue plan o h
node_target plan Group o is h = cc
node_target plan (Semaphore n) o is h = cc
node_target plan Add o is h = target_of_source plan o h
node_target plan Or o is h = target_of_source plan o h
node_target plan Replace o is h = target_of_source plan o h
node_target plan (Timer start every) o is h = target_of_source plan o h
node_target plan Read o is h = target_of_source plan o h

other_has : (plan : PlanView) (kind : Kind) (o : ObjView) → is_node_kind kind ≡ false → has_fields plan kind o ≡ true → has_no_fields o ≡ true
other_has plan Serial o is h = cc
other_has plan Concurrent o is h = cc
other_has plan Group o is h = h
other_has plan (Semaphore n) o is h = h
other_has plan Add o is h = cc
other_has plan Or o is h = cc
other_has plan Replace o is h = cc
other_has plan (Timer start every) o is h = cc
other_has plan Read o is h = cc

no_source_parts : (plan : PlanView) (kind : Kind) (o : ObjView) → is_source_kind kind ≡ false → has_fields plan kind o ≡ true
    → (length o.handler == 0 && is_none o.cancel) ≡ true
no_source_parts plan Serial o is h = (and_parts (is_queue plan o.target.0) _ h).1
no_source_parts plan Concurrent o is h = (and_parts (is_queue plan o.target.0) _ h).1
no_source_parts plan Group o is h = (and_parts o.active _ (and_parts (o.target.0 == 0) _ h).1).1
no_source_parts plan (Semaphore n) o is h = (and_parts o.active _ (and_parts (o.target.0 == 0) _ h).1).1
no_source_parts plan Add o is h = cc
no_source_parts plan Or o is h = cc
no_source_parts plan Replace o is h = cc
no_source_parts plan (Timer start every) o is h = cc
no_source_parts plan Read o is h = cc

-- what a valid object has
record Fitting (plan : PlanView) (o : ObjView) : Type 0 where
  kind : is_kind o.kind ≡ true
  path : has_path o.kind o.path ≡ true
  fields : has_fields plan o.kind o ≡ true

fitting : (plan : PlanView) → IsPlan plan → (i : ℕ) (P : ObjView → Type 0) → (one : Has plan.objects i P) → Fitting plan one.element
fitting plan valid i P one =
    let whole = list_all_get (is_object plan) plan.objects i one.element valid.objects one.stands in
    let kind = and_parts (is_kind one.element.kind) _ whole in
    let path = and_parts (has_path one.element.kind one.element.path) _ kind.1 in
    record { kind = kind.0; path = path.0; fields = path.1 }

-- what a valid source has
record SourceFits (plan : PlanView) (o : ObjView) : Type 0 where
  idle : not o.active ≡ true
  handler : list_all (λ act. is_handler_act act && is_act plan act) o.handler ≡ true
  cancel : option_map_or (is_declared plan) o.cancel true ≡ true

source_fits : (plan : PlanView) (o : ObjView) → is_source_kind o.kind ≡ true → Fitting plan o → SourceFits plan o
source_fits plan o is fits =
    let all = source_has plan o.kind o is fits.fields in
    let target = and_parts (is_queue plan o.target.0) _ all in
    let idle = and_parts (not o.active) _ target.1 in
    let handler = and_parts (list_all (λ act. is_handler_act act && is_act plan act) o.handler) _ idle.1 in
    record { idle = idle.0; handler = handler.0; cancel = handler.1 }

barred_act : (plan : PlanView) (acts : List Act) (i : ℕ) → list_all (λ act. is_handler_act act && is_act plan act) acts ≡ true
    → Has acts i (λ act. is_handler_act act ≡ false) → ⊥
barred_act plan acts i all one =
    let both = list_all_get (λ act. is_handler_act act && is_act plan act) acts i one.element all one.stands in
    both_ways (is_handler_act one.element) one.holds (and_parts (is_handler_act one.element) (is_act plan one.element) both).0

unfit_act : (plan : PlanView) (acts : List Act) (i : ℕ) → list_all (λ act. is_handler_act act && is_act plan act) acts ≡ true
    → Has acts i (λ act. is_act plan act ≡ false) → ⊥
unfit_act plan acts i all one =
    let both = list_all_get (λ act. is_handler_act act && is_act plan act) acts i one.element all one.stands in
    both_ways (is_act plan one.element) one.holds (and_parts (is_handler_act one.element) (is_act plan one.element) both).1

-- ## Names

record Named (plan : PlanView) : Type 0 where
  files : list_all is_name (map (λ v. v.name) plan.files) ≡ true
  objects : list_all is_name (map (λ v. v.name) plan.objects) ≡ true
  strips : list_all is_name (map (λ v. v.name) plan.strips) ≡ true

named : (plan : PlanView) → IsPlan plan → Named plan
named plan valid =
    let files = map (λ v. v.name) plan.files in
    let objects = map (λ v. v.name) plan.objects in
    let strips = map (λ v. v.name) plan.strips in
    let first = and_parts (list_all is_name files) _ (sym (list_all-append is_name files (objects ++ strips)) ∙ valid.names) in
    let second = and_parts (list_all is_name objects) _ (sym (list_all-append is_name objects strips) ∙ first.1) in
    record { files = first.0; objects = second.0; strips = second.1 }

ill_named : {V : Type 0} (name : V → List ℕ) (vs : List V) (i : ℕ) → list_all is_name (map name vs) ≡ true → Has vs i (λ v. is_name (name v) ≡ false) → ⊥
ill_named name vs i all one = none_fails (λ v. is_name (name v)) vs i (sym (list_all-map is_name name vs) ∙ all) one

-- a block that has no name, and is not made
block_ill_named : (plan : PlanView) → IsPlan plan → (b : ℕ) → Has plan.blocks b (λ v. (is_name v.name ≡ false) × (is_made plan b ≡ false)) → ⊥
block_ill_named plan valid b one =
    let here : name_of_blk plan b ≡ one.element.name = ap (λ o. option_map_or (λ v. v.name) o []) one.stands in
    let none : has_name plan b ≡ false = or_from (is_made plan b) (is_name (name_of_blk plan b)) one.holds.1 (ap is_name here ∙ one.holds.0) in
    both_ways (has_name plan b) none (valid.block_names b (slice_get_within plan.blocks b one.element one.stands))

-- ## The intake and the strips

-- the intake that is there fits
intake_fits : (plan : PlanView) (o : Option IntakeView) → IfSome o (IsIntake plan) → (P : IntakeView → Type 0) → MatchOption o ⊥ P
    → (i : IntakeView) × IsIntake plan i × P i
intake_fits plan None fits P has = absurd has
intake_fits plan (Some i) fits P has = (i, fits, has)

-- a block of a span is as it is made for its place there
no_other : (plan : PlanView) (span : Span) (make : ℕ → BlkView)
    → ((k : ℕ) → k < span.count → slice_get plan.blocks (span.first + k) ≡ Some (make k)) → (b : ℕ) → IsOther plan span make b → ⊥
no_other plan span make each b one =
    let within = within_parts b span one.within in
    let place : span.first + (b - span.first) ≡ b = omega (arith, within.0) in
    one.other (subst (λ k. slice_get plan.blocks k ≡ Some (make (b - span.first))) place (each (b - span.first) (omega (arith, within.0, within.1))))

-- ## Blocks

works_or_not : {A : Type 0} (w : Option A) → is_some w ≡ true → is_none w ≡ true → ⊥
works_or_not None h k = cc
works_or_not (Some w) h k = cc

main_idle : (o : Option BlkView) → is_some (option_and_then (λ b. b.work) o) ≡ true → option_map_or (λ b. is_none b.work) o false ≡ true → ⊥
main_idle None has idle = cc
main_idle (Some b) has idle = works_or_not b.work has idle

-- ## The whole

pub broken_no_plan : (plan : PlanView) (fault : PartsFault) → Breaks plan fault → IsPlan plan → ⊥
broken_no_plan plan NoRoot broken valid = broken valid.root
broken_no_plan plan NoMain broken valid = broken valid.main
broken_no_plan plan MainHasWork broken valid = main_idle _ broken valid.main_idle
broken_no_plan plan TooManyObjects broken valid = absurd (omega (arith, valid.few_objects))
broken_no_plan plan TooManyBlocks broken valid = absurd (omega (arith, valid.few_blocks))
broken_no_plan plan TooManyFiles broken valid = absurd (omega (arith, valid.few_files))
broken_no_plan plan TooManyActs broken valid = absurd (omega (arith, valid.few_acts))
broken_no_plan plan UntilOutOfRange broken valid = broken (valid.until_low, valid.until_high)
broken_no_plan plan (ObjectNameIllFormed o) broken valid = ill_named (λ v. v.name) plan.objects o.0 (named plan valid).objects broken
broken_no_plan plan (BlockNameIllFormed b) broken valid = block_ill_named plan valid b.0 broken
broken_no_plan plan (FileNameIllFormed f) broken valid = ill_named (λ v. v.name) plan.files f (named plan valid).files broken
broken_no_plan plan (ObjectNameTaken o) broken valid = object_twice plan o.0 broken valid.names_apart
broken_no_plan plan (BlockNameTaken b) broken valid = block_twice plan b.0 broken valid.names_apart
broken_no_plan plan (FileNameTaken f) broken valid = file_twice plan f broken valid.names_apart
broken_no_plan plan (KindOutOfRange o) broken valid = both_ways _ broken.holds (fitting plan valid o.0 _ broken).kind
broken_no_plan plan (PathUnfit o) broken valid = both_ways _ broken.holds (fitting plan valid o.0 _ broken).path
broken_no_plan plan (TargetIsNoQueue o) broken valid =
    both_ways _ broken.holds.1 (node_target plan broken.element.kind broken.element broken.holds.0 (fitting plan valid o.0 _ broken).fields)
broken_no_plan plan (HasSourceParts o) broken valid =
    both_ways _ broken.holds.1 (no_source_parts plan broken.element.kind broken.element broken.holds.0 (fitting plan valid o.0 _ broken).fields)
broken_no_plan plan (HasTarget o) broken valid =
    let none = other_has plan broken.element.kind broken.element broken.holds.0 (fitting plan valid o.0 _ broken).fields in
    broken.holds.1 (eqb-true _ _ (and_parts (broken.element.target.0 == 0) _ none).0)
broken_no_plan plan (Inactive o) broken valid =
    let none = other_has plan broken.element.kind broken.element broken.holds.0 (fitting plan valid o.0 _ broken).fields in
    both_ways _ broken.holds.1 (and_parts broken.element.active _ (and_parts (broken.element.target.0 == 0) _ none).1).0
broken_no_plan plan (ActiveSource o) broken valid =
    both_ways _ (not-true _ (source_fits plan broken.element broken.holds.0 (fitting plan valid o.0 _ broken)).idle) broken.holds.1
broken_no_plan plan (HandlerActBarred o i) broken valid =
    barred_act plan broken.element.handler i (source_fits plan broken.element broken.holds.0 (fitting plan valid o.0 _ broken)).handler broken.holds.1
broken_no_plan plan (HandlerActUnfit o i) broken valid =
    unfit_act plan broken.element.handler i (source_fits plan broken.element broken.holds.0 (fitting plan valid o.0 _ broken)).handler broken.holds.1
broken_no_plan plan (CancelOutOfRange o) broken valid =
    both_ways _ broken.holds.1 (source_fits plan broken.element broken.holds.0 (fitting plan valid o.0 _ broken)).cancel
broken_no_plan plan (WorkOutOfRange b) broken valid =
    let whole = list_all_get (is_block plan) plan.blocks b.0 broken.element valid.blocks broken.stands in
    both_ways _ broken.holds (and_parts (option_map_or (is_work plan) broken.element.work true) _ whole).0
broken_no_plan plan (BlockActUnfit b i) broken valid =
    let whole = list_all_get (is_block plan) plan.blocks b.0 broken.element valid.blocks broken.stands in
    none_fails (is_act plan) broken.element.acts i (and_parts (option_map_or (is_work plan) broken.element.work true) _ whole).1 broken.holds
broken_no_plan plan (FilePathIllFormed f) broken valid = none_fails is_file plan.files f valid.files broken
broken_no_plan plan (SubmittedTwice b) broken valid = absurd (omega (arith, valid.once b.0))
broken_no_plan plan TooManyStrips broken valid = absurd (omega (arith, valid.few_strips))
broken_no_plan plan (StripNameIllFormed a) broken valid = ill_named (λ v. v.name) plan.strips a (named plan valid).strips broken
broken_no_plan plan (StripNameTaken a) broken valid = strip_twice plan a broken valid.names_apart
broken_no_plan plan IntakeOnNoQueue broken valid =
    let one = intake_fits plan plan.intake valid.intake _ broken in
    both_ways _ one.2 (and_parts (is_queue plan one.0.queue.0) _ one.1.fits).0
broken_no_plan plan IntakeCountOutOfRange broken valid =
    let one = intake_fits plan plan.intake valid.intake _ broken in
    both_ways _ one.2 (and_parts (is_queue plan one.0.queue.0) _ one.1.fits).1
broken_no_plan plan IntakeBlocksMissing broken valid =
    let one = intake_fits plan plan.intake valid.intake _ broken in both_ways _ one.2 one.1.among
broken_no_plan plan (IntakeBlockUnfit b) broken valid =
    let one = intake_fits plan plan.intake valid.intake _ broken in
    no_other plan (intake_span one.0) (λ k. intake_block (k + 1)) (intake_block_at plan one.0 one.1) b.0 one.2
broken_no_plan plan (StripUnfit a) broken valid = both_ways _ broken.holds (valid.strips a broken.element broken.stands).fits
broken_no_plan plan (StripBlocksMissing a) broken valid = both_ways _ broken.holds (valid.strips a broken.element broken.stands).among
broken_no_plan plan (StripBlockUnfit a b) broken valid =
    no_other plan (strip_span broken.element) (strip_block broken.element)
    (strip_block_at plan broken.element (valid.strips a broken.element broken.stands)) b.0 broken.holds
broken_no_plan plan (MadeTwice b) broken valid = absurd (omega (arith, valid.apart b.0))
broken_no_plan plan (NeverReachesRoot o) broken valid = both_ways _ broken.1 (valid.targets o.0 broken.0)

-- what a check of all rules answers, as the first rule that is broken
pub fault_told : {T : Type 0} (plan : PlanView) (r : Result T PartsFault) → IfOk r (λ _. IsPlan plan) → IfErr r (Breaks plan)
    → IsNone (result_err r) ↔ IsPlan plan
fault_told plan (Ok x) fits broken = (λ none. fits, λ valid. refl)
fault_told plan (Err fault) fits broken = (λ none. cc, λ valid. absurd (broken_no_plan plan fault broken valid))
