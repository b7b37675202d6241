-- What holds of a draft that right lines make, and which lines are right.
use Rattle.std.specs.Prelude.{◌≡◌, ℕ, ◌<◌, ◌≤◌, ◌&&◌, nat_le, true, List, length, is_none, Some, IfSome}
use Rattle.std.specs.Option.{option_map_or}
use Rattle.gcd_plan.specs.Kinds.{is_source, is_queue}
use Rattle.gcd_plan.specs.Limits.{max_time, max_intake, max_file_bytes}
use Rattle.gcd_plan.specs.Names.{is_path}
use Rattle.gcd_plan.specs.PlanView.{PlanView}
use Rattle.gcd_plan.specs.Validity.{IsPlan, is_object, is_work, is_declared, is_strip_how, is_act}
use Rattle.gcd_builder.specs.Bodies.{IsBody}
use Rattle.gcd_builder.specs.Changes.{new_object}
use Rattle.gcd_builder.specs.Names.{is_unused}
use Rattle.gcd_script.specs.declared.line.Line.{Line}
use Rattle.gcd_script.specs.declared.line.Line.TheVariants.{DeclareFile, DeclareObject, DeclareBlock, SetUntil, SetCancel, OpenHandler, OpenMain, AddAct, DeclareIntake, DeclareStrip}
use Rattle.gcd_script.specs.Drafts.{DraftView}
use Rattle.gcd_script.specs.Judged.{is_untaken, is_allowed, has_room}

-- the plan so far is valid, the open body is one of its bodies, and each object has its mark
pub record IsDraft (d : DraftView) : Type 0 where
  pub valid : IsPlan d.plan
  pub body : IfSome d.body (IsBody d.plan)
  pub marks : length d.handlers ≡ length d.plan.objects

-- what a right line's words name is there, and of the kind that is asked
abbrev pub Fits : DraftView → Line (List ℕ) → Type 0
Fits d (DeclareFile name path) = (is_unused d.plan name ≡ true) × (is_path path ≡ true)
Fits d (DeclareObject name kind target active path) =
    (is_unused d.plan name ≡ true) × (is_object d.plan (new_object name kind target active path) ≡ true)
Fits d (DeclareBlock name work) = (is_unused d.plan name ≡ true) × (option_map_or (is_work d.plan) work true ≡ true)
Fits d (SetUntil ms) = (nat_le 1 ms && nat_le ms max_time) ≡ true
Fits d (SetCancel s b) = (is_source d.plan s.0 ≡ true) × (is_declared d.plan b ≡ true)
Fits d (OpenHandler s) = is_source d.plan s.0 ≡ true
Fits d OpenMain = Unit {0}
Fits d (AddAct run act) = (d.body ≡ Some run) × (is_act d.plan act ≡ true)
Fits d (DeclareIntake queue count) =
    (is_none d.plan.intake ≡ true) × (is_queue d.plan queue.0 ≡ true) × (1 ≤ count) × (count ≤ max_intake)
Fits d (DeclareStrip name how file len count) =
    (is_unused d.plan name ≡ true) × (is_strip_how how ≡ true) × (file < length d.plan.files) × (1 ≤ len) × (len ≤ max_file_bytes)

-- the line may follow the draft
pub record IsRight (d : DraftView) (line : Line (List ℕ)) : Type 0 where
  pub fits : Fits d line
  pub untaken : is_untaken d line ≡ true
  pub allowed : is_allowed line ≡ true
  pub room : has_room d.plan line ≡ true
