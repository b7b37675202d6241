-- What is judged of a whole line: codes above those of words, so that they count only where all its words have a meaning.
use Rattle.std.specs.Prelude.{ℕ, ◌+◌, nat_lt, nat_le, not, ◌&&◌, Bool, true, false, if◌then◌else◌, List, length, is_none, Ok, Err}
use Rattle.std.specs.List.{slice_index_or}
use Rattle.gcd_plan.specs.Limits.{max_files, max_objects, max_blocks, max_strips, max_acts}
use Rattle.gcd_plan.specs.PlanView.{PlanView, cancel_block}
use Rattle.gcd_plan.specs.Validity.{act_count}
use Rattle.gcd_builder.specs.Bodies.{may_have}
use Rattle.gcd_builder.specs.Taken.{is_free, is_untaken_by}
use Rattle.gcd_script.specs.declared.line.Line.{Line}
use Rattle.gcd_script.specs.declared.line.Line.TheVariants.{DeclareFile, DeclareObject, DeclareBlock, SetUntil, SetCancel, OpenHandler, OpenMain, AddAct, DeclareIntake, DeclareStrip}
use Rattle.gcd_script.specs.declared.refusal.Refusal.TheVariants.{Repeated, InHandler, PastLimit}
use Rattle.gcd_script.specs.Drafts.{DraftView}
use Rattle.gcd_script.specs.Forms.{form_of}
use Rattle.gcd_script.specs.Meant.{Meant, then_meant}

-- what the line takes is not taken: its block or its strip, or the handler or the cancellation block of its source
abbrev pub is_untaken : DraftView → Line (List ℕ) → Bool
is_untaken d (DeclareFile name path) = true
is_untaken d (DeclareObject name kind target active path) = true
is_untaken d (DeclareBlock name work) = true
is_untaken d (SetUntil ms) = true
is_untaken d (SetCancel s b) = is_free d.plan b && is_none (cancel_block d.plan s.0)
is_untaken d (OpenHandler s) = not (slice_index_or d.handlers s.0 false)
is_untaken d OpenMain = true
is_untaken d (AddAct run act) = is_untaken_by d.plan act
is_untaken d (DeclareIntake queue count) = true
is_untaken d (DeclareStrip name how file len count) = true

-- no act stands in a handler that may not have it
abbrev pub is_allowed : Line (List ℕ) → Bool
is_allowed (DeclareFile name path) = true
is_allowed (DeclareObject name kind target active path) = true
is_allowed (DeclareBlock name work) = true
is_allowed (SetUntil ms) = true
is_allowed (SetCancel s b) = true
is_allowed (OpenHandler s) = true
is_allowed OpenMain = true
is_allowed (AddAct run act) = may_have run act
is_allowed (DeclareIntake queue count) = true
is_allowed (DeclareStrip name how file len count) = true

-- there is room for what the line adds
abbrev pub has_room : PlanView → Line (List ℕ) → Bool
has_room plan (DeclareFile name path) = nat_lt (length plan.files) max_files
has_room plan (DeclareObject name kind target active path) = nat_lt (length plan.objects) max_objects
has_room plan (DeclareBlock name work) = nat_lt (length plan.blocks) max_blocks
has_room plan (SetUntil ms) = true
has_room plan (SetCancel s b) = true
has_room plan (OpenHandler s) = true
has_room plan OpenMain = true
has_room plan (AddAct run act) = nat_lt (act_count plan) max_acts
has_room plan (DeclareIntake queue count) = nat_le (length plan.blocks + count) max_blocks
has_room plan (DeclareStrip name how file len count) =
    nat_le (length plan.blocks + count) max_blocks && nat_lt (length plan.strips) max_strips

-- the line, or the lowest of these refusals
abbrev pub judged : DraftView → Line (List ℕ) → Meant (Line (List ℕ))
judged d line =
    if not (is_untaken d line) then Err Repeated
    else if not (is_allowed line) then Err InHandler
    else if not (has_room d.plan line) then Err PastLimit
    else Ok line

-- what the words of a line mean
abbrev pub line_of : DraftView → List (List ℕ) → Meant (Line (List ℕ))
line_of d words = then_meant (judged d) (form_of d words)
