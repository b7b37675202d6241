-- What a right line adds to a draft. Every declaration closes the body that was open; a block,
-- a handler and `main` open one.
use Rattle.std.specs.Prelude.{ℕ, ◌+◌, true, false, List, [], ◌∷◌, ◌++◌, length, Some, None, slice_set}
use Rattle.gcd_plan.specs.PlanView.{PlanView}
use Rattle.gcd_plan.specs.declared.numbers.Run.TheVariants.{Block, Source}
use Rattle.gcd_builder.specs.Changes.{new_block, new_file, new_object, new_intake, new_strip, with_file, with_object, with_block, with_act, with_cancel, with_intake, with_strip}
use Rattle.gcd_script.specs.declared.line.Line.{Line}
use Rattle.gcd_script.specs.declared.line.Line.TheVariants.{DeclareFile, DeclareObject, DeclareBlock, SetUntil, SetCancel, OpenHandler, OpenMain, AddAct, DeclareIntake, DeclareStrip}
use Rattle.gcd_script.specs.Drafts.{DraftView, counted}

-- a draft with this plan, in which no body is open
abbrev pub closed : PlanView → DraftView → DraftView
closed plan draft = record draft { plan = plan; body = None }

-- what the line adds
abbrev pub change : Line (List ℕ) → DraftView → DraftView
change (DeclareFile name path) d = closed (with_file (new_file (d.lines + 1) name path) d.plan) d
change (DeclareObject name kind target active path) d =
    record d {
      plan = with_object (new_object name kind target active path) d.plan;
      body = None;
      handlers = d.handlers ++ false ∷ [];
    }
change (DeclareBlock name work) d =
    record d { plan = with_block (new_block name work) d.plan; body = Some (Block (record { 0 = length d.plan.blocks })) }
change (SetUntil ms) d = record d { plan = record d.plan { until = ms }; body = None; has_until = true }
change (SetCancel s b) d = closed (with_cancel s b d.plan) d
change (OpenHandler s) d = record d { body = Some (Source s); handlers = slice_set d.handlers s.0 true }
change OpenMain d = record d { body = Some (Block (record { 0 = 0 })); has_main = true }
change (AddAct run act) d = record d { plan = with_act act run d.plan }
change (DeclareIntake queue count) d = closed (with_intake (new_intake queue count d.plan) d.plan) d
change (DeclareStrip name how file len count) d = closed (with_strip (new_strip name how file len count d.plan) d.plan) d

-- the draft after a right line, which is counted
abbrev pub after : Line (List ℕ) → DraftView → DraftView
after line d = counted (change line d)
