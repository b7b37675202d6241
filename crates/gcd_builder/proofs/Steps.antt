-- Each addition that a builder may make keeps the plan valid.
use Rattle.std.proofs.Common.{ℕ, ◌≤◌, Bool, List, Option, sym, subst}
use Rattle.gcd_plan.specs.Limits.{max_time}
use Rattle.gcd_plan.specs.PlanView.{PlanView}
use Rattle.gcd_plan.specs.Validity.{IsPlan}
use Rattle.gcd_plan.specs.declared.act.Act.{Act}
use Rattle.gcd_plan.specs.declared.kind.Kind.{Kind}
use Rattle.gcd_plan.specs.declared.numbers.Blk.{Blk}
use Rattle.gcd_plan.specs.declared.numbers.Obj.{Obj}
use Rattle.gcd_plan.specs.declared.numbers.Run.{Run}
use Rattle.gcd_plan.specs.declared.numbers.Run.TheVariants as run
use Rattle.gcd_plan.specs.declared.work.How.{How}
use Rattle.gcd_plan.specs.declared.work.Work.{Work}
use Rattle.gcd_plan.proofs.Places.{slice_get_some}
use Rattle.gcd_builder.specs.Changes.{new_block, new_file, new_intake, new_object, new_strip, with_act, with_block, with_cancel, with_file, with_intake, with_object, with_strip, with_until}
use Rattle.gcd_builder.specs.Refusals.{MayAct, MayAddBlock, MayAddFile, MayAddIntake, MayAddObject, MayAddStrip, MayCancel}
use Rattle.gcd_builder.proofs.BlockActs as block_acts
use Rattle.gcd_builder.proofs.SourceChanges as source_changes
use Rattle.gcd_builder.proofs.Inserts.{fit_from}
use Rattle.gcd_builder.proofs.Makes.{intake_valid}
use Rattle.gcd_builder.proofs.ObjectChanges.{source_stands}
use Rattle.gcd_builder.proofs.StripMakes.{strip_valid}
use Rattle.gcd_builder.proofs.Valid.{block_valid, file_valid, object_valid, until_valid}

module _ (plan : PlanView) (valid : IsPlan plan) where
  pub file_stays : (line : ℕ) (name path : List ℕ) → MayAddFile plan name path → IsPlan (with_file (new_file line name path) plan)
  file_stays line name path may = file_valid plan valid line name path (fit_from plan name may.unused) may.room may.fits

  pub object_stays : (name : List ℕ) (kind : Kind) (target : Obj) (active : Bool) (path : List ℕ) → MayAddObject plan (new_object name kind target active path) → IsPlan (with_object (new_object name kind target active path) plan)
  object_stays name kind target active path may =
      object_valid plan valid name kind target active path (fit_from plan name may.unused) may.room may.fits

  pub block_stays : (name : List ℕ) (work : Option Work) → MayAddBlock plan name work → IsPlan (with_block (new_block name work) plan)
  block_stays name work may = block_valid plan valid name work (fit_from plan name may.unused) may.room may.fits

  pub cancel_stays : (s : Obj) (b : Blk) → MayCancel plan s b → IsPlan (with_cancel s b plan)
  cancel_stays s b may =
      let at = source_stands plan valid s.0 may.kind in
      subst IsPlan (sym (source_changes.cancel_is_new plan valid s at b may.lacks))
      (source_changes.cancel_valid plan valid s at b may.lacks may.declared may.free)

  pub intake_stays : (queue : Obj) (count : ℕ) → MayAddIntake plan queue count → IsPlan (with_intake (new_intake queue count plan) plan)
  intake_stays queue count may = intake_valid plan valid queue count may.first may.kind may.low may.high may.room

  pub strip_stays : (name : List ℕ) (how : How) (file len count : ℕ) → MayAddStrip plan name how file len count → IsPlan (with_strip (new_strip name how file len count plan) plan)
  strip_stays name how file len count may =
      strip_valid plan valid name how file len count (fit_from plan name may.unused) may.counts may.reads may.low may.high may.room may.strips

  pub act_stays : (r : Run) (a : Act) → MayAct plan r a → IsPlan (with_act a r plan)
  act_stays (run.Block b) a may =
      let at = slice_get_some plan.blocks b.0 may.body.0 in
      subst IsPlan (sym (block_acts.is_new plan valid b at.0 at.1 a))
      (block_acts.act_valid plan valid b at.0 at.1 a may.fits may.untaken may.body.1 may.room)
  act_stays (run.Source s) a may =
      let at = source_stands plan valid s.0 may.body in
      subst IsPlan (sym (source_changes.act_is_new plan valid s at a))
      (source_changes.act_valid plan valid s at a may.allowed may.fits may.untaken may.room)

  pub until_stays : (ms : ℕ) → 1 ≤ ms → ms ≤ max_time → IsPlan (with_until ms plan)
  until_stays ms low high = until_valid plan valid ms low high
