-- All ties but the bounds, which follow from them: they hold of a new machine, and go on with each lawful event.
use Rattle.std.proofs.Common.{◌≡◌, refl, List, [], ◌∷◌}
use Rattle.gcd_plan.specs.PlanView.{PlanView}
use Rattle.gcd_plan.specs.Validity.{IsPlan}
use Rattle.gcd_event.specs.declared.event.Event.{Event}
use Rattle.gcd_history.specs.Permitted.{IsLawful}
use Rattle.gcd_refinement.specs.MachineView.{MachineView, machine_of}
use Rattle.gcd_refinement.specs.Shape.{PartsFit, OwnFit}
use Rattle.gcd_refinement.specs.Ties.{ReferencesAre, ListsAre, TreeIs, HoldsAre, DrainsAre, GroupsAre, SemasAre, WaitsAre, SourcesAre, TimersAre, WorkersAre, BlocksAre, HandlersAre, WakesAre, WaitersAre, StripsAre, BlockMarksAre, IntakeIs, LimitsAre, MarksAre, TotalsAre}
use Rattle.gcd_refinement.specs.After.{after}
use Rattle.gcd_refinement.proofs.Beginning.{parts_begin, own_begin, references_begin, lists_begin, tree_begin, holds_begin, drains_begin, groups_begin, semas_begin, waits_begin, sources_begin, timers_begin, workers_begin, blocks_begin, handlers_begin, limits_begin, marks_begin, totals_begin}
use Rattle.gcd_refinement.proofs.Step.References.{references_step}
use Rattle.gcd_refinement.proofs.Step.Lists.{lists_step}
use Rattle.gcd_refinement.proofs.Step.Targets.{tree_step}
use Rattle.gcd_refinement.proofs.Step.Holds.{holds_step}
use Rattle.gcd_refinement.proofs.Step.Drains.{drains_step}
use Rattle.gcd_refinement.proofs.Step.GroupTies.{groups_step}
use Rattle.gcd_refinement.proofs.Step.Semas.{semas_step}
use Rattle.gcd_refinement.proofs.Step.Waits.{waits_step}
use Rattle.gcd_refinement.proofs.Step.Sources.{sources_step}
use Rattle.gcd_refinement.proofs.Step.Timers.{timers_step}
use Rattle.gcd_refinement.proofs.Step.Workers.{workers_step}
use Rattle.gcd_refinement.proofs.Step.Blocks.{blocks_step}
use Rattle.gcd_refinement.proofs.Step.Handlers.{handlers_step}
use Rattle.gcd_refinement.proofs.Sleepers.Nowhere.{wakes_begin}
use Rattle.gcd_refinement.proofs.Step.Wakes.{wakes_step}
use Rattle.gcd_refinement.proofs.Step.Strips.{strips_begin, strips_step}
use Rattle.gcd_refinement.proofs.Step.Waiters.{waiters_begin, waiters_step}
use Rattle.gcd_refinement.proofs.Step.BlockMarks.{block_marks_begin, block_marks_step}
use Rattle.gcd_refinement.proofs.Step.Intake.{intake_begin, intake_step}
use Rattle.gcd_refinement.proofs.Step.Limits.{limits_step}
use Rattle.gcd_refinement.proofs.Step.NodeMarks.{marks_step}
use Rattle.gcd_refinement.proofs.Step.Feeds.{totals_step}
use Rattle.gcd_refinement.proofs.Step.Parts.{parts_step}
use Rattle.gcd_refinement.proofs.Step.OwnArrays.{own_step}

pub record AllTies (plan : PlanView) (past : List Event) (v : MachineView) : Type 0 where
  pub same_plan : v.plan ≡ plan
  pub parts : PartsFit plan v
  pub own : OwnFit plan v
  pub references : ReferencesAre plan past v
  pub lists : ListsAre plan past v
  pub tree : TreeIs plan past v
  pub holds : HoldsAre plan past v
  pub drains : DrainsAre plan past v
  pub groups : GroupsAre plan past v
  pub semas : SemasAre plan past v
  pub waits : WaitsAre plan past v
  pub sources : SourcesAre plan past v
  pub timers : TimersAre plan past v
  pub workers : WorkersAre plan past v
  pub blocks : BlocksAre plan past v
  pub handlers : HandlersAre plan past v
  pub wakes : WakesAre plan past v
  pub waiters : WaitersAre plan past v
  pub strips : StripsAre plan past v
  pub block_marks : BlockMarksAre plan past v
  pub intake : IntakeIs plan past v
  pub limits : LimitsAre plan past v
  pub marks : MarksAre plan past v
  pub totals : TotalsAre plan past v

pub ties_begin : (plan : PlanView) → IsPlan plan → AllTies plan [] (machine_of plan)
ties_begin plan valid = record {
  same_plan = refl;
  parts = parts_begin plan;
  own = own_begin plan valid;
  references = references_begin plan;
  lists = lists_begin plan;
  tree = tree_begin plan;
  holds = holds_begin plan;
  drains = drains_begin plan;
  groups = groups_begin plan;
  semas = semas_begin plan;
  waits = waits_begin plan;
  sources = sources_begin plan;
  timers = timers_begin plan;
  workers = workers_begin plan;
  blocks = blocks_begin plan;
  handlers = handlers_begin plan;
  wakes = wakes_begin plan;
  waiters = waiters_begin plan;
  strips = strips_begin plan;
  block_marks = block_marks_begin plan;
  intake = intake_begin plan;
  limits = limits_begin plan;
  marks = marks_begin plan;
  totals = totals_begin plan valid;
}

pub ties_step : (plan : PlanView) (past : List Event) (e : Event) (v : MachineView) → IsPlan plan → IsLawful plan (e ∷ past) → AllTies plan past v → AllTies plan (e ∷ past) (after plan v e)
ties_step plan past e v valid lawful t =
    let blocks = blocks_step plan past e v valid lawful t.parts t.own t.groups t.sources t.block_marks t.blocks in
    let workers = workers_step plan past e v lawful t.own t.workers in
    let sources = sources_step plan past e v valid lawful t.parts t.own t.holds t.sources t.timers in
    let parts = parts_step plan v e t.parts in
    let own = own_step plan past e v valid lawful t.own blocks workers in
    let waits = waits_step plan past e v lawful t.parts t.same_plan t.totals.len t.timers.moment t.semas t.waits in
    let wakes = wakes_step plan past e v valid lawful t.parts t.own t.semas t.groups t.blocks t.waits t.waiters t.strips t.wakes in
    record {
      same_plan = t.same_plan;
      parts = parts;
      own = own;
      references = references_step plan past e v valid lawful t.parts.refs t.references;
      lists = lists_step plan past e v valid lawful t.parts t.own t.groups t.blocks t.sources t.block_marks t.lists;
      tree = tree_step plan past e v valid lawful t.parts t.own t.blocks t.tree;
      holds = holds_step plan past e v valid lawful t.parts t.holds;
      drains = drains_step plan past e v lawful t.parts t.own t.blocks t.drains;
      groups = groups_step plan past e v valid lawful t.parts t.own t.groups t.blocks t.totals.len;
      semas = semas_step plan past e v valid lawful t.parts t.semas t.waits;
      waits = waits;
      sources = sources;
      timers = timers_step plan past e v valid lawful t.parts t.holds t.sources t.timers;
      workers = workers;
      blocks = blocks;
      handlers = handlers_step plan past e v lawful t.own t.sources t.handlers;
      wakes = wakes;
      waiters = waiters_step plan past e v valid lawful t.parts t.own t.blocks t.strips t.waiters;
      strips = strips_step plan past e v valid lawful t.parts t.strips;
      block_marks = block_marks_step plan past e v valid lawful t.parts t.own t.block_marks;
      intake = intake_step plan past e v lawful t.intake;
      limits = limits_step plan past e v lawful t.parts t.own parts own t.timers t.waits waits t.wakes wakes t.limits;
      marks = marks_step plan past e v valid lawful t.parts t.own t.groups t.blocks t.sources t.block_marks sources t.lists t.marks;
      totals = totals_step plan past e v valid lawful t.parts t.own t.holds t.groups t.blocks t.sources t.block_marks t.totals;
    }

-- the view after a history
abbrev pub view_of : PlanView → List Event → MachineView
view_of plan [] = machine_of plan
view_of plan (e ∷ past) = after plan (view_of plan past) e

pub ties_stand : (plan : PlanView) (past : List Event) → IsPlan plan → IsLawful plan past → AllTies plan past (view_of plan past)
ties_stand plan [] valid lawful = ties_begin plan valid
ties_stand plan (e ∷ past) valid lawful = ties_step plan past e (view_of plan past) valid lawful (ties_stand plan past valid lawful.0)
