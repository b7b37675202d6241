-- The view after a lawful history is of that history: every tie at once.
use Rattle.std.proofs.Common.{List, [], ◌∷◌}
use Rattle.gcd_plan.specs.PlanView.{PlanView}
use Rattle.gcd_plan.specs.Validity.{IsPlan}
use Rattle.gcd_event.specs.declared.event.Event.{Event}
use Rattle.gcd_history.specs.Permitted.{IsLawful}
use Rattle.gcd_refinement.specs.MachineView.{MachineView, machine_of}
use Rattle.gcd_refinement.specs.Stands.{IsTied}
use Rattle.gcd_refinement.specs.After.{after}
use Rattle.gcd_refinement.proofs.Bounds.Sums.{numbers_small}
use Rattle.gcd_refinement.proofs.AllTies.{AllTies, ties_begin, ties_step, view_of, ties_stand}
use Rattle.gcd_refinement.proofs.Lists.Places.{places_are}

-- the ties give all the rest
pub tied_from : (plan : PlanView) (past : List Event) (v : MachineView) → IsPlan plan → IsLawful plan past → AllTies plan past v → IsTied plan past v
tied_from plan past v valid lawful t = record {
  same_plan = t.same_plan;
  valid = valid;
  lawful = lawful;
  parts = t.parts;
  own = t.own;
  small = numbers_small plan past v valid lawful t;
  places = places_are plan past v valid lawful t.parts t.lists t.groups t.waits t.wakes t.waiters t.block_marks;
  references = t.references;
  lists = t.lists;
  tree = t.tree;
  holds = t.holds;
  drains = t.drains;
  groups = t.groups;
  semas = t.semas;
  waits = t.waits;
  sources = t.sources;
  timers = t.timers;
  workers = t.workers;
  blocks = t.blocks;
  handlers = t.handlers;
  wakes = t.wakes;
  waiters = t.waiters;
  strips = t.strips;
  block_marks = t.block_marks;
  intake = t.intake;
  limits = t.limits;
  marks = t.marks;
  totals = t.totals;
}

pub ties_of : (plan : PlanView) (past : List Event) (v : MachineView) → IsTied plan past v → AllTies plan past v
ties_of plan past v t = record {
  same_plan = t.same_plan;
  parts = t.parts;
  own = t.own;
  references = t.references;
  lists = t.lists;
  tree = t.tree;
  holds = t.holds;
  drains = t.drains;
  groups = t.groups;
  semas = t.semas;
  waits = t.waits;
  sources = t.sources;
  timers = t.timers;
  workers = t.workers;
  blocks = t.blocks;
  handlers = t.handlers;
  wakes = t.wakes;
  waiters = t.waiters;
  strips = t.strips;
  block_marks = t.block_marks;
  intake = t.intake;
  limits = t.limits;
  marks = t.marks;
  totals = t.totals;
}

pub tied_begin : (plan : PlanView) → IsPlan plan → IsTied plan [] (machine_of plan)
tied_begin plan valid =
    let t = ties_begin plan valid in
    tied_from plan [] (machine_of plan) valid tt t

pub tied_step : (plan : PlanView) (past : List Event) (e : Event) (v : MachineView) → IsLawful plan (e ∷ past) → IsTied plan past v → IsTied plan (e ∷ past) (after plan v e)
tied_step plan past e v lawful tied =
    let t = ties_step plan past e v tied.valid lawful (ties_of plan past v tied) in
    tied_from plan (e ∷ past) (after plan v e) tied.valid lawful t

pub tied_stand : (plan : PlanView) (past : List Event) → IsPlan plan → IsLawful plan past → IsTied plan past (view_of plan past)
tied_stand plan past valid lawful =
    let t = ties_stand plan past valid lawful in
    tied_from plan past (view_of plan past) valid lawful t
