-- How what a machine keeps is seen.
use Rattle.std.specs.Arc.{arc_value}
use Rattle.gcd_refinement.specs.MachineView.{MachineView}
use Rattle.gcd_machine.specs.declared.registers.Registers.TheInside.{Inside}

abbrev pub view_of : Inside → MachineView
view_of m = record {
  plan = arc_value m.plan;
  refs = m.refs;
  lists = m.lists;
  tree = m.tree;
  holds = m.holds;
  drains = m.drains;
  groups = m.groups;
  semas = m.semas;
  waits = m.waits;
  sources = m.sources;
  timers = m.timers;
  sleepers = m.sleepers;
  waiters = m.waiters;
  appliers = m.appliers.items;
  strips = m.strips;
  marks = m.marks;
  accepted = m.accepted;
  shut = m.shut;
  blocks = m.blocks.items;
  ended = m.ended.items;
  wakeable = m.wakeable;
  ahead = m.ahead;
  ripe = m.ripe;
  handlers = m.handlers.items;
  busy = m.busy;
  live = m.live;
  workers = m.workers.items;
  running = m.running;
  left = m.left;
  misused = m.misused;
  halted = m.halted;
  len = m.len;
}
