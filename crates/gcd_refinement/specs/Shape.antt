-- How long the arrays are, what in them never changes, and that what they name is of the plan: for the conditions of the parts.
use Rattle.std.specs.Prelude.{◌≡◌, ◌<◌, ℕ, true, length, map, Some}
use Rattle.std.specs.List.{range_with_len}
use Rattle.gcd_plan.specs.PlanView.{PlanView}
use Rattle.gcd_plan.specs.Kinds.{is_node_kind, is_source_kind}
use Rattle.gcd_plan.specs.KindValues.{first_value_of}
use Rattle.gcd_plan.specs.declared.numbers.Blk.{Blk}
use Rattle.gcd_plan.specs.declared.numbers.Obj.{Obj}
use Rattle.gcd_plan.specs.declared.numbers.Run.{Run}
use Rattle.gcd_sema.specs.SemasView.{wait_acts}
use Rattle.gcd_apply.specs.StripsView.{strip_of, strip_room}
use Rattle.gcd_plan.specs.Needs.{limit_room, mark_room, park_room}
use Rattle.gcd_history.specs.Permitted.{is_run_of}
use Rattle.gcd_refinement.specs.MachineView.{MachineView, block_at, at_worker, applier_at}
use Rattle.gcd_plan.specs.Limits.{max_workers}

-- the parts have an entry for each object or block, and the kinds that the plan says
pub record PartsFit (plan : PlanView) (v : MachineView) : Type 0 where
  pub refs : length v.refs ≡ length plan.objects
  pub lists : length v.lists.lists ≡ length plan.objects
  pub list_blocks : v.lists.blocks ≡ length plan.blocks
  pub targets : length v.tree.targets ≡ length plan.objects
  pub requests : length v.tree.requests ≡ length plan.objects
  pub runs_on : length v.tree.open_on ≡ length plan.objects
  pub nodes : v.tree.nodes ≡ map (λ o. is_node_kind o.kind) plan.objects
  pub holds : length v.holds.holds ≡ length plan.objects
  pub active : length v.holds.active ≡ length plan.objects
  pub sources : v.holds.sources ≡ map (λ o. is_source_kind o.kind) plan.objects
  pub barriers : length v.drains.barriers ≡ length plan.objects
  pub drain_kinds : v.drains.kinds ≡ map (λ o. o.kind) plan.objects
  pub counts : length v.groups.counts ≡ length plan.objects
  pub entered : length v.groups.entered ≡ length plan.objects
  pub emptied : length v.groups.emptied ≡ length plan.objects
  pub notify : length v.groups.notify.lists ≡ length plan.objects
  pub notify_blocks : v.groups.notify.blocks ≡ length plan.blocks
  pub due : length v.groups.due ≡ length plan.objects
  pub firsts : v.semas.firsts ≡ map (λ o. first_value_of o.kind) plan.objects
  pub signals : length v.semas.signals ≡ length plan.objects
  pub waits : length v.semas.waits ≡ length plan.objects
  pub rooms : v.semas.rooms ≡ map (wait_acts plan) (range_with_len 0 (length plan.objects))
  pub reasons : length v.waits.reasons ≡ park_room plan
  pub limits : length v.waits.limits ≡ limit_room plan
  pub expired : length v.waits.expired ≡ length plan.blocks
  pub wait_objects : v.waits.objects ≡ length plan.objects
  pub source_kinds : v.sources.kinds ≡ map (λ o. o.kind) plan.objects
  pub pending : length v.sources.pending ≡ length plan.objects
  pub cancelled : length v.sources.cancelled ≡ length plan.objects
  pub timer_kinds : v.timers.kinds ≡ map (λ o. o.kind) plan.objects
  pub until : v.timers.until ≡ plan.until
  pub activations : length v.timers.activated ≡ length plan.objects
  pub cancellations : length v.timers.cancelled ≡ length plan.objects
  pub wait_strips : v.waits.strips ≡ length plan.strips
  pub strips : length v.strips.left ≡ length plan.strips
  pub strip_blocks : v.strips.of_block ≡ map (strip_of plan) (range_with_len 0 (strip_room plan))
  pub cancelled_blocks : length v.marks.cancelled ≡ mark_room plan
  pub began_blocks : length v.marks.began ≡ mark_room plan
  pub ended_blocks : length v.marks.ended ≡ mark_room plan
  pub told : length v.marks.notify.lists ≡ mark_room plan
  pub told_blocks : v.marks.notify.blocks ≡ mark_room plan

-- so have the machine's own arrays, and what they name is of the plan
pub record OwnFit (plan : PlanView) (v : MachineView) : Type 0 where
  pub sleepers : length v.sleepers.lists ≡ length plan.objects
  pub sleeper_blocks : v.sleepers.blocks ≡ park_room plan
  pub waiters : length v.waiters.lists ≡ mark_room plan
  pub waiter_blocks : v.waiters.blocks ≡ mark_room plan
  pub appliers : length v.appliers ≡ length plan.strips
  pub blocks : length v.blocks ≡ length plan.blocks
  pub ended : length v.ended ≡ length plan.blocks
  pub wakeable : length v.wakeable ≡ length plan.blocks
  pub ahead : length v.ahead ≡ limit_room plan
  pub ripe : length v.ripe ≡ length plan.blocks
  pub handlers : length v.handlers ≡ length plan.objects
  pub busy : length v.busy ≡ length plan.objects
  pub live : length v.live ≡ length plan.objects
  pub workers : length v.workers ≡ max_workers
  pub nodes : (b : ℕ) (q : Obj) → (block_at v b).node ≡ Some q → q.0 < length plan.objects
  pub groups : (b : ℕ) (g : Obj) → (block_at v b).group ≡ Some g → g.0 < length plan.objects
  pub homes : (b : ℕ) → (block_at v b).home.0 < length plan.objects
  pub callers : (b : ℕ) (c : Blk) → (block_at v b).caller ≡ Some c → c.0 < length plan.blocks
  pub applied_by : (a : ℕ) (b : Blk) → applier_at v a ≡ Some b → b.0 < length plan.blocks
  pub runs : (w : ℕ) (run : Run) → at_worker v w ≡ Some run → is_run_of plan run ≡ true
