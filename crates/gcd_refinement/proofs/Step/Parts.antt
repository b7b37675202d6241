-- The lengths and fixed contents of the parts after an event: no word of a part changes them.
use Rattle.std.proofs.Common.{◌≡◌, ℕ, zero, suc, ◌+◌, ◌-◌, ◌==◌, Bool, true, false, cond, List, [], ◌∷◌, ◌++◌, length, drop, get_or, set, Option, Some, None, refl, ◌∙◌}
use Rattle.std.specs.List.{fold}
use Rattle.std.specs.Option.{option_map_or}
use Rattle.std.proofs.lemmas.List.{length-set}
use Rattle.gcd_plan.specs.PlanView.{PlanView}
use Rattle.gcd_plan.specs.declared.act.Act.{Act}
use Rattle.gcd_plan.specs.declared.act.Act.TheVariants.{GroupAsync, Notify, Enter, Leave, Signal, Wait, WaitFor, Suspend, Resume, Activate, Target, Merge, Retain, Release, CancelBlock, NotifyBlock}
use Rattle.gcd_plan.specs.declared.numbers.Blk.{Blk}
use Rattle.gcd_plan.specs.declared.numbers.Obj.{Obj}
use Rattle.gcd_plan.specs.declared.numbers.Run.{Run}
use Rattle.gcd_plan.specs.declared.numbers.Run.TheVariants.{Block, Source}
use Rattle.gcd_plan.specs.declared.reason.Reason.{Reason}
use Rattle.gcd_plan.specs.declared.reason.Reason.TheVariants.{Rank}
use Rattle.gcd_event.specs.declared.event.Event.{Event}
use Rattle.gcd_event.specs.declared.event.Event.TheVariants.{Start, Act as Acted, Wake, End, Deliver, DeliverEnd, Tick, Ready, Expire}
use Rattle.gcd_history.specs.declared.submission.Submission.{Submission}
use Rattle.gcd_history.specs.Runs.{act_at, act_of}
use Rattle.gcd_history.specs.Submitted.{cancels}
use Rattle.gcd_lists.specs.ListsView.{ListsView, list_at}
use Rattle.gcd_tree.specs.TreeView.{TreeView, open_on_at, with_open, settled, settled_to}
use Rattle.gcd_hold.specs.HoldsView.{HoldsView, hold_at, with_active, with_hold}
use Rattle.gcd_drain.specs.DrainsView.{DrainsView, barriers_at}
use Rattle.gcd_group.specs.GroupsView.{GroupsView, count_at, entered_at, due_at, with_one_more, with_one_less, with_entered, with_notify, with_fired}
use Rattle.gcd_sema.specs.SemasView.{SemasView, signals_at, expiries_at}
use Rattle.gcd_sync.specs.WaitsView.{WaitsView, reason_at}
use Rattle.gcd_apply.specs.StripsView.{StripsView, left_at, strip_at, with_done}
use Rattle.gcd_blockobj.specs.MarksView.{MarksView, has_begun_at, has_ended_at, with_notify as with_told, with_ended}
use Rattle.gcd_source.specs.SourcesView.{SourcesView, merged_at}
use Rattle.gcd_timer.specs.TimersView.{TimersView}
use Rattle.gcd_refinement.specs.MachineView.{MachineView, block_at}
use Rattle.gcd_refinement.specs.Shape.{PartsFit}
use Rattle.gcd_refinement.specs.Submits.{submits, activated_by, newly_cancelled}
use Rattle.gcd_refinement.specs.AfterLimits.{limit_in_view}
use Rattle.gcd_refinement.specs.After.{refs_by, pushed, begun, opened, closed, targeted, tree_after, holds_by, barrier_began, barrier_ended, drains_after, fired_times, groups_by, member_ended, groups_after, semas_by, semas_expired, semas_after, parked_for, awaited_in_view, waits_after, source_cancelled, merged_by, values_after, ticked, activated, timer_cancelled, after}
use Rattle.gcd_refinement.specs.AfterSleepers.{popped}
use Rattle.gcd_refinement.specs.AfterStrips.{strips_after, all_told, marks_by, marks_after}
use Rattle.gcd_refinement.proofs.Step.Lists.{pushed_long}
use Rattle.gcd_refinement.proofs.Step.NodeMarks.{begun_long}

-- ## References and lists

refs_long : (refs : List ℕ) (act : Option Act) → length (refs_by refs act) ≡ length refs
refs_long refs (Some (Retain o)) = length-set refs o.0 (get_or refs o.0 0 + 1)
refs_long refs (Some (Release o)) = length-set refs o.0 (get_or refs o.0 0 - 1)
refs_long refs act = refl

pub all_pushed_long : (subs : List Submission) (lists : ListsView) → length (fold pushed lists subs).lists ≡ length lists.lists
all_pushed_long [] lists = refl
all_pushed_long (s ∷ subs) lists = all_pushed_long subs (pushed lists s) ∙ pushed_long lists s

all_pushed_blocks : (subs : List Submission) (lists : ListsView) → (fold pushed lists subs).blocks ≡ lists.blocks
all_pushed_blocks [] lists = refl
all_pushed_blocks (s ∷ subs) lists = all_pushed_blocks subs (pushed lists s) ∙ one s.node
  where
    one : (n : Option Obj) → (pushed lists (record s { node = n })).blocks ≡ lists.blocks
    one None = refl
    one (Some q) = refl

begun_blocks : (v : MachineView) (e : Event) → (begun v e).blocks ≡ v.lists.blocks
begun_blocks v (Start w b) = by (block_at v b.0).node
  where
    by : (m : Option Obj) → (popped v.lists m).blocks ≡ v.lists.blocks
    by None = refl
    by (Some n) = refl
begun_blocks v e = refl

-- ## Tree

record TreeAlike (a b : TreeView) : Type 0 where
  targets : length b.targets ≡ length a.targets
  requests : length b.requests ≡ length a.requests
  runs : length b.open_on ≡ length a.open_on
  nodes : b.nodes ≡ a.nodes

tree_same : (a : TreeView) → TreeAlike a a
tree_same a = record { targets = refl; requests = refl; runs = refl; nodes = refl }

tree_open : (a : TreeView) (o n : ℕ) → TreeAlike a (with_open a o n)
tree_open a o n = record { targets = refl; requests = refl; runs = length-set a.open_on o n; nodes = refl }

tree_opened : (a : TreeView) (o : Option Obj) → TreeAlike a (opened a o)
tree_opened a None = tree_same a
tree_opened a (Some n) = tree_open a n.0 (open_on_at a n.0 + 1)

tree_settled : (a b : TreeView) (o : ℕ) (t : Option Obj) → TreeAlike a b → TreeAlike a (settled_to b o t)
tree_settled a b o None alike = alike
tree_settled a b o (Some t) alike =
    record { targets = length-set b.targets o t ∙ alike.targets; requests = length-set b.requests o None ∙ alike.requests; runs = alike.runs; nodes = alike.nodes }

tree_closed : (a : TreeView) (o : Option Obj) → TreeAlike a (closed a o)
tree_closed a None = tree_same a
tree_closed a (Some n) =
    elim (open_on_at a n.0 == 1) as (λ t. TreeAlike a (cond t (settled (with_open a n.0 0) n.0) (with_open a n.0 (open_on_at a n.0 - 1)))) [
      | true ↦ tree_settled a (with_open a n.0 0) n.0 (get_or a.requests n.0 None) (tree_open a n.0 0)
      | false ↦ tree_open a n.0 (open_on_at a n.0 - 1)
    ]

tree_targeted : (a : TreeView) (act : Option Act) → TreeAlike a (targeted a act)
tree_targeted a (Some (Target o t)) =
    elim (open_on_at a o.0 == 0) as (λ u. TreeAlike a (cond u (record a { targets = set a.targets o.0 t }) (record a { requests = set a.requests o.0 (Some t) }))) [
      | true ↦ record { targets = length-set a.targets o.0 t; requests = refl; runs = refl; nodes = refl }
      | false ↦ record { targets = refl; requests = length-set a.requests o.0 (Some t); runs = refl; nodes = refl }
    ]
tree_targeted a act = tree_same a

tree_alike : (plan : PlanView) (v : MachineView) (e : Event) → TreeAlike v.tree (tree_after plan v e)
tree_alike plan v (Start w b) = tree_opened v.tree (block_at v b.0).node
tree_alike plan v (Deliver w s) = tree_opened v.tree (Some s)
tree_alike plan v (End w b) = tree_closed v.tree (block_at v b.0).node
tree_alike plan v (DeliverEnd w s) = tree_closed v.tree (Some s)
tree_alike plan v (Acted w r i) = tree_targeted v.tree (act_of plan (Acted w r i))
tree_alike plan v e = tree_same v.tree

-- ## Holds and barriers

record HoldsAlike (a b : HoldsView) : Type 0 where
  holds : length b.holds ≡ length a.holds
  active : length b.active ≡ length a.active
  sources : b.sources ≡ a.sources

holds_active : (a : HoldsView) (o : ℕ) → HoldsAlike a (with_active a o)
holds_active a o = record { holds = refl; active = length-set a.active o true; sources = refl }

holds_hold : (a : HoldsView) (o n : ℕ) → HoldsAlike a (with_hold a o n)
holds_hold a o n = record { holds = length-set a.holds o n; active = refl; sources = refl }

holds_alike : (a : HoldsView) (act : Option Act) → HoldsAlike a (holds_by a act)
holds_alike a (Some (Suspend o)) = holds_hold a o.0 (hold_at a o.0 + 1)
holds_alike a (Some (Resume o)) = elim (hold_at a o.0 == 0) as (λ t. HoldsAlike a (cond t (with_active a o.0) (with_hold a o.0 (hold_at a o.0 - 1)))) [ true ↦ holds_active a o.0 | false ↦ holds_hold a o.0 (hold_at a o.0 - 1) ]
holds_alike a (Some (Activate o)) = holds_active a o.0
holds_alike a act = record { holds = refl; active = refl; sources = refl }

record DrainsAlike (a b : DrainsView) : Type 0 where
  barriers : length b.barriers ≡ length a.barriers
  kinds : b.kinds ≡ a.kinds

drains_began : (a : DrainsView) (o : Option Obj) (barrier : Bool) → DrainsAlike a (barrier_began a o barrier)
drains_began a None barrier = record { barriers = refl; kinds = refl }
drains_began a (Some n) true = record { barriers = length-set a.barriers n.0 (barriers_at a n.0 + 1); kinds = refl }
drains_began a (Some n) false = record { barriers = refl; kinds = refl }

drains_ended : (a : DrainsView) (o : Option Obj) (barrier : Bool) → DrainsAlike a (barrier_ended a o barrier)
drains_ended a None barrier = record { barriers = refl; kinds = refl }
drains_ended a (Some n) true = record { barriers = length-set a.barriers n.0 (barriers_at a n.0 - 1); kinds = refl }
drains_ended a (Some n) false = record { barriers = refl; kinds = refl }

drains_alike : (plan : PlanView) (v : MachineView) (e : Event) → DrainsAlike v.drains (drains_after plan v e)
drains_alike plan v (Start w b) = drains_began v.drains (block_at v b.0).node (block_at v b.0).barrier
drains_alike plan v (End w b) = drains_ended v.drains (block_at v b.0).node (block_at v b.0).barrier
drains_alike plan v e = record { barriers = refl; kinds = refl }

-- ## Groups

record GroupsAlike (a b : GroupsView) : Type 0 where
  counts : length b.counts ≡ length a.counts
  entered : length b.entered ≡ length a.entered
  emptied : length b.emptied ≡ length a.emptied
  notify : length b.notify.lists ≡ length a.notify.lists
  blocks : b.notify.blocks ≡ a.notify.blocks
  due : length b.due ≡ length a.due

groups_same : (a : GroupsView) → GroupsAlike a a
groups_same a = record { counts = refl; entered = refl; emptied = refl; notify = refl; blocks = refl; due = refl }

set_if : {X : Type 0} (t : Bool) (xs : List X) (i : ℕ) (x : X) → length (cond t (set xs i x) xs) ≡ length xs
set_if true xs i x = length-set xs i x
set_if false xs i x = refl

groups_fired : (n : ℕ) (a b : GroupsView) (g : ℕ) → GroupsAlike a b → GroupsAlike a (fired_times n b g)
groups_fired zero a b g alike = alike
groups_fired (suc n) a b g alike =
    groups_fired n a (with_fired b g) g (record {
      counts = alike.counts;
      entered = alike.entered;
      emptied = alike.emptied;
      notify = length-set b.notify.lists g (drop 1 (list_at b.notify g)) ∙ alike.notify;
      blocks = alike.blocks;
      due = length-set b.due g (due_at b g - 1) ∙ alike.due;
    })

groups_more : (a : GroupsView) (g at : ℕ) → GroupsAlike a (with_one_more a g at)
groups_more a g at = record {
  counts = length-set a.counts g (count_at a g + 1);
  entered = refl;
  emptied = set_if (count_at a g == 0) a.emptied g (at - 1);
  notify = refl;
  blocks = refl;
  due = refl;
}

groups_less : (a : GroupsView) (g at : ℕ) → GroupsAlike a (with_one_less a g at)
groups_less a g at = record {
  counts = length-set a.counts g (count_at a g - 1);
  entered = refl;
  emptied = set_if (count_at a g == 1) a.emptied g at;
  notify = refl;
  blocks = refl;
  due = set_if (count_at a g == 1) a.due g (length (list_at a.notify g));
}

groups_entered : (a b : GroupsView) (g n : ℕ) → GroupsAlike a b → GroupsAlike a (with_entered b g n)
groups_entered a b g n alike = record {
  counts = alike.counts;
  entered = length-set b.entered g n ∙ alike.entered;
  emptied = alike.emptied;
  notify = alike.notify;
  blocks = alike.blocks;
  due = alike.due;
}

groups_told : (a : GroupsView) (g : ℕ) (b : Blk) → GroupsAlike a (with_notify a g b)
groups_told a g b = record {
  counts = refl;
  entered = refl;
  emptied = refl;
  notify = length-set a.notify.lists g (list_at a.notify g ++ (b, false) ∷ []);
  blocks = refl;
  due = set_if (count_at a g == 0) a.due g (length (list_at a.notify g) + 1);
}

groups_acted : (a : GroupsView) (at : ℕ) (act : Option Act) → GroupsAlike a (groups_by a at act)
groups_acted a at (Some (GroupAsync g q b)) = groups_more a g.0 at
groups_acted a at (Some (Enter g)) = groups_entered a (with_one_more a g.0 at) g.0 (entered_at a g.0 + 1) (groups_more a g.0 at)
groups_acted a at (Some (Leave g)) =
    let mid = with_entered (with_one_less a g.0 at) g.0 (entered_at a g.0 - 1) in
    groups_fired (due_at mid g.0) a mid g.0 (groups_entered a (with_one_less a g.0 at) g.0 (entered_at a g.0 - 1) (groups_less a g.0 at))
groups_acted a at (Some (Notify g q b)) = let mid = with_notify a g.0 b in groups_fired (due_at mid g.0) a mid g.0 (groups_told a g.0 b)
groups_acted a at act = groups_same a

groups_ended : (a : GroupsView) (at : ℕ) (o : Option Obj) → GroupsAlike a (member_ended a at o)
groups_ended a at None = groups_same a
groups_ended a at (Some g) = let mid = with_one_less a g.0 at in groups_fired (due_at mid g.0) a mid g.0 (groups_less a g.0 at)

groups_alike : (plan : PlanView) (v : MachineView) (e : Event) → GroupsAlike v.groups (groups_after plan v e)
groups_alike plan v (End w b) = groups_ended v.groups (v.len + 1) (block_at v b.0).group
groups_alike plan v e = groups_acted v.groups (v.len + 1) (act_of plan e)

-- ## Semaphores, parked blocks, sources, timers

record SemasAlike (a b : SemasView) : Type 0 where
  firsts : b.firsts ≡ a.firsts
  signals : length b.signals ≡ length a.signals
  waits : length b.waits ≡ length a.waits
  rooms : b.rooms ≡ a.rooms

semas_acted : (a : SemasView) (act : Option Act) → SemasAlike a (semas_by a act)
semas_acted a (Some (Signal s)) = record { firsts = refl; signals = length-set a.signals s.0 (signals_at a s.0 + 1); waits = refl; rooms = refl }
semas_acted a (Some (Wait s)) = record { firsts = refl; signals = refl; waits = length-set a.waits s.0 (expiries_at a s.0 ++ false ∷ []); rooms = refl }
semas_acted a (Some (WaitFor s ms)) = record { firsts = refl; signals = refl; waits = length-set a.waits s.0 (expiries_at a s.0 ++ false ∷ []); rooms = refl }
semas_acted a act = record { firsts = refl; signals = refl; waits = refl; rooms = refl }

semas_ended : (a : SemasView) (why : Option Reason) → SemasAlike a (semas_expired a why)
semas_ended a (Some (Rank s k)) = record { firsts = refl; signals = refl; waits = length-set a.waits s.0 (set (expiries_at a s.0) (k - 1) true); rooms = refl }
semas_ended a why = record { firsts = refl; signals = refl; waits = refl; rooms = refl }

semas_alike : (plan : PlanView) (v : MachineView) (e : Event) → SemasAlike v.semas (semas_after plan v e)
semas_alike plan v (Acted w run i) = semas_acted v.semas (act_at plan run i)
semas_alike plan v (Expire b) = semas_ended v.semas (reason_at v.waits b.0)
semas_alike plan v e = record { firsts = refl; signals = refl; waits = refl; rooms = refl }

record WaitsAlike (a b : WaitsView) : Type 0 where
  reasons : length b.reasons ≡ length a.reasons
  limits : length b.limits ≡ length a.limits
  expired : length b.expired ≡ length a.expired
  objects : b.objects ≡ a.objects
  strips : b.strips ≡ a.strips

waits_same : (a : WaitsView) → WaitsAlike a a
waits_same a = record { reasons = refl; limits = refl; expired = refl; objects = refl; strips = refl }

waits_parked : (a : WaitsView) (run : Run) (why : Option Reason) (limit : Option ℕ) → WaitsAlike a (parked_for a run why limit)
waits_parked a (Block b) (Some why) limit = record {
  reasons = length-set a.reasons b.0 (Some why);
  limits = length-set a.limits b.0 limit;
  expired = length-set a.expired b.0 false;
  objects = refl;
  strips = refl;
}
waits_parked a (Block b) None limit = waits_same a
waits_parked a (Source s) why limit = waits_same a

waits_alike : (plan : PlanView) (v : MachineView) (e : Event) → WaitsAlike v.waits (waits_after plan v e)
waits_alike plan v (Acted w run i) = waits_parked v.waits run (awaited_in_view v (act_at plan run i)) (limit_in_view v (act_at plan run i))
waits_alike plan v (Wake w b) = record {
  reasons = length-set v.waits.reasons b.0 None;
  limits = length-set v.waits.limits b.0 None;
  expired = length-set v.waits.expired b.0 false;
  objects = refl;
  strips = refl;
}
waits_alike plan v (Expire b) = record { reasons = refl; limits = refl; expired = length-set v.waits.expired b.0 true; objects = refl; strips = refl }
waits_alike plan v e = waits_same v.waits

record SourcesAlike (a b : SourcesView) : Type 0 where
  kinds : b.kinds ≡ a.kinds
  pending : length b.pending ≡ length a.pending
  cancelled : length b.cancelled ≡ length a.cancelled

sources_valued : (a : SourcesView) (s n : ℕ) → SourcesAlike a (record a { pending = set a.pending s n })
sources_valued a s n = record { kinds = refl; pending = length-set a.pending s n; cancelled = refl }

sources_merged : (a : SourcesView) (act : Option Act) → SourcesAlike a (merged_by a act)
sources_merged a (Some (Merge s n)) = sources_valued a s.0 (merged_at a s.0 n)
sources_merged a act = record { kinds = refl; pending = refl; cancelled = refl }

values_alike : (plan : PlanView) (v : MachineView) (e : Event) → SourcesAlike v.sources (values_after plan v e)
values_alike plan v (Ready s n) = sources_valued v.sources s.0 (merged_at v.sources s.0 n)
values_alike plan v (Deliver w s) = sources_valued v.sources s.0 0
values_alike plan v (Acted w r i) = sources_merged v.sources (act_of plan (Acted w r i))
values_alike plan v e = record { kinds = refl; pending = refl; cancelled = refl }

sources_alike : (a b : SourcesView) (o : Option Obj) → SourcesAlike a b → SourcesAlike a (source_cancelled b o)
sources_alike a b None alike = alike
sources_alike a b (Some s) alike = record { kinds = alike.kinds; pending = alike.pending; cancelled = length-set b.cancelled s.0 true ∙ alike.cancelled }

record TimersAlike (a b : TimersView) : Type 0 where
  kinds : b.kinds ≡ a.kinds
  until : b.until ≡ a.until
  activated : length b.activated ≡ length a.activated
  cancelled : length b.cancelled ≡ length a.cancelled

timers_ticked : (a : TimersView) (e : Event) → TimersAlike a (ticked a e)
timers_ticked a (Tick t) = record { kinds = refl; until = refl; activated = refl; cancelled = refl }
timers_ticked a e = record { kinds = refl; until = refl; activated = refl; cancelled = refl }

timers_on : (a b : TimersView) (o : Option Obj) → TimersAlike a b → TimersAlike a (activated b o)
timers_on a b None alike = alike
timers_on a b (Some o) alike = record { kinds = alike.kinds; until = alike.until; activated = length-set b.activated o.0 (Some b.moment) ∙ alike.activated; cancelled = alike.cancelled }

timers_off : (a b : TimersView) (o : Option Obj) → TimersAlike a b → TimersAlike a (timer_cancelled b o)
timers_off a b None alike = alike
timers_off a b (Some o) alike = record { kinds = alike.kinds; until = alike.until; activated = alike.activated; cancelled = length-set b.cancelled o.0 (Some b.moment) ∙ alike.cancelled }

-- ## Strips and marks

record StripsAlike (a b : StripsView) : Type 0 where
  left : length b.left ≡ length a.left
  blocks : b.of_block ≡ a.of_block

strips_done : (a : StripsView) (b : ℕ) → StripsAlike a (with_done a b)
strips_done a b =
    elim (strip_at a b) as (λ o. StripsAlike a (option_map_or (λ s. record a { left = set a.left s (left_at a s - 1) }) o a)) [
      | None ↦ record { left = refl; blocks = refl }
      | Some s ↦ record { left = length-set a.left s (left_at a s - 1); blocks = refl }
    ]

strips_alike : (v : MachineView) (e : Event) → StripsAlike v.strips (strips_after v e)
strips_alike v (End w b) = strips_done v.strips b.0
strips_alike v e = record { left = refl; blocks = refl }

pub record BlocksMarkedAlike (a b : MarksView) : Type 0 where
  pub cancelled : length b.cancelled ≡ length a.cancelled
  pub began : length b.began ≡ length a.began
  pub ended : length b.ended ≡ length a.ended
  pub lists : length b.notify.lists ≡ length a.notify.lists
  pub blocks : b.notify.blocks ≡ a.notify.blocks

marked_same : (a : MarksView) → BlocksMarkedAlike a a
marked_same a = record { cancelled = refl; began = refl; ended = refl; lists = refl; blocks = refl }

marked_told : (a b : MarksView) (k : ℕ) → BlocksMarkedAlike a b → BlocksMarkedAlike a (all_told b k)
marked_told a b k alike = record { cancelled = alike.cancelled; began = alike.began; ended = alike.ended; lists = length-set b.notify.lists k [] ∙ alike.lists; blocks = alike.blocks }

marked_noted : (a : MarksView) (c : ℕ) (d : Blk) → BlocksMarkedAlike a (with_told a c d)
marked_noted a c d = record { cancelled = refl; began = refl; ended = refl; lists = length-set a.notify.lists c (list_at a.notify c ++ (d, false) ∷ []); blocks = refl }

marked_by_act : (a : MarksView) (act : Option Act) → BlocksMarkedAlike a (marks_by a act)
marked_by_act a (Some (CancelBlock c)) =
    elim (has_begun_at a c.0) as (λ t. BlocksMarkedAlike a (cond t a (record a { cancelled = set a.cancelled c.0 true }))) [
      | true ↦ marked_same a
      | false ↦ record { cancelled = length-set a.cancelled c.0 true; began = refl; ended = refl; lists = refl; blocks = refl }
    ]
marked_by_act a (Some (NotifyBlock c q d)) =
    let one = with_told a c.0 d in
    elim (has_ended_at one c.0) as (λ t. BlocksMarkedAlike a (cond t (all_told one c.0) one)) [
      | true ↦ marked_told a one c.0 (marked_noted a c.0 d)
      | false ↦ marked_noted a c.0 d
    ]
marked_by_act a act = marked_same a

pub marked_alike : (plan : PlanView) (v : MachineView) (e : Event) → BlocksMarkedAlike v.marks (marks_after plan v e)
marked_alike plan v (Start w b) = record { cancelled = refl; began = length-set v.marks.began b.0 true; ended = refl; lists = refl; blocks = refl }
marked_alike plan v (Acted w run i) = marked_by_act v.marks (act_at plan run i)
marked_alike plan v (End w b) =
    marked_told v.marks (with_ended v.marks b.0) b.0 (record { cancelled = refl; began = refl; ended = length-set v.marks.ended b.0 true; lists = refl; blocks = refl })
marked_alike plan v e = marked_same v.marks

-- ## The step

pub parts_step : (plan : PlanView) (v : MachineView) (e : Event) → PartsFit plan v → PartsFit plan (after plan v e)
parts_step plan v e fit =
    let tree = tree_alike plan v e in
    let holds = holds_alike v.holds (act_of plan e) in
    let drains = drains_alike plan v e in
    let groups = groups_alike plan v e in
    let semas = semas_alike plan v e in
    let waits = waits_alike plan v e in
    let strips = strips_alike v e in
    let marked = marked_alike plan v e in
    let sources = sources_alike v.sources (values_after plan v e) (cancels plan e) (values_alike plan v e) in
    let timers = timers_off v.timers (activated (ticked v.timers e) (activated_by v (act_of plan e))) (newly_cancelled v (cancels plan e)) (timers_on v.timers (ticked v.timers e) (activated_by v (act_of plan e)) (timers_ticked v.timers e)) in
    record {
      refs = refs_long v.refs (act_of plan e) ∙ fit.refs;
      lists = all_pushed_long (submits plan v e) (begun v e) ∙ (begun_long v e ∙ fit.lists);
      list_blocks = all_pushed_blocks (submits plan v e) (begun v e) ∙ (begun_blocks v e ∙ fit.list_blocks);
      targets = tree.targets ∙ fit.targets;
      requests = tree.requests ∙ fit.requests;
      runs_on = tree.runs ∙ fit.runs_on;
      nodes = tree.nodes ∙ fit.nodes;
      holds = holds.holds ∙ fit.holds;
      active = holds.active ∙ fit.active;
      sources = holds.sources ∙ fit.sources;
      barriers = drains.barriers ∙ fit.barriers;
      drain_kinds = drains.kinds ∙ fit.drain_kinds;
      counts = groups.counts ∙ fit.counts;
      entered = groups.entered ∙ fit.entered;
      emptied = groups.emptied ∙ fit.emptied;
      notify = groups.notify ∙ fit.notify;
      notify_blocks = groups.blocks ∙ fit.notify_blocks;
      due = groups.due ∙ fit.due;
      firsts = semas.firsts ∙ fit.firsts;
      signals = semas.signals ∙ fit.signals;
      waits = semas.waits ∙ fit.waits;
      rooms = semas.rooms ∙ fit.rooms;
      reasons = waits.reasons ∙ fit.reasons;
      limits = waits.limits ∙ fit.limits;
      expired = waits.expired ∙ fit.expired;
      wait_objects = waits.objects ∙ fit.wait_objects;
      source_kinds = sources.kinds ∙ fit.source_kinds;
      pending = sources.pending ∙ fit.pending;
      cancelled = sources.cancelled ∙ fit.cancelled;
      timer_kinds = timers.kinds ∙ fit.timer_kinds;
      until = timers.until ∙ fit.until;
      activations = timers.activated ∙ fit.activations;
      cancellations = timers.cancelled ∙ fit.cancellations;
      wait_strips = waits.strips ∙ fit.wait_strips;
      strips = strips.left ∙ fit.strips;
      strip_blocks = strips.blocks ∙ fit.strip_blocks;
      cancelled_blocks = marked.cancelled ∙ fit.cancelled_blocks;
      began_blocks = marked.began ∙ fit.began_blocks;
      ended_blocks = marked.ended ∙ fit.ended_blocks;
      told = marked.lists ∙ fit.told;
      told_blocks = marked.blocks ∙ fit.told_blocks;
    }
