-- Groups, as their readers see them: what each counts, when it was empty, and the blocks that are to be told
-- (dispatch_group_create(3), dispatch_group_notify(3)).
use Rattle.std.specs.Prelude.{ℕ, ◌+◌, ◌-◌, ◌==◌, nat_le, Bool, false, ◌||◌, if◌then◌else◌, List, [], ◌∷◌, ◌++◌, length, replicate, Option, None, slice_index, slice_get, drop, slice_set, option_map}
use Rattle.gcd_plan.specs.PlanView.{PlanView}
use Rattle.gcd_plan.specs.declared.numbers.Blk.{Blk}
use Rattle.gcd_plan.specs.declared.numbers.Obj.{Obj}
use Rattle.gcd_lists.specs.ListsView.{ListsView, list_at, place_of}

-- for each object by number: how many it counts as a group, how many enters no leave has answered, the last position of the
-- history at which it is known to have been empty, the notify blocks that have not fired, the first first, each with whether
-- it is a barrier (none is), and how many of these are due
pub record GroupsView : Type 0 where
  pub counts : List ℕ
  pub entered : List ℕ
  pub emptied : List ℕ
  pub notify : ListsView
  pub due : List ℕ

-- a plan's groups before the first event: all are empty, and no block is to be told
abbrev pub groups_of : PlanView → GroupsView
groups_of plan = record {
  counts = replicate (length plan.objects) 0;
  entered = replicate (length plan.objects) 0;
  emptied = replicate (length plan.objects) 0;
  notify = record { lists = replicate (length plan.objects) []; blocks = length plan.blocks };
  due = replicate (length plan.objects) 0;
}

-- how many group g counts: its blocks that are submitted and not ended, and its enters less its leaves
-- (dispatch_group_create(3))
abbrev pub count_at : GroupsView → ℕ → ℕ
count_at view g = slice_index view.counts g

-- the enters of group g less its leaves (dispatch_group_enter(3), dispatch_group_leave(3))
abbrev pub entered_at : GroupsView → ℕ → ℕ
entered_at view g = slice_index view.entered g

-- the last position at which group g is known to have been empty
abbrev pub emptied_at : GroupsView → ℕ → ℕ
emptied_at view g = slice_index view.emptied g

-- how many of group g's notify blocks are due
abbrev pub due_at : GroupsView → ℕ → ℕ
due_at view g = slice_index view.due g

-- group g is empty now, or was at some position from this one on (dispatch_group_wait(3))
abbrev pub is_empty_since : GroupsView → ℕ → ℕ → Bool
is_empty_since view g position = count_at view g == 0 || nat_le position (emptied_at view g)

-- one more in group g, in the event after which the history is `at` long: where the group was empty, it was so up to this
-- event
abbrev pub with_one_more : GroupsView → ℕ → (at : ℕ) → GroupsView
with_one_more view g at = record view {
  counts = slice_set view.counts g (count_at view g + 1);
  emptied = if count_at view g == 0 then slice_set view.emptied g (at - 1) else view.emptied;
}

-- one less in group g, in the event after which the history is `at` long: where none is left, the group is empty from
-- then on, and each block that waits to be told of it is due (dispatch_group_notify(3))
abbrev pub with_one_less : GroupsView → ℕ → (at : ℕ) → GroupsView
with_one_less view g at = record view {
  counts = slice_set view.counts g (count_at view g - 1);
  emptied = if count_at view g == 1 then slice_set view.emptied g at else view.emptied;
  due = if count_at view g == 1 then slice_set view.due g (length (list_at view.notify g)) else view.due;
}

-- the same with n as what group g's enters are more than its leaves
abbrev pub with_entered : GroupsView → ℕ → ℕ → GroupsView
with_entered view g n = record view { entered = slice_set view.entered g n }

-- block b behind the notify blocks of group g; where the group is empty, all of them are due (dispatch_group_notify(3))
abbrev pub with_notify : GroupsView → ℕ → Blk → GroupsView
with_notify view g b = record view {
  notify = record view.notify { lists = slice_set view.notify.lists g (list_at view.notify g ++ (b, false) ∷ []) };
  due = if count_at view g == 0 then slice_set view.due g (length (list_at view.notify g) + 1) else view.due;
}

-- the same without the first of group g's notify blocks, which was due
abbrev pub with_fired : GroupsView → ℕ → GroupsView
with_fired view g = record view {
  notify = record view.notify { lists = slice_set view.notify.lists g (drop 1 (list_at view.notify g)) };
  due = slice_set view.due g (due_at view g - 1);
}

-- the first of group g's notify blocks, where it is due
abbrev pub fires_at : GroupsView → ℕ → Option Blk
fires_at view g = if due_at view g == 0 then None else option_map (λ waiting. waiting.0) (slice_get (list_at view.notify g) 0)

-- the group whose notify block b is, until it fires
abbrev pub notify_group_of : GroupsView → ℕ → Option Obj
notify_group_of view b = option_map (λ place. place.0) (place_of view.notify b)
