-- Timers, as their readers see them: the time, when each source was activated and cancelled, and what follows of their
-- due times (dispatch_source_create(3), dispatch_source_set_timer(3); whole milliseconds and `until` are this project's own
-- rule).
use Rattle.std.specs.Prelude.{ℕ, ◌+◌, ◌-◌, nat_le, Bool, true, false, ◌&&◌, ◌||◌, List, length, map, replicate, Option, Some, None, find, count_by, slice_get, slice_index_or, slice_set}
use Rattle.std.specs.Option.{option_map_or}
use Rattle.std.specs.List.{list_any, range_with_len}
use Rattle.gcd_plan.specs.PlanView.{PlanView}
use Rattle.gcd_plan.specs.KindValues.{is_on_interval}
use Rattle.gcd_plan.specs.declared.kind.Kind.{Kind}

-- the kinds of the objects, by number; the last due time; the time; and for each object by number the time at which it was
-- activated, and at which it was cancelled; all times are milliseconds
pub record TimersView : Type 0 where
  pub kinds : List Kind
  pub until : ℕ
  pub moment : ℕ
  pub activated : List (Option ℕ)
  pub cancelled : List (Option ℕ)

-- a plan's timers before the first event: the time is 0, and nothing is activated or cancelled
abbrev pub timers_of : PlanView → TimersView
timers_of plan = record {
  kinds = map (λ o. o.kind) plan.objects;
  until = plan.until;
  moment = 0;
  activated = replicate (length plan.objects) None;
  cancelled = replicate (length plan.objects) None;
}

-- when object s was activated, and cancelled, if it was (dispatch_activate(3), dispatch_source_cancel(3))
abbrev pub activated_at : TimersView → ℕ → Option ℕ
activated_at view s = slice_index_or view.activated s None

abbrev pub cancelled_at : TimersView → ℕ → Option ℕ
cancelled_at view s = slice_index_or view.cancelled s None

-- t is a due time of timer s: none lies past `until`, and none past its cancellation (dispatch_source_set_timer(3))
abbrev pub is_due_at : TimersView → ℕ → ℕ → Bool
is_due_at view s t =
    option_map_or (λ from. option_map_or (λ kind. is_on_interval kind from t) (slice_get view.kinds s) false) (activated_at view s) false
    && (nat_le t view.until && option_map_or (λ end. nat_le t end) (cancelled_at view s) true)

-- t is a due time of some timer
abbrev pub is_any_due_at : TimersView → ℕ → Bool
is_any_due_at view t = list_any (λ s. is_due_at view s t) (range_with_len 0 (length view.kinds))

-- the least due time after the present
abbrev pub next_due_at : TimersView → Option ℕ
next_due_at view = find (is_any_due_at view) (range_with_len (view.moment + 1) (view.until - view.moment))

-- how many due times timer s has had, up to the present
abbrev pub due_count_at : TimersView → ℕ → ℕ
due_count_at view s = count_by (is_due_at view s) (range_with_len 1 view.moment)

-- the same with object s activated, or cancelled, at the present
abbrev pub with_activated : TimersView → ℕ → TimersView
with_activated view s = record view { activated = slice_set view.activated s (Some view.moment) }

abbrev pub with_cancelled : TimersView → ℕ → TimersView
with_cancelled view s = record view { cancelled = slice_set view.cancelled s (Some view.moment) }

-- timer s has a due time after the present and up to t
abbrev pub comes_by : TimersView → (t s : ℕ) → Bool
comes_by view t s = list_any (is_due_at view s) (range_with_len (view.moment + 1) (t - view.moment))

-- marks of objects, with each timer marked that has such a due time
abbrev pub marked_by : TimersView → ℕ → List Bool → List Bool
marked_by view t marks = map (λ s. slice_index_or marks s false || comes_by view t s) (range_with_len 0 (length marks))
