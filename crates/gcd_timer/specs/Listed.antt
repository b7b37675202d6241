-- What the timers keep beside what their readers see: the next due time of each object.
use Rattle.std.specs.Prelude.{◌≡◌, ℕ, ◌+◌, ◌-◌, ◌≤◌, nat_le, Bool, true, false, not, ◌&&◌, ◌||◌, List, length, map, Option, None, slice_get, slice_index_or, find}
use Rattle.std.specs.Option.{option_map_or, option_and_then}
use Rattle.std.specs.List.{list_all, range_with_len}
use Rattle.gcd_plan.specs.Limits.{max_time}
use Rattle.gcd_plan.specs.Validity.{is_kind}
use Rattle.gcd_timer.specs.TimersView.{TimersView, activated_at, cancelled_at, is_due_at}
use Rattle.gcd_timer.specs.Intervals.{last_due, due_times_of}
use Rattle.gcd_timer.specs.declared.due_times.DueTimes.{DueTimes}

-- the lists are equally long, the numbers that the kinds carry are in range, and the last due time is at most a day
pub record IsClock (view : TimersView) : Type 0 where
  pub activated : length view.activated ≡ length view.kinds
  pub cancelled : length view.cancelled ≡ length view.kinds
  pub kinds : list_all is_kind view.kinds ≡ true
  pub until_short : view.until ≤ max_time

-- the due times of object s, if it is an activated timer
abbrev pub due_times_at : TimersView → ℕ → Option DueTimes
due_times_at view s =
    option_and_then
    (λ from. option_and_then (λ kind. due_times_of kind from (last_due view.until (cancelled_at view s))) (slice_get view.kinds s))
    (activated_at view s)

-- the least due time of object s after the present
abbrev pub next_due_of : TimersView → ℕ → Option ℕ
next_due_of view s = find (is_due_at view s) (range_with_len (view.moment + 1) (view.until - view.moment))

-- that of each object
abbrev pub nexts_of : TimersView → List (Option ℕ)
nexts_of view = map (next_due_of view) (range_with_len 0 (length view.kinds))

-- a time is at most t
abbrev pub is_reached : ℕ → Option ℕ → Bool
is_reached t next = option_map_or (λ x. nat_le x t) next false

-- what the present has not reached of some times is the next due time of its object
pub record AreBehind (view : TimersView) (nexts : List (Option ℕ)) : Type 0 where
  pub long : length nexts ≡ length view.kinds
  pub ahead : (s : ℕ) → is_reached view.moment (slice_index_or nexts s None) ≡ false → slice_index_or nexts s None ≡ next_due_of view s

-- marks, with each number marked whose time is at most t
abbrev pub reached_marked : ℕ → List (Option ℕ) → List Bool → List Bool
reached_marked t nexts marks =
    map (λ s. slice_index_or marks s false || is_reached t (slice_index_or nexts s None)) (range_with_len 0 (length marks))

-- marks so far: what was reached of the first times and is no more has been marked
pub record AreMarked (t : ℕ) (nexts : List (Option ℕ)) (marks : List Bool) (nexts' : List (Option ℕ)) (marks' : List Bool) : Type 0 where
  pub length_kept : length marks' ≡ length marks
  pub fewer : (s : ℕ) → is_reached t (slice_index_or nexts' s None) ≡ true → is_reached t (slice_index_or nexts s None) ≡ true
  pub marked : (s : ℕ) → slice_index_or marks' s false
      ≡ (slice_index_or marks s false || (is_reached t (slice_index_or nexts s None) && not (is_reached t (slice_index_or nexts' s None))))
