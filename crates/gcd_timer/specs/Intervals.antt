-- The due times of one timer as numbers: the first, how far apart they are, and the last time at which there may be one
-- (dispatch_source_set_timer(3)).
use Rattle.std.specs.Prelude.{ℕ, ◌+◌, ◌-◌, ◌/◌, ◌%◌, ◌<◌, ◌==◌, nat_le, nat_lt, min, Bool, ◌&&◌, if◌then◌else◌, Option, Some, None}
use Rattle.std.specs.Option.{option_map_or}
use Rattle.gcd_plan.specs.declared.kind.Kind.{Kind}
use Rattle.gcd_plan.specs.declared.kind.Kind.TheVariants.{Serial, Concurrent, Group, Semaphore, Add, Or, Replace, Timer, Read}
use Rattle.gcd_timer.specs.declared.due_times.DueTimes.{DueTimes}

-- the first due time is above 0, and no two are one
pub record IsSpaced (times : DueTimes) : Type 0 where
  pub first : 0 < times.first
  pub every : 0 < times.every

-- t is first, or an `every` after another
abbrev pub falls_on : (first every t : ℕ) → Bool
falls_on first every t = nat_le first t && (t - first) % every == 0

-- t is one of the due times
abbrev pub is_due_in : DueTimes → ℕ → Bool
is_due_in times t = falls_on times.first times.every t && nat_le t times.last

-- the last time at which a timer may be due: none is past `until`, and none past its cancellation
abbrev pub last_due : ℕ → Option ℕ → ℕ
last_due until cancelled = option_map_or (λ end. min end until) cancelled until

-- the due times of an object of this kind that is activated at `from`, if it is a timer
abbrev pub due_times_of : Kind → (from last : ℕ) → Option DueTimes
due_times_of Serial from last = None
due_times_of Concurrent from last = None
due_times_of Group from last = None
due_times_of (Semaphore n) from last = None
due_times_of Add from last = None
due_times_of Or from last = None
due_times_of Replace from last = None
due_times_of (Timer start every) from last = Some (record { first = from + start; every = every; last = last })
due_times_of Read from last = None

-- the least of first, first + every, .. that is above the moment, though it may be past the last
abbrev pub due_after : DueTimes → ℕ → ℕ
due_after times moment =
    if nat_lt moment times.first then times.first else moment + (times.every - (moment - times.first) % times.every)

-- how many of first, first + every, .. there are up to `end`
abbrev pub due_up_to : (first every end : ℕ) → ℕ
due_up_to first every end = if nat_lt end first then 0 else (end - first) / every + 1
