-- What a run by rounds leaves beside its journal.
use Rattle.std.specs.Prelude.{◌≡◌, ◌<◌, ℕ, true, false, List, length, Some, slice_get, count_by}
use Rattle.std.specs.List.{range_with_len}
use Rattle.gcd_plan.specs.Kinds.{is_source}
use Rattle.gcd_plan.specs.PlanView.{PlanView, kind_of}
use Rattle.gcd_plan.specs.declared.kind.Kind.{Kind}
use Rattle.gcd_event.specs.declared.event.Event.{Event}
use Rattle.gcd_jobs.specs.BlockValues.{has_given}

-- the value of block b is one that its job may give at 0
pub record IsGiven {J : Type 0} (gives : J → ℕ → ℕ → Type 0) (jobs : List J) (values : List ℕ) (b : ℕ) : Type 0 where
  pub job : J
  pub value : ℕ
  pub job_of : slice_get jobs b ≡ Some job
  pub value_of : slice_get values b ≡ Some value
  pub given : gives job 0 value

-- for each block a value that its job may give at 0 where it has ended and is not cancelled, and else 0
pub record AreGiven {J : Type 0} (gives : J → ℕ → ℕ → Type 0) (plan : PlanView) (jobs : List J) (h : List Event) (values : List ℕ) : Type 0 where
  pub count : length values ≡ length plan.blocks
  pub ended : (b : ℕ) → has_given plan h b ≡ true → IsGiven gives jobs values b
  pub others : (b : ℕ) → b < length plan.blocks → has_given plan h b ≡ false → slice_get values b ≡ Some 0

-- how many sources have a lower number
abbrev pub sources_before : PlanView → ℕ → ℕ
sources_before plan o = count_by (is_source plan) (range_with_len 0 o)

-- the handler of source s: it is of the kind of the source, took so many values, and has this total
pub record IsHandler {H : Type 0} (kind : H → Kind) (times total : H → ℕ) (plan : PlanView) (count sum : ℕ) (s : ℕ) (handlers : List H) : Type 0 where
  pub handler : H
  pub at : slice_get handlers (sources_before plan s) ≡ Some handler
  pub kind_is : kind_of plan s ≡ Some (kind handler)
  pub times_is : times handler ≡ count
  pub total_is : total handler ≡ sum

-- one handler for each source, by number: with so many values taken, and such a total
pub record AreHandlers {H : Type 0} (kind : H → Kind) (times total : H → ℕ) (plan : PlanView) (counts sums : ℕ → ℕ) (handlers : List H) : Type 0 where
  pub count : length handlers ≡ sources_before plan (length plan.objects)
  pub each : (s : ℕ) → is_source plan s ≡ true → IsHandler kind times total plan (counts s) (sums s) s handlers
