-- What each block of a run of jobs has: its job, and once that ran its value.
use Rattle.std.specs.Prelude.{◌≡◌, ◌<◌, ℕ, true, false, List, length, Option, Some, None, slice_get, slice_set}
use Rattle.gcd_plan.specs.Made.{is_of_intake}
use Rattle.gcd_plan.specs.PlanView.{PlanView}
use Rattle.gcd_event.specs.declared.event.Event.{Event}
use Rattle.gcd_jobs.specs.BlockValues.{has_given}
use Rattle.gcd_workers.specs.declared.job_state.JobState.{JobState}
use Rattle.gcd_workers.specs.declared.job_state.JobState.TheVariants.{Waits, Gave}

module _ {J : Type 0} where
  -- the value that a job gave, if it ran
  abbrev pub said : JobState J → Option ℕ
  said (Waits job) = None
  said (Gave value) = Some value

  -- a block that has given its value has that, and each other its job
  pub record AreStates (plan : PlanView) (h : List Event) (states : List (JobState J)) : Type 0 where
    pub count : length states ≡ length plan.blocks
    pub waits : (b : ℕ) → b < length plan.blocks → has_given plan h b ≡ false → (job : J) × (slice_get states b ≡ Some (Waits job))
    pub gave : (b : ℕ) → b < length plan.blocks → has_given plan h b ≡ true → (value : ℕ) × (slice_get states b ≡ Some (Gave value))

  module _ (gives : J → ℕ → ℕ → Type 0) where
    -- what a block may come to: what its job may give, or what that gave
    abbrev pub may_come : JobState J → ℕ → Type 0
    may_come (Waits job) value = gives job 0 value
    may_come (Gave it) value = value ≡ it

    -- block b may come to this value
    pub record MayCome (states : List (JobState J)) (b value : ℕ) : Type 0 where
      pub state : JobState J
      pub at : slice_get states b ≡ Some state
      pub may : may_come state value

    -- no block may come to another value than before
    abbrev pub ComesToNoMore : (old new : List (JobState J)) → Type 0
    ComesToNoMore old new = (b value : ℕ) → MayCome new b value → MayCome old b value

    -- the job of block b has run
    pub record HasRun (b : ℕ) (old new : List (JobState J)) : Type 0 where
      pub job : J
      pub value : ℕ
      pub was : slice_get old b ≡ Some (Waits job)
      pub given : gives job 0 value
      pub is : new ≡ slice_set old b (Gave value)

    -- a block that is not of the intake comes to what its own job may give
    abbrev pub AreOwn : PlanView → (jobs : List J) → (states : List (JobState J)) → Type 0
    AreOwn plan jobs states = (b value : ℕ) → is_of_intake plan b ≡ false → MayCome states b value
        → (job : J) × (slice_get jobs b ≡ Some job) × gives job 0 value
