-- What a run of a caller's own jobs leaves.
use Rattle.std.specs.Prelude.{◌≡◌, ◌<◌, ◌≤◌, ◌⊎◌, ℕ, true, false, Contains, List, length, Option, Some, None, slice_get}
use Rattle.gcd_plan.specs.Limits.{max_workers}
use Rattle.gcd_plan.specs.PlanView.{PlanView}
use Rattle.gcd_event.specs.declared.event.Event.{Event}
use Rattle.gcd_event.specs.declared.event.Event.TheVariants.{Halt}
use Rattle.gcd_history.specs.Ends.{HasEnded, HasState}
use Rattle.gcd_history.specs.History.{IsLawful}
use Rattle.gcd_jobs.specs.BlockValues.{has_given}
use Rattle.gcd_jobs.specs.declared.tally.Tally.{Tally}
use Rattle.gcd_history.specs.Intake.{AcceptsNone}
use Rattle.gcd_loop.specs.Followed.{FollowsChoice, IsOfWorkers}
use Rattle.gcd_row.specs.Jobs.{Jobs}
use Rattle.gcd_row.specs.Shapes.{MayGive, Shape, shape_of}
use Rattle.gcd_row.specs.declared.cell.Cell.{Cell}
use Rattle.gcd_row.specs.declared.cell.Cell.TheVariants.{Body, Done}
use Rattle.gcd_workers.specs.declared.ran.Ran.{Ran}

-- a number of workers that a run may have
abbrev pub AreWorkers : (workers : ℕ) → Type 0
AreWorkers workers = (0 < workers) × (workers ≤ max_workers)

-- no number of workers that a run may have: none, or too many
abbrev pub IsNoTeam : (workers : ℕ) → Type 0
IsNoTeam workers = (workers ≡ 0) ⊎ (max_workers < workers)

-- the value of block b is one that its job may give at the input 0
pub record IsGiven {J : Type 0} (gives : J → ℕ → ℕ → Type 0) (jobs : List J) (values : List (Option ℕ)) (b : ℕ) : Type 0 where
  pub job : J
  pub value : ℕ
  pub job_of : slice_get jobs b ≡ Some job
  pub value_of : slice_get values b ≡ Some (Some value)
  pub given : gives job 0 value

-- for each block a value that its job may give where it has ended and is not cancelled, and else none
pub record AreGiven {J : Type 0} (gives : J → ℕ → ℕ → Type 0) (plan : PlanView) (jobs : List J) (h : List Event) (values : List (Option ℕ)) : Type 0 where
  pub count : length values ≡ length plan.blocks
  pub ended : (b : ℕ) → b < length plan.blocks → has_given plan h b ≡ true → IsGiven gives jobs values b
  pub others : (b : ℕ) → b < length plan.blocks → has_given plan h b ≡ false → slice_get values b ≡ Some None

-- The run of a plan with these jobs by so many workers, of at most `most` events: its journal is lawful and has ended, in this state; each
-- event is of one of the workers, and with one worker each event of a worker is what that worker chooses at its place; no job of an outside
-- caller is accepted, since there are none; nothing halts it from outside; and these are the values of the blocks.
pub record RunsJobs {J : Type 0} (gives : J → ℕ → ℕ → Type 0) (most : ℕ) (plan : PlanView) (jobs : List J) (workers : ℕ) (ran : Ran) : Type 0 where
  pub lawful : IsLawful plan ran.journal.items
  pub ended : HasEnded most plan ran.journal.items
  pub state_is : HasState plan ran.journal.items ran.state
  pub few : length ran.journal.items ≤ most
  pub by : IsOfWorkers workers ran.journal.items
  pub chosen : workers ≡ 1 → FollowsChoice plan ran.journal.items
  pub uncalled : AcceptsNone ran.journal.items
  pub unhalted : Contains ran.journal.items Halt → ⊥
  pub given : AreGiven gives plan jobs ran.journal.items ran.values.items

module _ {J : Type 0} where
  -- what lies in a slot
  abbrev pub tally_shape : Cell J Tally → Shape
  tally_shape = shape_of (λ t. t.kind) (λ t. t.times) (λ t. t.total)

  -- the jobs lie in the first slots, in order
  abbrev pub AreLaid : (jobs : List J) (cells : List (Cell J Tally)) → Type 0
  AreLaid jobs cells = (b : ℕ) (job : J) → slice_get jobs b ≡ Some job → slice_get cells b ≡ Some (Body job)

  -- the values of the first n blocks are what their slots have where they have ended and are not cancelled, and else none
  pub record AreTaken (plan : PlanView) (h : List Event) (cells : List (Cell J Tally)) (n : ℕ) (values : List (Option ℕ)) : Type 0 where
    pub count : length values ≡ n
    pub ended : (b v : ℕ) → b < n → has_given plan h b ≡ true → slice_get cells b ≡ Some (Done v) → slice_get values b ≡ Some (Some v)
    pub others : (b : ℕ) → b < n → has_given plan h b ≡ false → slice_get values b ≡ Some None

  -- each block of these jobs has a value that its job may give where it has ended and is not cancelled, and else none
  pub record AreOfJobs (gives : J → ℕ → ℕ → Type 0) (t : Jobs (Cell J Tally)) (h : List Event) (values : List (Option ℕ)) : Type 0 where
    pub count : length values ≡ length t.plan.blocks
    pub ended : (b : ℕ) → b < length t.plan.blocks → has_given t.plan h b ≡ true → (value : ℕ) × (slice_get values b ≡ Some (Some value)) × MayGive gives t b value
    pub others : (b : ℕ) → b < length t.plan.blocks → has_given t.plan h b ≡ false → slice_get values b ≡ Some None
