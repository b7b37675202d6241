-- Jobs by a function of the block.
use Rattle.std.specs.Prelude.{◌≡◌, ℕ, List, Some, length, slice_get}
use Rattle.gcd_plan.specs.PlanView.{PlanView}
use Rattle.gcd_plan.specs.declared.numbers.Blk.{Blk}
use Rattle.gcd_workers.specs.JobsRuns.{RunsJobs}
use Rattle.gcd_workers.specs.declared.ran.Ran.{Ran}

-- each job is one that the function gives for the block at its place
abbrev pub AreMadeBy : {J : Type 0} → (gives : Blk → J → Type 0) → List J → Type 0
AreMadeBy {J} gives jobs = (b : ℕ) (job : J) → slice_get jobs b ≡ Some job → gives (record { 0 = b }) job

-- the run of jobs that the function gives, one for each block
pub record RunsJobsOf {J : Type 0} (makes : Blk → J → Type 0) (gives : J → ℕ → ℕ → Type 0) (most : ℕ) (plan : PlanView) (workers : ℕ) (ran : Ran) : Type 0 where
  pub jobs : List J
  pub count : length jobs ≡ length plan.blocks
  pub made : AreMadeBy makes jobs
  pub runs : RunsJobs gives most plan jobs workers ran
