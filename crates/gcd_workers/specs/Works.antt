-- The works of a plan over its files, as jobs.
use Rattle.std.specs.Prelude.{◌≡◌, ℕ, List, length, Some, slice_get}
use Rattle.gcd_plan.specs.PlanView.{PlanView}
use Rattle.gcd_history.specs.Values.{value_of}
use Rattle.gcd_jobs.specs.Jobs.{job_value}
use Rattle.gcd_jobs.specs.declared.file_job.FileJob.{FileJob}

-- the jobs are those of the first n blocks' works, by number
pub record AreJobs (plan : PlanView) (files : List (List ℕ)) (n : ℕ) (jobs : List FileJob) : Type 0 where
  pub count : length jobs ≡ n
  pub works : (b : ℕ) (job : FileJob) → slice_get jobs b ≡ Some job → job_value job ≡ value_of plan files b
