-- What the jobs of this crate give (this project's own rule).
use Rattle.std.specs.Prelude.{◌≡◌, ℕ, Option, Some, None}
use Rattle.gcd_history.specs.Values.{work_value}
use Rattle.gcd_jobs.specs.Contents.{contents}
use Rattle.gcd_jobs.specs.declared.file_job.FileJob.{FileJob}
use Rattle.gcd_jobs.specs.declared.file_job.FileJob.TheVariants.{Nothing, Counting}

-- the value that the job gives, at each input
abbrev pub job_value : FileJob → ℕ
job_value Nothing = 0
job_value (Counting files work) = work_value (contents files.now) work

-- what a job may give where there is one; where there is none, 0
abbrev pub gives_or_zero : {J : Type 0} → (gives : J → ℕ → ℕ → Type 0) → Option J → ℕ → ℕ → Type 0
gives_or_zero gives (Some job) input value = gives job input value
gives_or_zero gives None input value = value ≡ 0
