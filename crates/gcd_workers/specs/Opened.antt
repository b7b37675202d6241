-- The cells of a board whose row begins with what a list has kept.
use Rattle.std.specs.Prelude.{◌≡◌, ◌+◌, ◌<◌, ℕ, true, false, List, None, Some, length, slice_get}
use Rattle.gcd_plan.specs.PlanView.{PlanView}
use Rattle.gcd_event.specs.declared.event.Event.{Event}
use Rattle.gcd_history.specs.History.{is_ended}
use Rattle.gcd_history.specs.Team.{held_by}
use Rattle.gcd_history.specs.Values.{value_of}
use Rattle.gcd_jobs.specs.Contents.{contents}
use Rattle.gcd_jobs.specs.Jobs.{job_value}
use Rattle.gcd_jobs.specs.declared.file_job.FileJob.{FileJob}
use Rattle.gcd_jobs.specs.declared.tally.Tally.{Tally}
use Rattle.gcd_row.specs.Lying.{source_shape}
use Rattle.gcd_row.specs.declared.cell.Cell.{Cell}
use Rattle.gcd_row.specs.declared.cell.Cell.TheVariants.{Body, Done}
use Rattle.gcd_workers.specs.JobsRuns.{tally_shape}
use Rattle.gcd_workers.specs.Teams.{EachFrom}
use Rattle.gcd_workers.specs.declared.list_run.Kept.{Kept}
use Rattle.gcd_workers.specs.declared.over.Over.{Over}

-- a work's job gives its value, at each input
abbrev pub file_gives : FileJob → ℕ → ℕ → Type 0
file_gives job input value = value ≡ job_value job

-- the job gives the value of block b
abbrev pub IsJobOf : PlanView → (files : List (List ℕ)) → ℕ → FileJob → Type 0
IsJobOf plan files b job = job_value job ≡ value_of plan files b

-- the cell of block b: the value that the list gives it where it has ended, and else its job
pub record IsBlockCell (plan : PlanView) (files : List (List ℕ)) (h : List Event) (given : List ℕ) (b : ℕ) (c : Cell FileJob Tally) : Type 0 where
  pub ended : is_ended h b ≡ true → (v : ℕ) × (slice_get given b ≡ Some v) × (c ≡ Done v)
  pub other : is_ended h b ≡ false → (job : FileJob) × (c ≡ Body job) × IsJobOf plan files b job

-- the cell of a slot, which is a block's or, behind those, an object's, in which lies what a row's rule wants there
pub record IsCellOf (plan : PlanView) (files : List (List ℕ)) (h : List Event) (given : List ℕ) (slot : ℕ) (c : Cell FileJob Tally) : Type 0 where
  pub block : slot < length plan.blocks → IsBlockCell plan files h given slot c
  pub object : (o : ℕ) → slot ≡ length plan.blocks + o → tally_shape c ≡ source_shape plan h o

-- the cells are those of the slots after what a list has kept
pub record AreCellsOf (over : Over) (kept : Kept) (cells : List (Cell FileJob Tally)) : Type 0 where
  pub count : length cells ≡ length over.plan.now.blocks + length over.plan.now.objects
  pub each : EachFrom (IsCellOf over.plan.now (contents over.files.now) kept.journal.items kept.values.items) 0 cells

-- a team can go on from here: worker 0 holds no run
abbrev pub IsStopped : PlanView → List Event → Type 0
IsStopped plan h = held_by plan h 0 ≡ None
