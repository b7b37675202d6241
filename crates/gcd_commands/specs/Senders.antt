-- What senders hand in, and what a run beside them leaves.
use Rattle.std.specs.Prelude.{◌≡◌, ◌<◌, ◌*◌, ◌+◌, ℕ, List, [], Some, length, map, slice_get, slice_index_or}
use Rattle.std.specs.List.{range_with_len}
use Rattle.gcd_front.specs.Fronts.{IsMouthOf}
use Rattle.gcd_front.specs.Views.{FrontView, MouthView, mouth_of}
use Rattle.gcd_jobs.specs.Jobs.{job_value}
use Rattle.gcd_outer.specs.Outside.{ClockState, Seen}
use Rattle.gcd_outer.specs.Tells.{PollerState}
use Rattle.gcd_workers.specs.CalledRuns.{RunsBeside}
use Rattle.gcd_workers.specs.declared.jobs_input.JobsInput.{JobsInput}
use Rattle.gcd_workers.specs.declared.ran.Ran.{Ran}
use Rattle.gcd_commands.specs.declared.front_job.FrontJob.{FrontJob}
use Rattle.gcd_commands.specs.declared.front_job.FrontJob.TheVariants.{File, Told as FromSender}
use Rattle.gcd_commands.specs.declared.front_job.Told.{Told}

-- the value of a job
abbrev pub front_value : FrontJob → ℕ
front_value (File job) = job_value job
front_value (FromSender told) = told.0

-- the k-th job of sender s, from 1, gives 1000 s + k
abbrev pub told : (s k : ℕ) → Told
told s k = record { 0 = 1000 * s + k }

-- the first n jobs of sender s, in order
abbrev pub told_by : (s n : ℕ) → List Told
told_by s n = map (told s) (range_with_len 1 n)

-- it is a mouth of the front, and nothing was sent through it
pub record IsOpen (f : FrontView) (mouth : MouthView Told) : Type 0 where
  pub of_front : IsMouthOf f mouth
  pub none : mouth.sent ≡ []

-- so many jobs were sent through it, those of its sender
abbrev pub Sends : (share : ℕ) → (old new : MouthView Told) → Type 0
Sends share old new = new ≡ mouth_of old.front old.sender (told_by old.sender share)

-- so it is of each
abbrev pub EachSends : (share : ℕ) → (old new : List (MouthView Told)) → Type 0
EachSends share old new = (k : ℕ) (d : MouthView Told) → k < length old → Sends share (slice_index_or old k d) (slice_index_or new k d)

-- through the mouth at place s so many jobs were sent, those of sender s
abbrev pub HaveSent : (share : ℕ) → List (MouthView Told) → Type 0
HaveSent share mouths = (s : ℕ) (m : MouthView Told) → slice_get mouths s ≡ Some m → m.sent ≡ told_by s share

-- what the run of what was given has left beside so many senders, each of which handed in its share of the jobs for so many blocks
abbrev pub HasRun : (d : JobsInput FrontJob) (senders share : ℕ) → Seen PollerState → Seen ClockState → Ran → Type 0
HasRun d senders share poller clock ran =
    RunsBeside (λ job input value. value ≡ front_value job) (λ told value. value ≡ told.0) (HaveSent share) d senders (record { poller = poller; clock = clock }) ran
