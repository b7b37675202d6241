-- The Ends that are kept back, and their jobs.
use Rattle.std.specs.Prelude.{◌≡◌, ◌<◌, ◌++◌, ◌∷◌, [], ℕ, true, false, List, Option, Some, None, map, reverse, slice_get, slice_set}
use Rattle.gcd_plan.specs.PlanView.{PlanView}
use Rattle.gcd_plan.specs.declared.numbers.Run.TheVariants.{Block}
use Rattle.gcd_event.specs.declared.event.Event.{Event}
use Rattle.gcd_event.specs.declared.event.Event.TheVariants.{End}
use Rattle.gcd_history.specs.History.{choice_of, is_block_cancelled}
use Rattle.gcd_history.specs.Permitted.{has_act_left, is_known}
use Rattle.gcd_history.specs.Team.{held_by}
use Rattle.gcd_rounds.specs.declared.kept.Done.{Done}
use Rattle.gcd_rounds.specs.declared.kept.Ending.{Ending}
use Rattle.gcd_rounds.specs.declared.kept.Kept.{Kept}

-- the job of block b is there
pub record IsThere {J : Type 0} (jobs : List (Option J)) (b : ℕ) : Type 0 where
  pub job : J
  pub at : slice_get jobs b ≡ Some (Some job)

-- the job of a block was taken, and is kept back with the End
pub record WasKept {J : Type 0} (jobs later : List (Option J)) (ending : Ending) (kept more : List (Kept J)) : Type 0 where
  pub job : J
  pub at : slice_get jobs ending.blk.0 ≡ Some (Some job)
  pub taken : later ≡ slice_set jobs ending.blk.0 None
  pub added : more ≡ kept ++ record { ending = ending; job = job } ∷ []

-- the Ends of what was kept back
abbrev pub endings_of : {J : Type 0} → List (Kept J) → List Ending
endings_of kept = map (λ k. k.ending) kept

-- the worker holds the block, which has no act left: this End comes next of it; and the block is not cancelled, so its job runs first
pub record IsAtEnd (plan : PlanView) (h : List Event) (e : Ending) : Type 0 where
  pub known : is_known plan (End e.worker e.blk) ≡ true
  pub held : held_by plan h e.worker ≡ Some (Block e.blk)
  pub done : has_act_left plan (reverse h) (Block e.blk) ≡ false
  pub works : is_block_cancelled plan h e.blk.0 ≡ false

-- the Ends that are kept back, of workers below this number, in the order of the workers; a worker who is alone chooses its End
pub record AreKept (plan : PlanView) (workers : ℕ) (h : List Event) (ends : List Ending) : Type 0 where
  pub at_end : (i : ℕ) (e : Ending) → slice_get ends i ≡ Some e → IsAtEnd plan h e
  pub below : (i : ℕ) (e : Ending) → slice_get ends i ≡ Some e → e.worker < workers
  pub apart : (i k : ℕ) (e f : Ending) → i < k → slice_get ends i ≡ Some e → slice_get ends k ≡ Some f → e.worker < f.worker
  pub chosen : workers ≡ 1 → (i : ℕ) (e : Ending) → slice_get ends i ≡ Some e → choice_of plan h 0 0 ≡ Some (End e.worker e.blk)

-- each of these Ends is of a worker below the number
abbrev pub EndBefore : (worker : ℕ) → List Ending → Type 0
EndBefore worker ends = (i : ℕ) (e : Ending) → slice_get ends i ≡ Some e → e.worker < worker

-- none of these Ends is the worker's
abbrev pub EndOthers : (worker : ℕ) → List Ending → Type 0
EndOthers worker ends = (i : ℕ) (e : Ending) → slice_get ends i ≡ Some e → e.worker ≡ worker → ⊥

-- what was kept back has the jobs of its blocks
abbrev pub HaveJobs : {J : Type 0} → (first : List J) → List (Kept J) → Type 0
HaveJobs first kept = (i : ℕ) (k : Kept _) → slice_get kept i ≡ Some k → slice_get first k.ending.blk.0 ≡ Some k.job

-- the job of what was kept back gave the value
pub record IsDone {J : Type 0} (gives : J → ℕ → ℕ → Type 0) (kept : Kept J) (done : Done) : Type 0 where
  pub same : done.ending ≡ kept.ending
  pub given : gives kept.job 0 done.value

-- the value is one that the job of its block may give
pub record HasValue {J : Type 0} (gives : J → ℕ → ℕ → Type 0) (first : List J) (done : Done) : Type 0 where
  pub job : J
  pub job_of : slice_get first done.ending.blk.0 ≡ Some job
  pub given : gives job 0 done.value

abbrev pub HaveValues : {J : Type 0} → (gives : J → ℕ → ℕ → Type 0) → (first : List J) → List Done → Type 0
HaveValues gives first dones = (i : ℕ) (d : Done) → slice_get dones i ≡ Some d → HasValue gives first d

-- the Ends of which the jobs have run
abbrev pub dones_of : List Done → List Ending
dones_of dones = map (λ d. d.ending) dones
