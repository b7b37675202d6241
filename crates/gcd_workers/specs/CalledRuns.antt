-- What a run leaves whose work comes from outside.
use Rattle.std.specs.Prelude.{◌≡◌, ◌<◌, ◌⊎◌, ◌++◌, ◌∷◌, [], ℕ, Contains, List, All, length, Some, replicate, slice_get, slice_index_or, ◌≤◌}
use Rattle.gcd_plan.specs.Limits.{max_events}
use Rattle.gcd_plan.specs.PlanView.{PlanView}
use Rattle.gcd_event.specs.declared.event.Event.TheVariants.{Halt}
use Rattle.gcd_front.specs.Limits.{max_senders}
use Rattle.gcd_front.specs.Fronts.{IsLeftOf, IsMouthOf, IsTakenOf, new_mouths}
use Rattle.gcd_front.specs.Views.{FrontView, IntakeView, LeftView, MouthView, left_of}
use Rattle.gcd_workers.specs.CallersRuns.{RunsFront}
use Rattle.gcd_workers.specs.Met.{Met}
use Rattle.gcd_workers.specs.declared.called.Called.{Called}
use Rattle.gcd_workers.specs.declared.called.Called.TheVariants.{Nothing, Sent}
use Rattle.gcd_workers.specs.declared.jobs_input.JobsInput.{JobsInput}
use Rattle.gcd_workers.specs.declared.ran.Ran.{Ran}

-- what the job may give, at each input: 0 where it has nothing of its own, and else what the job that was sent may give
abbrev pub called_gives : {X : Type 0} → (sent : X → ℕ → Type 0) → Called X → ℕ → ℕ → Type 0
called_gives sent Nothing input value = value ≡ 0
called_gives sent (Sent job) input value = sent job value

-- no number of senders that a run may have: none, or too many
abbrev pub IsNoCrowd : (senders : ℕ) → Type 0
IsNoCrowd senders = (senders ≡ 0) ⊎ (max_senders < senders)

-- for each of so many blocks a job that does nothing
abbrev pub nothings : {X : Type 0} → ℕ → List (Called X)
nothings n = replicate n Nothing

module _ {X : Type 0} where
  -- the mouth at each place is of the same sender as before
  abbrev pub SendersStay : (old new : List (MouthView X)) → Type 0
  SendersStay old new = (k : ℕ) (d : MouthView X) → k < length old → (slice_index_or new k d).sender ≡ (slice_index_or old k d).sender

  -- the mouth at place k is that of sender k
  abbrev pub AreBySender : List (MouthView X) → Type 0
  AreBySender mouths = (k : ℕ) (m : MouthView X) → slice_get mouths k ≡ Some m → m.sender ≡ k

  -- what is left of these mouths, of the last one first
  abbrev pub lefts_of : List (MouthView X) → List (LeftView X)
  lefts_of [] = []
  lefts_of (m ∷ mouths) = lefts_of mouths ++ left_of m ∷ []

  -- the last of the mouths was shut, and what is left of it is the last of those
  pub record ShutsLast (old new : List (MouthView X)) (before after : List (LeftView X)) : Type 0 where
    pub mouth : MouthView X
    pub last : old ≡ new ++ mouth ∷ []
    pub left : after ≡ before ++ left_of mouth ∷ []

  -- they are the mouths of a new front, of which none was shut, and there is room for what is left of each
  pub record AreNew (f : FrontView) (mouths : List (MouthView X)) (lefts : List (LeftView X)) (room : ℕ) : Type 0 where
    pub of_front : All (IsMouthOf f) mouths
    pub new : mouths ≡ new_mouths f
    pub none : lefts ≡ []
    pub enough : length mouths ≤ room

  -- there are mouths of the front, one for each sender, by number, that the callers leave so, and this is left of them
  pub record HaveCalled (leave : List (MouthView X) → Type 0) (f : FrontView) (lefts : List (LeftView X)) : Type 0 where
    pub mouths : List (MouthView X)
    pub count : length mouths ≡ f.senders
    pub by_sender : AreBySender mouths
    pub called : leave mouths
    pub left : lefts ≡ lefts_of mouths
    pub of_front : All (IsLeftOf f) lefts

-- The run of what was given beside callers: there are a front with so many senders and its intake, beside which it promises what such a run
-- does (`RunsFront`), and a mouth of each sender, by number, which the callers left as they say. What was taken of a sender is how the jobs
-- begin that were sent through its mouth (`IsTakenOf`).
pub record RunsBeside {J X : Type 0} (gives : J → ℕ → ℕ → Type 0) (sent : X → ℕ → Type 0) (leave : List (MouthView X) → Type 0) (d : JobsInput J)
    (senders : ℕ) (outside : Met) (ran : Ran) : Type 0 where
  pub front : FrontView
  pub intake : IntakeView X
  pub mouths : List (MouthView X)
  pub of_front : front.senders ≡ senders
  pub count : length mouths ≡ senders
  pub by_sender : AreBySender mouths
  pub runs : RunsFront gives sent d front intake outside.poller outside.clock ran
  pub called : leave mouths
  pub taken : (k : ℕ) (m : MouthView X) → slice_get mouths k ≡ Some m → IsTakenOf front intake k m.sent

-- The run of a plan beside callers, by so many workers, with the outside in memory: the plan's own blocks do nothing, and there are a poller
-- and a clock, with which it promises what a run beside callers does (`RunsBeside`). Nothing halts it from outside.
pub record RunsCallers {X : Type 0} (sent : X → ℕ → Type 0) (leave : List (MouthView X) → Type 0) (plan : PlanView) (workers senders : ℕ)
    (ran : Ran) : Type 0 where
  pub given : JobsInput (Called X)
  pub plan_is : given.plan.now ≡ plan
  pub workers_is : given.workers ≡ workers
  pub most_is : given.most ≡ max_events
  pub jobs_are : given.jobs.items ≡ nothings (length plan.blocks)
  pub outside : Met
  pub runs : RunsBeside (called_gives sent) sent leave given senders outside ran
  pub unhalted : Contains ran.journal.items Halt → ⊥
