-- What worker 0 of a pool took of outside callers, and what was accepted of it.
use Rattle.std.specs.Prelude.{◌≡◌, ◌<◌, ◌≤◌, ◌⊎◌, ℕ, Bool, true, false, List, [], ◌++◌, Option, Some, length, Result, Ok, slice_index_or}
use Rattle.std.specs.List.{AllZip, list_any}
use Rattle.gcd_plan.specs.PlanView.{PlanView}
use Rattle.gcd_plan.specs.declared.numbers.Blk.{Blk}
use Rattle.gcd_event.specs.declared.event.Event.{Event}
use Rattle.gcd_event.specs.declared.event.Event.TheVariants.{Accept}
use Rattle.gcd_history.specs.Ends.{is_halted}
use Rattle.gcd_history.specs.Facts.{is_of_callers}
use Rattle.gcd_history.specs.Intake.{AllAccepted, accepted, blocks_of_sender, shuts}
use Rattle.gcd_front.specs.Fronts.{IsIntakeOf, KnowsAll, TookAll}
use Rattle.gcd_front.specs.Limits.{max_senders}
use Rattle.gcd_front.specs.Queue.{jobs_of}
use Rattle.gcd_front.specs.Views.{FrontView, IntakeView}
use Rattle.gcd_row.specs.Jobs.{May, placed_jobs}
use Rattle.gcd_row.specs.Plays.{HandsOn}
use Rattle.gcd_row.specs.Passes.{machine_of, view}
use Rattle.gcd_row.specs.Shapes.{Shape}
use Rattle.gcd_row.specs.Views.{turning}
use Rattle.gcd_row.specs.declared.view.Next.TheVariants.{Laid}
use Rattle.gcd_row.specs.declared.view.View.{View}
use Rattle.gcd_loop.specs.Recorded.{IsSight, Says}
use Rattle.gcd_machine.specs.declared.put.Put.{Put}
use Rattle.gcd_machine.specs.declared.put.Put.TheVariants.{Placed, Barred, Held, Full}
use Rattle.gcd_outer.specs.Outside.{ClockState}
use Rattle.gcd_outer.specs.Tells.{PollerState}
use Rattle.gcd_outer.specs.declared.clock.Clock.{Ghosts as ClockGhosts}
use Rattle.gcd_outer.specs.declared.poller.Poller.{Ghosts as PollerGhosts}
use Rattle.gcd_turn.specs.declared.outside.Outside.{Outside}
use Rattle.gcd_pool.specs.Hands.{IsHandOf}
use Rattle.gcd_pool.specs.Leads.{IsHead, Leads, Led, bounds_of, head_left, head_sight}
use Rattle.gcd_pool.specs.declared.duty.Exit.{Exit}
use Rattle.gcd_pool.specs.declared.hand.Hand.{Hand}
use Rattle.gcd_pool.specs.declared.head.Head.{Head}
use Rattle.gcd_pool.specs.declared.hand.Pool.{Pool}

-- more is seen, and nothing of it is of outside callers
pub record AddsNoCall (h k : List Event) : Type 0 where
  pub rest : List Event
  pub split : k ≡ h ++ rest
  pub none : list_any is_of_callers rest ≡ false

-- the history is neither halted nor full
pub record IsUnderWay (most : ℕ) (h : List Event) : Type 0 where
  pub unhalted : is_halted h ≡ false
  pub room : length h < most

module _ {S X : Type 0} (gives : S → ℕ → Type 0) (sent : X → ℕ → Type 0) where
  -- the job of the block may give only what the job of the caller may
  abbrev pub IsTakenFor : View S → X → Blk → Type 0
  IsTakenFor v x b = (n : ℕ) → May gives (placed_jobs v) b.0 n → sent x n

  -- these jobs of a sender are those of the blocks that were accepted of it, in order
  abbrev pub AreTakenFor : View S → List X → ℕ → Type 0
  AreTakenFor v jobs s = AllZip (IsTakenFor v) jobs (blocks_of_sender v.seen s)

  -- the jobs that were taken of a sender begin with those of the blocks that were accepted of it
  pub record BeginWithTaken (v : View S) (jobs : List X) (s : ℕ) : Type 0 where
    pub front : List X
    pub rest : List X
    pub split : jobs ≡ front ++ rest
    pub taken : AreTakenFor v front s

  -- Of each sender the jobs that were taken begin with those of the blocks that were accepted of it; as long as the run is under way, and
  -- where a Shut stands, they are all of them. No sender has another number than the front's. Where a Shut stands, either each block of
  -- the intake is accepted, or all mouths were shut, and all that was sent was taken.
  pub record Admitted (f : FrontView) (v : View S) (i : IntakeView X) : Type 0 where
    pub first : (s : ℕ) → BeginWithTaken v (jobs_of s i.taken) s
    pub all : IsUnderWay v.terms.limits.most v.seen → (s : ℕ) → AreTakenFor v (jobs_of s i.taken) s
    pub senders : (s : ℕ) → f.senders ≤ s → blocks_of_sender v.seen s ≡ []
    pub shut : list_any shuts v.seen ≡ true → (s : ℕ) → AreTakenFor v (jobs_of s i.taken) s
    pub why_shut : list_any shuts v.seen ≡ true → AllAccepted v.terms.plan v.seen ⊎ (KnowsAll f i × TookAll i)

-- What worker 0 has handed in after an event of its own was put: with an Accept what it laid into the block's slot, and else nothing more.
-- It waits while a passed word holds the event, so it never answers `Held`.
abbrev pub HandedOn : {S : Type 0} → Event → View S → View S → Put → Type 0
HandedOn e v w (Placed n) = HandsOn (accepted e) v.handed w.handed
HandedOn e v w (Barred at y) = w.handed ≡ v.handed
HandedOn e v w (Held by passed) = ⊥
HandedOn e v w Full = (w.handed ≡ v.handed) × (length w.seen ≡ v.terms.limits.most)

-- worker 0 between two turns: its hand, with the intake of this front, which has no more senders than there may be, of which it accepted
-- what it took
pub record IsLeading {S X : Type 0} (shape : S → Shape) (gives : S → ℕ → Type 0) (sent : X → ℕ → Type 0) (pool : Pool S) (f : FrontView) (hand : Hand S) (i : IntakeView X) : Type 0 where
  pub head : IsHead shape gives pool hand
  pub few : f.senders ≤ max_senders
  pub of_front : IsIntakeOf f i
  pub admitted : Admitted gives sent f (view hand.pass) i

-- so its machine stands for what it has seen
pub leading_sight : {S X : Type 0} (shape : S → Shape) (gives : S → ℕ → Type 0) (sent : X → ℕ → Type 0) (pool : Pool S) (f : FrontView) (hand : Hand S) (i : IntakeView X)
    → IsLeading shape gives sent pool f hand i → IsSight (bounds_of pool).most (bounds_of pool).plan (view hand.pass).seen (machine_of hand.pass)
leading_sight shape gives sent pool f hand i is = head_sight shape gives pool hand is.head

-- what holds of worker 0 where the run has ended
pub record HasLed {S X : Type 0} (shape : S → Shape) (gives : S → ℕ → Type 0) (sent : X → ℕ → Type 0) (pool : Pool S) (f : FrontView) (hand : Hand S) (i : IntakeView X) : Type 0 where
  pub of : IsHandOf shape gives pool hand
  pub of_front : IsIntakeOf f i
  pub admitted : Admitted gives sent f (view hand.pass) i

pub leading_left : {S X : Type 0} (shape : S → Shape) (gives : S → ℕ → Type 0) (sent : X → ℕ → Type 0) (pool : Pool S) (f : FrontView) (hand : Hand S) (i : IntakeView X)
    → IsLeading shape gives sent pool f hand i → HasLed shape gives sent pool f hand i
leading_left shape gives sent pool f hand i is = record { of = head_left shape gives pool hand is.head; of_front = is.of_front; admitted = is.admitted }

-- what no step of worker 0 changes: its pool, its front, and whose hand and intake they are
pub record KeepsHead {S X : Type 0} (shape : S → Shape) (gives : S → ℕ → Type 0) (old new : Head S X) : Type 0 where
  pub leads : Leads shape gives old.pool.now old.hand.now new.hand.now
  pub pool : new.pool.now ≡ old.pool.now
  pub front : new.front.now ≡ old.front.now
  pub hand : new.hand.ghost_name ≡ old.hand.ghost_name
  pub intake : new.intake.ghost_name ≡ old.intake.ghost_name

-- the job of a sender was laid into the slot of block b, and its Accept was put
pub record IsAccepted {S X : Type 0} (gives : S → ℕ → Type 0) (sent : X → ℕ → Type 0) (most : ℕ) (plan : PlanView) (b : Blk) (sender : ℕ) (job : X) (v w : View S) (answer : Option Put) : Type 0 where
  pub put : Put
  pub is : answer ≡ Some put
  pub said : Says most plan (Accept b sender) v.seen w.seen put
  pub cell : S
  pub gives_that : (n : ℕ) → gives cell n → sent job n
  pub handed : HandedOn (Accept b sender) (turning v (Laid cell)) w put
  pub terms : w.terms ≡ v.terms

-- what worker 0 asks of its front and intake: they are of one front, and what was taken was accepted
abbrev pub AsksOfFront : {S X : Type 0} → (gives : S → ℕ → Type 0) → (sent : X → ℕ → Type 0) → FrontView → Hand S → IntakeView X → Type 0
AsksOfFront gives sent f hand i = (view hand.pass).worker ≡ 0 → (f.senders ≤ max_senders) × IsIntakeOf f i × Admitted gives sent f (view hand.pass) i

-- worker 0 has led, and what was taken was accepted
pub record LedWithFront {S X P C : Type 0} (poller_tells clock_tells : Bool) (poller : P → PollerState) (clock : C → ClockState) (gives : S → ℕ → Type 0) (sent : X → ℕ → Type 0) (f : FrontView) (alone done : Type 0) (old new : Hand S × IntakeView X × Outside P C) : Type 0 where
  pub led : Led poller_tells clock_tells poller clock alone done (old.0, old.2) (new.0, new.2)
  pub of_front : done → (view old.0.pass).worker ≡ 0 → IsIntakeOf f new.1
  pub admitted : done → (view old.0.pass).worker ≡ 0 → Admitted gives sent f (view new.0.pass) new.1

-- so has the first of these hands, and it is done if a run answers this: a team of one follows its choice
abbrev pub AreLed : {S X P C E : Type 0} → PollerGhosts P → ClockGhosts C → (gives : S → ℕ → Type 0) → (sent : X → ℕ → Type 0) → FrontView
    → Result Exit E → (old new : List (Hand S) × IntakeView X × Outside P C) → Type 0
AreLed {S} poller clock gives sent f result old new = (d : Hand S)
    → LedWithFront poller.tells clock.tells poller.state clock.state gives sent f (length old.0 ≡ 1) ((exit : Exit) × (result ≡ Ok exit))
    (slice_index_or old.0 0 d, old.1, old.2) (slice_index_or new.0 0 d, new.1, new.2)
