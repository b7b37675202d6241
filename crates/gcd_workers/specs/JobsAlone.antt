-- What no step of worker 0 alone changes, and what it comes to.
use Rattle.std.specs.Prelude.{◌≡◌, ℕ, List}
use Rattle.gcd_event.specs.declared.event.Event.{Event}
use Rattle.gcd_history.specs.Ends.{HasEnded}
use Rattle.gcd_front.specs.Views.{FrontView, IntakeView}
use Rattle.gcd_turn.specs.Outsides.{Faced}
use Rattle.gcd_loop.specs.Going.{GoesOn}
use Rattle.gcd_workers.specs.JobsKept.{IsAlone}
use Rattle.gcd_workers.specs.declared.jobs_alone.Alone.{Alone}
use Rattle.gcd_workers.specs.declared.jobs_kept.JobsGiven.{JobsGiven}
use Rattle.gcd_workers.specs.declared.jobs_kept.JobsKept.{JobsKept}

-- what it was given, its front, and whose list and intake it has
pub record KeepsAlone {J X : Type 0} (old new : Alone J X) : Type 0 where
  pub given : new.given.now ≡ old.given.now
  pub front : new.front.now ≡ old.front.now
  pub kept : new.kept.ghost_name ≡ old.kept.ghost_name
  pub intake : new.intake.ghost_name ≡ old.intake.ghost_name

-- worker 0 alone went on from a history to the end, and what poller and clock said since stands in what came since
pub record HasGoneAlone {J X : Type 0} (gives : J → ℕ → ℕ → Type 0) (sent : X → ℕ → Type 0) (given : JobsGiven J) (h : List Event) (last : JobsKept J)
    (f : FrontView) (i : IntakeView X) (faced : Faced) : Type 0 where
  pub ended : HasEnded given.most given.plan.now last.journal.items
  pub going : GoesOn (record { plan = given.plan.now; most = given.most }) h last.journal.items faced
  pub alone : IsAlone gives sent given last f i
