-- What a run over its files promises, as a run that is over.
use Rattle.std.proofs.Common.{◌≡◌, ℕ, List, subst, inl, inr}
use Rattle.gcd_plan.specs.PlanView.{PlanView}
use Rattle.gcd_event.specs.declared.event.Event.{Event}
use Rattle.gcd_history.specs.Ends.{HasEnded, HasState, IsFull, IsGoingOn}
use Rattle.gcd_history.specs.declared.state.State.{State}
use Rattle.gcd_history.specs.declared.state.State.TheVariants.{Live}
use Rattle.gcd_outer.specs.Outside.{ClockState, Seen}
use Rattle.gcd_outer.specs.Tells.{PollerState}
use Rattle.gcd_history.specs.Intake.{AcceptsNone}
use Rattle.gcd_workers.specs.Ran.{RunsOverFiles}
use Rattle.gcd_workers.specs.declared.outcome.Outcome.{Outcome}
use Rattle.gcd_workers.specs.declared.over.Over.{Over}
use Rattle.gcd_commands.specs.Runs.{Ran}

-- a run that has ended and goes on is full
pub full_of : (most : ℕ) (plan : PlanView) (h : List Event) (state : State) → HasState plan h state → HasEnded most plan h → state ≡ Live → IsFull most plan h
full_of most plan h state is ended live =
    let going : IsGoingOn plan h = subst (HasState plan h) live is in
    record {
      whole = elim ended [
        | inl quiet ↦ absurd (going.unquiet quiet)
        | inr more ↦ elim more [
          | inl halted ↦ let no_halt = going.unhalted in absurd cc
          | inr whole ↦ whole
        ]
      ];
      going_on = going;
    }

pub ran_is : (over : Over) (workers : ℕ) (poller : Seen PollerState) (clock : Seen ClockState) (o : Outcome) → RunsOverFiles over workers poller clock o
    → Ran poller clock over.plan.now workers over.most AcceptsNone o.journal.items o.state
ran_is over workers poller clock o r = record {
  run = r.run;
  over = record { state_is = r.state_is; full = full_of over.most over.plan.now o.journal.items o.state r.state_is r.run.ended };
}
