-- What a run by rounds promises, at its end.
use Rattle.std.proofs.Common.{◌≡◌, ℕ, List, [], subst, sym, false}
use Rattle.gcd_plan.specs.PlanView.{PlanView}
use Rattle.gcd_plan.specs.declared.kind.Kind.{Kind}
use Rattle.gcd_event.specs.declared.event.Event.{Event}
use Rattle.gcd_outer.specs.Outside.{ClockState, Seen}
use Rattle.gcd_outer.specs.Tells.{PollerState}
use Rattle.gcd_history.specs.Intake.{AcceptsNone}
use Rattle.gcd_loop.specs.Going.{IsRunOn}
use Rattle.gcd_loop.specs.Ran.{RunsPlan}
use Rattle.gcd_loop.proofs.Steps.{runs_plan}
use Rattle.gcd_rounds.specs.Running.{AtTurn, turn_sight}
use Rattle.gcd_rounds.specs.declared.round.Round.{Round}

pub rounds_ran : {J H : Type 0} (gives : J → ℕ → ℕ → Type 0) (kind : H → Kind) (times total : H → ℕ) (o : Round J H) (most : ℕ) (plan : PlanView) (workers : ℕ)
    (left : List Event) (poller : Seen PollerState) (clock : Seen ClockState) → left ≡ o.run.journal.items → o.run.terms.most ≡ most → o.plan.now ≡ plan → o.run.terms.workers ≡ workers → AtTurn gives kind times total o
    → ((s : ℕ) → poller.before.watched s ≡ false) → IsRunOn most plan [] o.run.journal.items poller clock
    → RunsPlan most plan workers AcceptsNone poller clock left
rounds_ran gives kind times total o most plan workers left poller clock left_is most_is plan_is workers_is at unwatched on =
    let h = o.run.journal.items in
    let here : IsRunOn o.run.terms.most o.plan.now [] h poller clock =
    subst (λ (n : ℕ). IsRunOn n o.plan.now [] h poller clock) (sym most_is) (subst (λ (q : PlanView). IsRunOn most q [] h poller clock) (sym plan_is) on) in
    let all : RunsPlan o.run.terms.most o.plan.now o.run.terms.workers AcceptsNone poller clock h =
    runs_plan o.run.terms.most o.plan.now o.run.terms.workers AcceptsNone h o.run.machine poller clock (turn_sight gives kind times total o at)
    at.run.by at.run.chosen at.run.uncalled unwatched here in
    subst (λ (l : List Event). RunsPlan most plan workers AcceptsNone poller clock l) (sym left_is)
    (subst (λ (n : ℕ). RunsPlan n plan workers AcceptsNone poller clock h) most_is
    (subst (λ (q : PlanView). RunsPlan o.run.terms.most q workers AcceptsNone poller clock h) plan_is
    (subst (λ (n : ℕ). RunsPlan o.run.terms.most o.plan.now n AcceptsNone poller clock h) workers_is all)))
