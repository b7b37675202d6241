use Rattle.std.proofs.Common.{◌≡◌, ◌<◌, ◌++◌, ◌-◌, ℕ, List, true, length}
use Rattle.gcd_event.specs.declared.event.Event.{Event}
use Rattle.gcd_history.specs.History.{is_live_feed}
use Rattle.gcd_machine.specs.Stands.{StandsFor}
use Rattle.gcd_outer.specs.Tells.{PollerState}
use Rattle.gcd_turn.specs.Asked.{KeepsListens}
use Rattle.gcd_turn.specs.Hearing.{Heard}
use Rattle.gcd_turn.specs.Turns.{OutlookView}
use Rattle.gcd_turn.proofs.steps.watch_new.Given as goal

abbrev pub invariant-loop-src : goal.invariant-loop-src
invariant-loop-src g l = record {
  watched : (h : List Event) → StandsFor l.machine l.plan h → (s : ℕ) → s < l.from → is_live_feed l.plan h s ≡ true
      → (g.P.Poller.state l.poller).watched s ≡ true;
  heard : (stood placed : List Event) (before : PollerState) (o : OutlookView) → StandsFor l.machine l.plan (stood ++ placed)
      → g.P.Poller.tells ≡ true → Heard l.plan stood placed before (g.P.Poller.state l.initial.poller) o
      → Heard l.plan stood placed before (g.P.Poller.state l.poller) o;
  kept : KeepsListens g.P.Poller.tells (g.P.Poller.state l.initial.poller) (g.P.Poller.state l.poller);
  faults : (g.P.Poller.state l.poller).faults ≡ (g.P.Poller.state l.initial.poller).faults;
}

abbrev pub decreases-loop-src : goal.decreases-loop-src
decreases-loop-src g l = length l.plan.objects - l.from
