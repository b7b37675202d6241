-- What is asked in the later steps of a turn is asked in the turn.
use Rattle.std.proofs.Common.{◌≡◌, ℕ, false, List, inr}
use Rattle.gcd_plan.specs.PlanView.{PlanView}
use Rattle.gcd_event.specs.declared.event.Event.{Event}
use Rattle.gcd_history.specs.History.{is_intake_open}
use Rattle.gcd_outer.specs.Outside.{ClockState, Seen}
use Rattle.gcd_outer.specs.Tells.{PollerState}
use Rattle.gcd_turn.specs.Asked.{IsAsked, IsAskedOn}
use Rattle.gcd_turn.specs.Turns.{OutlookView}
use Rattle.gcd_turn.specs.declared.ask.Ask.{Ask}
use Rattle.gcd_turn.specs.declared.ask.Ask.TheVariants.{Leave, Told, Open, Put, Work}

pub asked_later : (most : ℕ) (plan : PlanView) (h : List Event) (o : OutlookView) (clock : Seen ClockState) (p q : PollerState) (a : Ask)
    → is_intake_open plan h ≡ false → IsAskedOn most plan h o clock p q a → IsAsked most plan h o clock p q a
asked_later most plan h o clock p q Leave shut later = absurd later
asked_later most plan h o clock p q (Told e) shut later = absurd later
asked_later most plan h o clock p q (Open chosen) shut later = absurd later
asked_later most plan h o clock p q (Put e) shut later = (later.0, later.1, inr shut)
asked_later most plan h o clock p q (Work chosen left) shut later = (later.0, later.1, later.2, later.3, shut, later.4)
