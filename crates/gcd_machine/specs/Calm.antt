-- Where nothing can come of the outside (this project's own rule).
use Rattle.std.specs.Prelude.{◌≡◌, ℕ, ◌==◌, Bool, false, not, ◌&&◌, List, None, is_none, count_by}
use Rattle.gcd_plan.specs.PlanView.{PlanView}
use Rattle.gcd_event.specs.declared.event.Event.{Event}
use Rattle.gcd_history.specs.History.{expiry_of, is_intake_open, is_live_feed, next_due_of}
use Rattle.gcd_refinement.specs.MachineView.{MachineView, next_due_in}
use Rattle.gcd_machine.specs.Judged.{is_intake_open_at}

-- no read source is live, no due time is left, no wait may expire, and no intake is open: so neither poller nor clock nor outside
-- callers have anything to tell
pub record IsCalm (plan : PlanView) (h : List Event) : Type 0 where
  pub no_feed : (s : ℕ) → is_live_feed plan h s ≡ false
  pub no_time : next_due_of plan h ≡ None
  pub no_expiry : expiry_of plan h ≡ None
  pub no_intake : is_intake_open plan h ≡ false

-- it is so, as what a machine keeps tells it
abbrev pub is_calm_at : MachineView → Bool
is_calm_at m =
    not (is_intake_open_at m) && (count_by (λ b. b) m.live == 0 && (count_by (λ b. b) m.ripe == 0 && is_none (next_due_in m)))
