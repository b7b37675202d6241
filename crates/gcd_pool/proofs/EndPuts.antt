-- What has come of an end that was put.
use Rattle.std.proofs.Common.{◌≡◌, ℕ, true, List, Some, None, sym, subst, inl, inr}
use Rattle.gcd_plan.specs.PlanView.{PlanView}
use Rattle.gcd_plan.specs.declared.why.Why.{Why}
use Rattle.gcd_event.specs.declared.event.Event.{Event}
use Rattle.gcd_history.specs.Choice.{worker_of}
use Rattle.gcd_history.specs.Ends.{is_halted}
use Rattle.gcd_refinement.specs.MachineView.{MachineView}
use Rattle.gcd_machine.specs.Stands.{StandsFor}
use Rattle.gcd_machine.specs.declared.put.Put.TheVariants.{Placed, Barred, Held, Full}
use Rattle.gcd_row.specs.Shapes.{Shape}
use Rattle.gcd_row.specs.Passes.{IsPassOf, slots, view, machine_of}
use Rattle.gcd_row.specs.declared.board.RowBoard.{RowBoard}
use Rattle.gcd_row.specs.declared.pass.RowPass.{RowPass}
use Rattle.gcd_pool.specs.Hands.{IsSettled}
use Rattle.gcd_pool.specs.Throughs.{SaysThrough}
use Rattle.gcd_pool.specs.Works.{WasEndPut}
use Rattle.gcd_pool.specs.declared.turn.Turn.TheVariants.{Left, Ended, Stopped}
use Rattle.gcd_pool.proofs.Throughs.{barred_adds_none, barred_leaves, barred_none, full_length, outcome_adds, outcome_ended, outcome_ends, outcome_goes, outcome_leaves, outcome_only, outcome_settled, outcome_stops}
use Rattle.gcd_pool.proofs.Works.{ended_is_work}

module _ {S : Type 0} (shape : S → Shape) (gives : S → ℕ → Type 0) (board : RowBoard S) (before after : RowPass S) (e : Event) (is : IsPassOf shape gives board after) (settled : IsSettled shape (view before) e (slots before)) where
  pub end_placed : (n : ℕ) → SaysThrough shape gives board e before after (Placed n) → worker_of e ≡ (view before).worker → WasEndPut shape e before after (Some Ended)
  end_placed n said mine = record {
    goes = outcome_goes shape gives board e before after (Placed n) said;
    work = outcome_adds shape gives board e before after (Placed n) (ended_is_work e settled.run settled.ends) said;
    only = outcome_only shape gives board e before after (Placed n) said;
    recorded = outcome_ends shape gives board e settled.run before after n said settled.ends;
    says = outcome_ended shape gives board e before after n mine said settled;
  }

  pub end_full : SaysThrough shape gives board e before after Full → WasEndPut shape e before after (Some Left)
  end_full said = record {
    goes = outcome_goes shape gives board e before after Full said;
    work = outcome_adds shape gives board e before after Full (ended_is_work e settled.run settled.ends) said;
    only = outcome_only shape gives board e before after Full said;
    recorded = outcome_leaves shape gives board e before after said;
    says = inr (inr (full_length shape gives board e before after said));
  }

  pub end_held : (by passed : ℕ) → SaysThrough shape gives board e before after (Held by passed) → WasEndPut shape e before after (Some Stopped)
  end_held by passed said = record {
    goes = outcome_goes shape gives board e before after (Held by passed) said;
    work = outcome_adds shape gives board e before after (Held by passed) (ended_is_work e settled.run settled.ends) said;
    only = outcome_only shape gives board e before after (Held by passed) said;
    recorded = outcome_stops shape gives board e before after by passed said;
    says = tt;
  }

  pub end_halted : (at : ℕ) (y : Why) (m : MachineView) → SaysThrough shape gives board e before after (Barred at y) → m ≡ machine_of after
      → ((plan : PlanView) (h : List Event) → StandsFor m plan h → true ≡ is_halted h) → WasEndPut shape e before after (Some Left)
  end_halted at y m said same tells = record {
    goes = outcome_goes shape gives board e before after (Barred at y) said;
    work = outcome_adds shape gives board e before after (Barred at y) (ended_is_work e settled.run settled.ends) said;
    only = outcome_only shape gives board e before after (Barred at y) said;
    recorded = barred_leaves shape gives board e before after at y said;
    says = inr (inl (sym (tells (view after).terms.plan (view after).seen (subst (λ (x : MachineView). StandsFor x (view after).terms.plan (view after).seen) (sym same) is.stands))));
  }

  pub end_barred : (at : ℕ) (y : Why) → SaysThrough shape gives board e before after (Barred at y) → WasEndPut shape e before after None
  end_barred at y said = record {
    goes = outcome_goes shape gives board e before after (Barred at y) said;
    work = outcome_adds shape gives board e before after (Barred at y) (ended_is_work e settled.run settled.ends) said;
    only = barred_adds_none shape gives board e before after at y said;
    recorded = barred_none shape gives board e before after at y said;
    says = outcome_settled shape gives board e before after at y is said settled;
  }
