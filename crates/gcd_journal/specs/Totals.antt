-- What the deliveries of a plan's sources handed over, and what a report is made from.
use Rattle.std.specs.Prelude.{◌≡◌, ℕ, ◌+◌, ◌*◌, ◌^◌, ◌<◌, ◌≤◌, List, [], ◌∷◌, ◌++◌, length, Some, None, true, false, slice_get, slice_index_or}
use Rattle.gcd_plan.specs.PlanView.{PlanView}
use Rattle.gcd_event.specs.declared.event.Event.{Event}
use Rattle.gcd_history.specs.History.{why, is_block_cancelled, is_ended, received_of, delivery_count_of}
use Rattle.gcd_refinement.specs.MachineView.{MachineView}
use Rattle.gcd_machine.specs.Stands.{StandsFor}
use Rattle.gcd_journal.specs.declared.totals.Total.{Total}

-- the number of source s's deliveries, and what they handed over in one
abbrev pub total_of : PlanView → List Event → ℕ → Total
total_of plan h s = record { times = delivery_count_of h s; value = received_of plan h s }

-- no delivery
abbrev pub no_total : Total
no_total = record { times = 0; value = 0 }

-- the totals are of the history, one for each object; their size leaves room for more
pub record AreTotals (plan : PlanView) (h : List Event) (totals : List Total) : Type 0 where
  pub count : length totals ≡ length plan.objects
  pub each : (s : ℕ) (d : Total) → s < length plan.objects → slice_index_or totals s d ≡ total_of plan h s
  pub few : (s : ℕ) → s < length plan.objects → delivery_count_of h s ≤ length h
  pub low : (s : ℕ) → s < length plan.objects → received_of plan h s ≤ length h * 2 ^ 64

-- an event has come, of which the totals do not know yet
pub record MayNote (plan : PlanView) (m : MachineView) (totals : List Total) (e : Event) : Type 0 where
  pub history : List Event
  pub stands : StandsFor m plan (history ++ e ∷ [])
  pub permitted : why plan history e ≡ None
  pub totals_are : AreTotals plan history totals
  pub room : length history + 1 < 2 ^ 32

-- the values are those of the blocks that have ended, but for cancelled ones
abbrev pub AreValues : PlanView → (value : ℕ → ℕ) → List ℕ → List Event → Type 0
AreValues plan value values h =
    (b : ℕ) → is_ended h b ≡ true → is_block_cancelled plan h b ≡ false → slice_get values b ≡ Some (value b)
