-- What a team's workers rely on, the oldest event first (this project's own rules).
use Rattle.std.specs.Prelude.{◌≡◌, ℕ, List, ◌++◌, filter, reverse, Option, ◌⊎◌, [], ◌∷◌}
use Rattle.gcd_plan.specs.PlanView.{PlanView}
use Rattle.gcd_plan.specs.declared.numbers.Run.{Run}
use Rattle.gcd_event.specs.declared.event.Event.{Event}
use Rattle.gcd_event.specs.declared.event.Event.TheVariants.{Halt}
use Rattle.gcd_history.specs.Held.{is_of, held}

-- the events of worker w, in order; those of the outside are worker 0's
unfoldable pub of_worker : ℕ → List Event → List Event
of_worker w h = filter (is_of w) h

-- the run that worker w has: what it took last and has not given back since
unfoldable pub held_by : PlanView → List Event → ℕ → Option Run
held_by plan h w = held plan (reverse h) w

-- g begins with h
abbrev pub StartsWith : (g h : List Event) → Type 0
StartsWith g h = (rest : List Event) × (g ≡ h ++ rest)

-- g is h, or h with a halt after it
abbrev pub GrowsByHalt : (g h : List Event) → Type 0
GrowsByHalt g h = (g ≡ h) ⊎ (g ≡ h ++ Halt ∷ [])
