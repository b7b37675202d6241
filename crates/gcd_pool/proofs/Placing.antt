-- What calls place of the worker's own.
use Rattle.std.proofs.Common.{◌≡◌, ℕ, List, [], ◌∷◌, ◌++◌, Some, None, Option, refl, ap, ◌∙◌, subst}
use Rattle.std.specs.Option.{option_and_then}
use Rattle.gcd_plan.specs.PlanView.{PlanView}
use Rattle.gcd_plan.specs.declared.numbers.Obj.{Obj}
use Rattle.gcd_plan.specs.declared.numbers.Run.{Run}
use Rattle.gcd_plan.specs.declared.why.Why.{Why}
use Rattle.gcd_event.specs.Owners.{begun, ended}
use Rattle.gcd_event.specs.declared.event.Event.{Event}
use Rattle.gcd_event.specs.declared.event.Event.TheVariants.{Start, Wake, Deliver}
use Rattle.gcd_history.specs.Ends.{IsGoingOn}
use Rattle.gcd_history.specs.Laws.{HasNoChoice}
use Rattle.gcd_history.specs.Team.{of_worker}
use Rattle.gcd_row.specs.Passes.{Says}
use Rattle.gcd_machine.specs.declared.put.Put.TheVariants.{Placed as PutPlaced, Barred, Full}
use Rattle.gcd_row.specs.declared.view.View.{View}
use Rattle.gcd_pool.specs.Duties.{begun_on, node_of_run}
use Rattle.gcd_pool.specs.Hands.{GoesOn}
use Rattle.gcd_pool.specs.Placing.{HasPlaced, HasPlacedNone, SaysBegun, SaysPlaced, SaysRecorded, SaysRested, WasHeldUp}
use Rattle.gcd_pool.specs.declared.turn.Turn.{Turn}
use Rattle.gcd_pool.specs.declared.turn.Turn.TheVariants.{Left, Placed, Ended, Out, Waited, Rested, Stopped}
use Rattle.gcd_pool.proofs.Puts.{goes_further}

-- an event that begins a run on a node begins a run
begun_run : (plan : PlanView) (h : List Event) (e : Event) (n : Obj) → begun_on plan h e ≡ Some n → (r : Run) × (begun e ≡ Some r)
begun_run plan h e n is = go (begun e) is
  where
    go : (o : Option Run) → option_and_then (node_of_run plan h) o ≡ Some n → (r : Run) × (o ≡ Some r)
    go None x = absurd (cc)
    go (Some r) x = (r, refl)

-- and ends none
begun_ends_none : (e : Event) (r : Run) → begun e ≡ Some r → ended e ≡ None
begun_ends_none (Start w b) r is = refl
begun_ends_none (Wake w b) r is = refl
begun_ends_none (Deliver w s) r is = refl
begun_ends_none e r is = absurd (cc)

module _ {S : Type 0} where
  -- ## What `put` has placed

  pub put_barred : (e : Event) (v w : View S) (at : ℕ) (y : Why) → Says e v w (Barred at y) → HasPlacedNone v w
  put_barred e v w at y says = says.0.sees.ahead.own

  -- ## One after the other

  pub quiet_further : (v u w : View S) → GoesOn v u → HasPlacedNone v u → HasPlacedNone u w → HasPlacedNone v w
  quiet_further v u w go one two = subst (λ (x : View S). of_worker x.worker w.seen ≡ of_worker x.worker u.seen) go.is two ∙ one

  pub one_further : (e : Event) (v u w : View S) → GoesOn v u → HasPlacedNone v u → HasPlaced e u w → HasPlaced e v w
  one_further e v u w go one two =
      subst (λ (x : View S). of_worker x.worker w.seen ≡ of_worker x.worker u.seen ++ e ∷ []) go.is two ∙ ap (λ (l : List Event). l ++ e ∷ []) one

  pub placed_further : (t : Turn) (v u w : View S) → GoesOn v u → HasPlacedNone v u → SaysPlaced t u w → SaysPlaced t v w
  unfolding SaysPlaced
  placed_further Left v u w go one two = quiet_further v u w go one two
  placed_further Placed v u w go one two = (two.0, one_further two.0 v u w go one two.1, two.2)
  placed_further Ended v u w go one two = (two.0, one_further two.0 v u w go one two.1, two.2)
  placed_further (Out node) v u w go one two = quiet_further v u w go one two
  placed_further Waited v u w go one two = quiet_further v u w go one two
  placed_further Rested v u w go one two = quiet_further v u w go one two
  placed_further Stopped v u w go one two = quiet_further v u w go one two

  held_further : (e : Event) (v u w : View S) → GoesOn v u → WasHeldUp e u w → WasHeldUp e v w
  held_further e v u w go h = record { before = h.before; after = h.after; by = h.by; passed = h.passed; first = goes_further v u h.before go h.first; held = h.held; since = h.since }

  pub recorded_further : (e : Event) (t : Turn) (v u w : View S) → GoesOn v u → HasPlacedNone v u → SaysRecorded e t u w → SaysRecorded e t v w
  unfolding SaysRecorded
  recorded_further e Left v u w go one two = quiet_further v u w go one two
  recorded_further e Placed v u w go one two = (one_further e v u w go one two.0, two.1)
  recorded_further e Ended v u w go one two = (one_further e v u w go one two.0, two.1)
  recorded_further e (Out node) v u w go one two = two
  recorded_further e Waited v u w go one two = (quiet_further v u w go one two.0, two.1)
  recorded_further e Rested v u w go one two = two
  recorded_further e Stopped v u w go one two = (quiet_further v u w go one two.0, held_further e v u w go two.1)

  -- ## An event that is recorded

  pub records : (e : Event) (v w : View S) (n : ℕ) → Says e v w (PutPlaced n) → ended e ≡ None → SaysRecorded e Placed v w
  unfolding SaysRecorded
  records e v w n says ends = (says.own, ends)

  pub records_end : (e : Event) (r : Run) (v w : View S) (n : ℕ) → Says e v w (PutPlaced n) → ended e ≡ Some r → SaysRecorded e Ended v w
  unfolding SaysRecorded
  records_end e r v w n says ends = (says.own, (r, ends))

  pub leaves_full : (e : Event) (v w : View S) → Says e v w Full → SaysRecorded e Left v w
  unfolding SaysRecorded
  leaves_full e v w says = says.1.own

  pub leaves_barred : (e : Event) (v w : View S) (at : ℕ) (y : Why) → Says e v w (Barred at y) → SaysRecorded e Left v w
  unfolding SaysRecorded
  leaves_barred e v w at y says = says.0.sees.ahead.own

  pub waits_barred : (e : Event) (v w : View S) (at : ℕ) (y : Why) → Says e v w (Barred at y) → SaysRecorded e Waited v w
  unfolding SaysRecorded
  waits_barred e v w at y says = (says.0.sees.ahead.own, (y, subst (λ (x : View S). Rattle.gcd_history.specs.History.why x.terms.plan w.seen e ≡ Some y) (Rattle.std.proofs.Common.sym says.0.sees.is) says.3))

  pub stops : (e : Event) (v w : View S) → HasPlacedNone v w → WasHeldUp e v w → SaysRecorded e Stopped v w
  unfolding SaysRecorded
  stops e v w none held = (none, held)

  pub recorded_placed : (e : Event) (t : Turn) (v w : View S) → SaysRecorded e t v w → SaysPlaced t v w
  unfolding SaysRecorded SaysPlaced
  recorded_placed e Left v w says = says
  recorded_placed e Placed v w says = (e, says.0, says.1)
  recorded_placed e Ended v w says = (e, says.0, says.1)
  recorded_placed e (Out node) v w says = absurd says
  recorded_placed e Waited v w says = says.0
  recorded_placed e Rested v w says = absurd says
  recorded_placed e Stopped v w says = says.0

  pub recorded_rests : (e : Event) (t : Turn) (v w : View S) → SaysRecorded e t v w → SaysRested t w
  unfolding SaysRecorded SaysRested
  recorded_rests e Left v w says = tt
  recorded_rests e Placed v w says = tt
  recorded_rests e Ended v w says = tt
  recorded_rests e (Out node) v w says = absurd says
  recorded_rests e Waited v w says = tt
  recorded_rests e Rested v w says = absurd says
  recorded_rests e Stopped v w says = tt

  -- ## A run that begins

  pub begins_one : (plan : PlanView) (h : List Event) (e : Event) (at : Obj) (n : Obj) (v w : View S) → begun_on plan h e ≡ Some at → HasPlaced e v w → SaysBegun n Placed v w
  unfolding SaysBegun
  begins_one plan h e at n v w on placed = (e, placed, begun_run plan h e at on)

  pub begins_none : (n : Obj) (v w : View S) → HasPlacedNone v w → SaysBegun n Waited v w
  unfolding SaysBegun
  begins_none n v w none = none

  pub begins_stopped : (n : Obj) (v w : View S) → HasPlacedNone v w → SaysBegun n Stopped v w
  unfolding SaysBegun
  begins_stopped n v w none = none

  pub begins_out : (n : Obj) (v w : View S) → HasPlacedNone v w → SaysBegun n (Out n) v w
  unfolding SaysBegun
  begins_out n v w none = (refl, none)

  pub begun_placed : (n : Obj) (t : Turn) (v w : View S) → SaysBegun n t v w → SaysPlaced t v w
  unfolding SaysBegun SaysPlaced
  begun_placed n Left v w says = absurd says
  begun_placed n Placed v w says = (says.0, says.1, begun_ends_none says.0 says.2.0 says.2.1)
  begun_placed n Ended v w says = absurd says
  begun_placed n (Out node) v w says = says.1
  begun_placed n Waited v w says = says
  begun_placed n Rested v w says = absurd says
  begun_placed n Stopped v w says = says

  pub begun_rests : (n : Obj) (t : Turn) (v w : View S) → SaysBegun n t v w → SaysRested t w
  unfolding SaysBegun SaysRested
  begun_rests n Left v w says = absurd says
  begun_rests n Placed v w says = tt
  begun_rests n Ended v w says = absurd says
  begun_rests n (Out node) v w says = tt
  begun_rests n Waited v w says = tt
  begun_rests n Rested v w says = absurd says
  begun_rests n Stopped v w says = tt

  -- ## A turn that does nothing

  pub leaves_placed : (v w : View S) → w ≡ v → SaysPlaced Left v w
  unfolding SaysPlaced
  leaves_placed v w same = ap (λ (x : View S). of_worker v.worker x.seen) same

  pub waits_placed : (v w : View S) → HasPlacedNone v w → SaysPlaced Waited v w
  unfolding SaysPlaced
  waits_placed v w none = none

  pub rests_placed : (v w : View S) → w ≡ v → SaysPlaced Rested v w
  unfolding SaysPlaced
  rests_placed v w same = ap (λ (x : View S). of_worker v.worker x.seen) same

  pub leaves_rested : (v : View S) → SaysRested Left v
  unfolding SaysRested
  leaves_rested v = tt

  pub waits_rested : (v : View S) → SaysRested Waited v
  unfolding SaysRested
  waits_rested v = tt

  pub rests : (v : View S) → IsGoingOn v.terms.plan v.seen → HasNoChoice v.terms.plan v.seen v.worker → SaysRested Rested v
  unfolding SaysRested
  rests v going none = (going, none)
