-- Where a Drain lies after a call.
use Rattle.std.proofs.Common.{◌≡◌, ◌∙◌, ◌++◌, ◌∷◌, ℕ, ap, append_assoc, arith, false, inl, inr, sym, ⊎_elim}
use Rattle.gcd_event.specs.declared.event.Event.{Event}
use Rattle.gcd_plan.specs.declared.numbers.Obj.{Obj}
use Rattle.gcd_row.specs.declared.view.View.{View}
use Rattle.gcd_steal.specs.Places.{History, Misses, Since, change}
use Rattle.gcd_steal.specs.declared.places.Sight.{Sight}
use Rattle.gcd_steal.specs.Racks.{sight_of}
use Rattle.gcd_steal.specs.declared.bench.Bench.{Bench}
use Rattle.gcd_steal.proofs.Placing.{since_self}
use Rattle.gcd_pool.specs.Placing.{SaysBegun, SaysRecorded}
use Rattle.gcd_pool.specs.Found.{FindsNone}
use Rattle.gcd_pool.specs.Turns.{FoundNone, HasLaidDown, LaysFoundDown, SaysOut}
use Rattle.gcd_pool.specs.declared.turn.Turn.{Turn}
use Rattle.gcd_pool.specs.declared.turn.Turn.TheVariants.{Left, Placed, Ended, Out, Waited, Rested, Stopped}
use Rattle.gcd_pool.proofs.Found.{found_after, none_after_none}

-- ## After a look in vain

pub laid_after : (a b c : Bench) → FindsNone a b → HasLaidDown b c → HasLaidDown a c
laid_after a b c first laid = record { found = laid.found; drain = laid.drain; took = found_after a b laid.found laid.drain first laid.took; laid = laid.laid }

none_after : (a b c : Bench) (turn : Turn) → FindsNone a b → FoundNone b c turn → FoundNone a c turn
none_after a b c Left first none = none
none_after a b c Placed first none = none
none_after a b c Ended first none = none
none_after a b c (Out node) first none = none_after_none a b c first none
none_after a b c Waited first none = none
none_after a b c Rested first none = none
none_after a b c Stopped first none = none

pub lays_after : (a b c : Bench) (turn : Turn) → FindsNone a b → LaysFoundDown b c turn → LaysFoundDown a c turn
lays_after a b c turn first lays = ⊎_elim
    (λ (laid : HasLaidDown b c). inl (laid_after a b c first laid))
    (λ (none : FoundNone b c turn). inr (none_after a b c turn first none))
    lays

-- ## A Drain that is out

-- a look that missed has seen all that was seen before it
missed_since : (n : ℕ) (v w : Sight) → Misses n v w → Since w.seen v.seen
missed_since n v w m = (change n false ∷ m.2.0, ap (λ (x : Sight). x.seen) m.1 ∙ ap (λ (h : History). change n false ∷ h) m.2.1)

pub missed_out : (n : Obj) (b c : Bench) → Misses n.0 (sight_of b) (sight_of c) → SaysOut (Out n) b c
unfolding SaysOut
missed_out n b c m = (sight_of b, since_self (sight_of b).seen, m)

pub out_further : (t : Turn) (n : ℕ) (a b c : Bench) → Misses n (sight_of a) (sight_of b) → SaysOut t b c → SaysOut t a c
unfolding SaysOut
out_further Left n a b c m out = tt
out_further Placed n a b c m out = tt
out_further Ended n a b c m out = tt
out_further (Out node) n a b c m out =
    let first = missed_since n (sight_of a) (sight_of b) m in
    (out.0, (out.1.0 ++ first.0, out.1.1 ∙ ap (λ (h : History). out.1.0 ++ h) first.1 ∙ sym (append_assoc out.1.0 first.0 (sight_of a).seen)), out.2)
out_further Waited n a b c m out = tt
out_further Rested n a b c m out = tt
out_further Stopped n a b c m out = tt

-- who begins with a Drain in hand does not answer so
pub with_drain : {S : Type 0} → (t : Turn) (v w : View S) (b c : Bench) → ((n : Obj) → SaysBegun n t v w) → SaysOut t b c
unfolding SaysBegun SaysOut
with_drain Left v w b c says = tt
with_drain Placed v w b c says = tt
with_drain Ended v w b c says = tt
with_drain (Out node) v w b c says = absurd (two_apart ((says (record { 0 = 0 })).0) ((says (record { 0 = 1 })).0))
  where
    two_apart : node ≡ record { 0 = 0 } → node ≡ record { 0 = 1 } → ⊥
    two_apart x y = absurd (omega (arith, ap (λ (o : Obj). o.0) x, ap (λ (o : Obj). o.0) y))
with_drain Waited v w b c says = tt
with_drain Rested v w b c says = tt
with_drain Stopped v w b c says = tt

pub recorded_out : {S : Type 0} → (e : Event) (t : Turn) (v w : View S) (b c : Bench) → SaysRecorded e t v w → SaysOut t b c
unfolding SaysRecorded SaysOut
recorded_out e Left v w b c says = tt
recorded_out e Placed v w b c says = tt
recorded_out e Ended v w b c says = tt
recorded_out e (Out node) v w b c says = absurd says
recorded_out e Waited v w b c says = tt
recorded_out e Rested v w b c says = absurd says
recorded_out e Stopped v w b c says = tt

pub leaves_out : (b c : Bench) → SaysOut Left b c
unfolding SaysOut
leaves_out b c = tt

pub waits_out : (b c : Bench) → SaysOut Waited b c
unfolding SaysOut
waits_out b c = tt

pub rests_out : (b c : Bench) → SaysOut Rested b c
unfolding SaysOut
rests_out b c = tt
