-- Which events are told, put or chosen.
use Rattle.std.proofs.Common.{◌≡◌, ℕ, Bool, true, false, List, [], ◌∷◌, Some, None, Option, ap, sym, refl, if◌then◌else◌}
use Rattle.std.proofs.lemmas.Option.{same_Some}
use Rattle.gcd_plan.specs.PlanView.{PlanView}
use Rattle.gcd_plan.specs.declared.why.Why.{Why}
use Rattle.gcd_event.specs.declared.event.Event.{Event}
use Rattle.gcd_event.specs.declared.event.Event.TheVariants.{Start, Act as Acted, Wake, End, Deliver, DeliverEnd, Tick, Ready, FeedEnd, Misuse, Halt, Expire, Accept, Shut}
use Rattle.gcd_history.specs.Choice.{is_work}
use Rattle.gcd_history.specs.Ends.{is_halted}
use Rattle.gcd_history.specs.Facts.{is_of_callers}
use Rattle.gcd_history.specs.History.{why}
use Rattle.gcd_history.specs.Intake.{accepted}
use Rattle.gcd_outer.specs.Tells.{PollerState}
use Rattle.gcd_outer.specs.declared.tell.Tell.{Tell}
use Rattle.gcd_turn.specs.Asked.{IsPut}
use Rattle.gcd_turn.specs.Turns.{event_of, first_event}
use Rattle.gcd_turn.proofs.HeardSteps.{is_told}
use Rattle.gcd_loop.specs.Recorded.{IsOutside}

pub untold : (e : Event) → is_work e ≡ true → is_told e ≡ false
untold (Start w b) work = refl
untold (Acted w r i) work = refl
untold (Wake w b) work = refl
untold (End w b) work = refl
untold (Deliver w s) work = refl
untold (DeliverEnd w s) work = refl
untold (Tick t) work = refl
untold (Ready s n) work = cc
untold (FeedEnd s) work = cc
untold (Misuse w c r i) work = refl
untold Halt work = refl
untold (Expire b) work = refl
untold (Accept b s) work = refl
untold Shut work = refl

pick_is_told : (b : Bool) (t : Tell) (e : Event) → (if b then FeedEnd (record { 0 = t.feed }) else Ready (record { 0 = t.feed }) t.bytes) ≡ e
    → is_told e ≡ true
pick_is_told true t e is = ap is_told (sym is)
pick_is_told false t e is = ap is_told (sym is)

pub first_is_told : (news : List Tell) (e : Event) → first_event news ≡ Some e → is_told e ≡ true
first_is_told [] e first = cc
first_is_told (t ∷ rest) e first = pick_is_told t.ended t e (same_Some (event_of t) e first)

pub put_is_outside : (plan : PlanView) (h : List Event) (start present : ℕ) (p q : PollerState) (e : Event) → IsPut plan h start present p q e → IsOutside e
put_is_outside plan h start present p q (Start w b) put = absurd put
put_is_outside plan h start present p q (Acted w r i) put = absurd put
put_is_outside plan h start present p q (Wake w b) put = absurd put
put_is_outside plan h start present p q (End w b) put = absurd put
put_is_outside plan h start present p q (Deliver w s) put = absurd put
put_is_outside plan h start present p q (DeliverEnd w s) put = absurd put
put_is_outside plan h start present p q (Tick t) put = record { by = refl; no_work = refl; uncalled = refl }
put_is_outside plan h start present p q (Ready s n) put = absurd put
put_is_outside plan h start present p q (FeedEnd s) put = absurd put
put_is_outside plan h start present p q (Misuse w k r i) put = absurd put
put_is_outside plan h start present p q Halt put = record { by = refl; no_work = refl; uncalled = refl }
put_is_outside plan h start present p q (Expire b) put = record { by = refl; no_work = refl; uncalled = refl }
put_is_outside plan h start present p q (Accept b s) put = absurd put
put_is_outside plan h start present p q Shut put = absurd put

-- nobody told it, and it is neither a Halt nor a Tick
pub record IsPlain (e : Event) : Type 0 where
  pub untold : is_told e ≡ false
  pub no_halt : e ≡ Halt → ⊥
  pub no_tick : (t : ℕ) → e ≡ Tick t → ⊥

pub called_is_plain : (e : Event) → is_of_callers e ≡ true → IsPlain e
called_is_plain (Accept b s) called = record {
  untold = refl;
  no_halt = λ (halt : Accept b s ≡ Halt). cc;
  no_tick = λ t (tick : Accept b s ≡ Tick t). cc;
}
called_is_plain Shut called = record {
  untold = refl;
  no_halt = λ (halt : Shut ≡ Halt). cc;
  no_tick = λ t (tick : Shut ≡ Tick t). cc;
}
called_is_plain e called = cc

-- an event of a worker accepts no job
pub work_accepts_none : (e : Event) → is_work e ≡ true → accepted e ≡ None
work_accepts_none (Start w b) work = refl
work_accepts_none (Acted w r i) work = refl
work_accepts_none (Wake w b) work = refl
work_accepts_none (End w b) work = refl
work_accepts_none (Deliver w s) work = refl
work_accepts_none (DeliverEnd w s) work = refl
work_accepts_none (Tick t) work = refl
work_accepts_none (Ready s n) work = refl
work_accepts_none (FeedEnd s) work = refl
work_accepts_none (Misuse w c r i) work = refl
work_accepts_none Halt work = refl
work_accepts_none (Expire b) work = refl
work_accepts_none (Accept b s) work = cc
work_accepts_none Shut work = refl

pub halt_may_come : (plan : PlanView) (h : List Event) → is_halted h ≡ false → why plan h Halt ≡ None
unfolding why is_halted
halt_may_come plan h unhalted = rw unhalted refl

-- a Halt is barred only where the run is halted
pub halt_barred : (plan : PlanView) (h : List Event) → (why plan h Halt ≡ None → ⊥) → is_halted h ≡ true
halt_barred plan h barred = go (is_halted h) refl
  where
    go : (b : Bool) → is_halted h ≡ b → is_halted h ≡ true
    go true at = at
    go false at = absurd (barred (halt_may_come plan h at))

-- an event that is refused may not come
pub refused : (o : Option Why) (y : Why) → o ≡ Some y → o ≡ None → ⊥
refused o y some none = cc

-- the time of a Tick, and 0 for any other event
abbrev pub tick_time : Event → ℕ
tick_time (Start w b) = 0
tick_time (Acted w r i) = 0
tick_time (Wake w b) = 0
tick_time (End w b) = 0
tick_time (Deliver w s) = 0
tick_time (DeliverEnd w s) = 0
tick_time (Tick t) = t
tick_time (Ready s n) = 0
tick_time (FeedEnd s) = 0
tick_time (Misuse w c r i) = 0
tick_time Halt = 0
tick_time (Expire b) = 0
tick_time (Accept b s) = 0
tick_time Shut = 0
