-- What answers say of the event that was due, through the calls of a turn.
use Rattle.std.proofs.Common.{◌≡◌, ℕ, length, true, Some, None, sym, ap, ◌∙◌, subst, inl, inr, ⊎_elim}
use Rattle.gcd_plan.specs.declared.numbers.Obj.{Obj}
use Rattle.gcd_plan.specs.declared.why.Why.{Why}
use Rattle.gcd_event.specs.declared.event.Event.{Event}
use Rattle.gcd_history.specs.Choice.{is_work, worker_of}
use Rattle.gcd_history.specs.History.{choice_of, why}
use Rattle.gcd_machine.specs.Begins.{begin_of}
use Rattle.gcd_machine.specs.declared.put.Put.TheVariants.{Placed as PutPlaced, Barred, Held, Full}
use Rattle.gcd_row.specs.Shapes.{Shape}
use Rattle.gcd_row.specs.Passes.{view}
use Rattle.gcd_row.specs.declared.board.RowBoard.{RowBoard}
use Rattle.gcd_row.specs.declared.pass.RowPass.{RowPass}
use Rattle.gcd_row.specs.declared.view.View.{View}
use Rattle.gcd_steal.specs.Drains.{node_of}
use Rattle.gcd_steal.specs.declared.bench.Bench.{Bench}
use Rattle.gcd_pool.specs.Duties.{begun_on}
use Rattle.gcd_pool.specs.Hands.{GoesOn}
use Rattle.gcd_pool.specs.Placing.{SaysRecorded}
use Rattle.gcd_pool.specs.Throughs.{SaysThrough}
use Rattle.gcd_pool.specs.Found.{FindsNone}
use Rattle.gcd_pool.specs.Turns.{HasLaidDown}
use Rattle.gcd_pool.specs.Due.{BeginsNone, BeginsThere, ChoosesOn, IsAt, IsDue, IsThisOr, SaysDue, SaysPut, WasBarred, WasOvertaken}
use Rattle.gcd_pool.specs.declared.turn.Turn.{Turn}
use Rattle.gcd_pool.specs.declared.turn.Turn.TheVariants.{Left, Placed, Ended, Out, Waited, Rested, Stopped}
use Rattle.gcd_pool.proofs.Found.{found_after}
use Rattle.gcd_pool.proofs.Throughs.{barred_waits, full_length, held_up, placed_one}

module _ {S : Type 0} where
  -- ## An event that was to be put

  pub recorded_put : (e : Event) (t : Turn) (v w : View S) → GoesOn v w → SaysRecorded e t v w → SaysPut e t v w
  unfolding SaysRecorded SaysPut
  recorded_put e Left v w go says = tt
  recorded_put e Placed v w go says = says.0
  recorded_put e Ended v w go says = says.0
  recorded_put e (Out node) v w go says = absurd says
  recorded_put e Waited v w go says = inl (says.1.0, subst (λ (x : View S). why x.terms.plan w.seen e ≡ Some says.1.0) go.is says.1.1)
  recorded_put e Rested v w go says = tt
  recorded_put e Stopped v w go says = says.1

  -- ## What was due

  pub put_due : (due : View S → Bench → Bench → Event → Type 0) (on : View S → Obj → Type 0) (e : Event) (t : Turn) (v w : View S) (b c : Bench) → due v b c e → worker_of e ≡ v.worker → is_work e ≡ true → why v.terms.plan v.seen e ≡ None
      → SaysPut e t v w → SaysDue due on t v w b c
  unfolding SaysPut SaysDue
  put_due due on e Left v w b c owed mine work may says = tt
  put_due due on e Placed v w b c owed mine work may says = (e, owed, says)
  put_due due on e Ended v w b c owed mine work may says = (e, owed, says)
  put_due due on e (Out node) v w b c owed mine work may says = absurd says
  put_due due on e Waited v w b c owed mine work may says = ⊎_elim
      (λ (barred : (y : Why) × (why v.terms.plan w.seen e ≡ Some y)). inl (inl (record { event = e; owed = owed; mine = mine; work = work; may = may; reason = barred.0; barred = barred.1 })))
      (λ (full : length w.seen ≡ w.terms.limits.most). inl (inr full))
      says
  put_due due on e Rested v w b c owed mine work may says = tt
  put_due due on e Stopped v w b c owed mine work may says = (e, owed, says)

  pub none_due : (due : View S → Bench → Bench → Event → Type 0) (on : View S → Obj → Type 0) (n : Obj) (v w : View S) (b c : Bench) → on v n → (laid : HasLaidDown b c) → begin_of w.terms.plan w.seen w.worker (node_of laid.drain).0 ≡ None → SaysDue due on Waited v w b c
  unfolding SaysDue
  none_due due on n v w b c at laid none = inr ((n, at), (laid, none))

  pub out_due : (due : View S → Bench → Bench → Event → Type 0) (on : View S → Obj → Type 0) (n : Obj) (v w : View S) (b c : Bench) → on v n → SaysDue due on (Out n) v w b c
  unfolding SaysDue
  out_due due on n v w b c at = at

  pub leaves_due : (due : View S → Bench → Bench → Event → Type 0) (on : View S → Obj → Type 0) (v w : View S) (b c : Bench) → SaysDue due on Left v w b c
  unfolding SaysDue
  leaves_due due on v w b c = tt

  pub rests_due : (due : View S → Bench → Bench → Event → Type 0) (on : View S → Obj → Type 0) (v w : View S) (b c : Bench) → SaysDue due on Rested v w b c
  unfolding SaysDue
  rests_due due on v w b c = tt

  -- ## In other words

  overtaken_as : (old new : View S → Bench → Bench → Event → Type 0) (v w : View S) (b c : Bench) (d : Bench) → ((e : Event) → old v b c e → new v d c e) → WasOvertaken old v w b c → WasOvertaken new v w d c
  overtaken_as old new v w b c d turns o = record { event = o.event; owed = turns o.event o.owed; mine = o.mine; work = o.work; may = o.may; reason = o.reason; barred = o.barred }

  barred_due_as : (old new : View S → Bench → Bench → Event → Type 0) (v w : View S) (b c : Bench) (d : Bench) → ((e : Event) → old v b c e → new v d c e) → WasBarred old v w b c → WasBarred new v w d c
  barred_due_as old new v w b c d turns barred = ⊎_elim
      (λ (o : WasOvertaken old v w b c). inl (overtaken_as old new v w b c d turns o))
      (λ (full : length w.seen ≡ w.terms.limits.most). inr full)
      barred

  -- what is due by one word is due by another
  pub due_as : (old new : View S → Bench → Bench → Event → Type 0) (on at : View S → Obj → Type 0) (t : Turn) (v w : View S) (b c : Bench) → ((e : Event) → old v b c e → new v b c e) → ((n : Obj) → on v n → at v n) → SaysDue old on t v w b c → SaysDue new at t v w b c
  unfolding SaysDue
  due_as old new on at Left v w b c turns moves says = tt
  due_as old new on at Placed v w b c turns moves says = (says.0, turns says.0 says.1, says.2)
  due_as old new on at Ended v w b c turns moves says = (says.0, turns says.0 says.1, says.2)
  due_as old new on at (Out node) v w b c turns moves says = moves node says
  due_as old new on at Waited v w b c turns moves says = ⊎_elim
      (λ (barred : WasBarred old v w b c). inl (barred_due_as old new v w b c b turns barred))
      (λ (none : ((node : Obj) × on v node) × BeginsNone w b c). inr ((none.0.0, moves none.0.0 none.0.1), none.1))
      says
  due_as old new on at Rested v w b c turns moves says = tt
  due_as old new on at Stopped v w b c turns moves says = (says.0, turns says.0 says.1, says.2)

  -- after a look that found no Drain
  there_after : (this : Event) (v : View S) (a b c : Bench) → FindsNone a b → (e : Event) → BeginsThere v b c e → IsThisOr this v a c e
  there_after this v a b c first e there = let laid = there.0 in inr (record { found = laid.found; drain = laid.drain; took = found_after a b laid.found laid.drain first laid.took; laid = laid.laid }, there.1)

  pub due_after : (this : Event) (on : View S → Obj → Type 0) (t : Turn) (v w : View S) (a b c : Bench) → FindsNone a b → SaysDue BeginsThere on t v w b c → SaysDue (IsThisOr this) on t v w a c
  unfolding SaysDue
  due_after this on Left v w a b c first says = tt
  due_after this on Placed v w a b c first says = (says.0, there_after this v a b c first says.0 says.1, says.2)
  due_after this on Ended v w a b c first says = (says.0, there_after this v a b c first says.0 says.1, says.2)
  due_after this on (Out node) v w a b c first says = says
  due_after this on Waited v w a b c first says = ⊎_elim
      (λ (barred : WasBarred BeginsThere v w b c). inl (barred_due_as BeginsThere (IsThisOr this) v w b c a (there_after this v a b c first) barred))
      (λ (none : ((node : Obj) × on v node) × BeginsNone w b c).
      let laid = none.1.0 in inr (none.0, (record { found = laid.found; drain = laid.drain; took = found_after a b laid.found laid.drain first laid.took; laid = laid.laid }, none.1.1)))
      says
  due_after this on Rested v w a b c first says = tt
  due_after this on Stopped v w a b c first says = (says.0, there_after this v a b c first says.0 says.1, says.2)

  -- the worker chose this event, which begins a run on this node
  pub chosen_due : (from : ℕ) (this : Event) (node : Obj) (t : Turn) (v w : View S) (b c : Bench) → choice_of v.terms.plan v.seen v.worker from ≡ Some this → begun_on v.terms.plan v.seen this ≡ Some node
      → SaysDue (IsThisOr this) (IsAt node) t v w b c → SaysDue (IsDue from) (ChoosesOn from) t v w b c
  chosen_due from this node t v w b c choice on says =
      due_as (IsThisOr this) (IsDue from) (IsAt node) (ChoosesOn from) t v w b c
      (λ e either. ⊎_elim
      (λ (same : e ≡ this). inl (choice ∙ ap (λ (x : Event). Some x) (sym same)))
      (λ (there : BeginsThere v b c e). inr ((node, (this, choice, on)), there))
      either)
      (λ n same. (this, choice, on ∙ ap (λ (o : Obj). Some o) (sym same)))
      says

-- ## What put answered

module _ {S : Type 0} (shape : S → Shape) (gives : S → ℕ → Type 0) (board : RowBoard S) where
  pub placed_put : (e : Event) (p q : RowPass S) (n : ℕ) → SaysThrough shape gives board e p q (PutPlaced n) → SaysPut e Placed (view p) (view q)
  unfolding SaysPut
  placed_put e p q n said = placed_one shape gives board e p q n said

  pub barred_put : (e : Event) (p q : RowPass S) (at : ℕ) (y : Why) → GoesOn (view p) (view q) → SaysThrough shape gives board e p q (Barred at y) → SaysPut e Waited (view p) (view q)
  barred_put e p q at y go said = recorded_put e Waited (view p) (view q) go (barred_waits shape gives board e p q at y said)

  pub full_put : (e : Event) (p q : RowPass S) → SaysThrough shape gives board e p q Full → SaysPut e Waited (view p) (view q)
  unfolding SaysPut
  full_put e p q said = inr (full_length shape gives board e p q said)

  pub held_put : (e : Event) (p q : RowPass S) (by passed : ℕ) → SaysThrough shape gives board e p q (Held by passed) → SaysPut e Stopped (view p) (view q)
  unfolding SaysPut
  held_put e p q by passed said = held_up shape gives board e p q by passed said
