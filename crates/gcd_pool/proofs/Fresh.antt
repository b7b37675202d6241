-- The cell of the run that a worker holds, as events come.
use Rattle.std.proofs.Common.{◌≡◌, ℕ, Bool, true, false, List, [], ◌∷◌, ◌++◌, Some, None, Option, sym, refl, ap, ◌∙◌, subst}
use Rattle.std.proofs.lemmas.Option.{same_Some}
use Rattle.gcd_plan.specs.PlanView.{PlanView}
use Rattle.gcd_plan.specs.Validity.{IsPlan}
use Rattle.gcd_plan.specs.declared.numbers.Blk.{Blk}
use Rattle.gcd_plan.specs.declared.numbers.Obj.{Obj}
use Rattle.gcd_plan.specs.declared.numbers.Run.{Run}
use Rattle.gcd_plan.specs.declared.numbers.Run.TheVariants.{Block, Source}
use Rattle.gcd_event.specs.declared.event.Event.{Event}
use Rattle.gcd_event.specs.declared.event.Event.TheVariants.{Start, Act as Acted, Wake, End, Deliver, DeliverEnd, Tick, Ready, FeedEnd, Misuse, Halt, Expire, Accept, Shut}
use Rattle.gcd_history.specs.Choice.{worker_of}
use Rattle.gcd_history.specs.Runs.{act_at}
use Rattle.gcd_history.specs.Parked.{is_parking}
use Rattle.gcd_history.specs.History.{why, parks, IsLawful, is_ended, delivery_count_of, received_of, is_block_cancelled}
use Rattle.gcd_history.proofs.Permitted.Lawful.{lawful_more}
use Rattle.gcd_history.specs.Held.{taken, given}
use Rattle.gcd_history.specs.Team.{of_worker, held_by, StartsWith}
use Rattle.gcd_history.specs.TeamFacts.{SourceWaits}
use Rattle.gcd_history.proofs.HeldRuns.OwnEvents.{own_events_tell_what_is_held, none_of_worker}
use Rattle.gcd_history.proofs.Public.TeamLaws.{givings_are_the_holders, parking_acts_are_blocks, cells_wait}
use Rattle.gcd_history.proofs.HeldRuns.Cells.{cells_stay, held_cells_wait, deliver_hands_over}
use Rattle.gcd_history.proofs.HeldRuns.Holders.{what_is_held_after}
use Rattle.gcd_row.specs.Shapes.{Shape, body, handler}
use Rattle.gcd_row.specs.Lying.{slot_of, BodyLies, Lies, HasSlots, IsReadyFor, GivesBackBy}
use Rattle.gcd_row.specs.Plays.{Turned}
use Rattle.gcd_row.specs.Jobs.{Jobs, May}
use Rattle.gcd_row.proofs.Holding.{handler_of_source}
use Rattle.gcd_row.proofs.Totals.{earlier_now, earlier_waits}
use Rattle.gcd_row.proofs.Running.{source_slot, taken_known, taken_not_given, taken_source, none_some}
use Rattle.gcd_event.specs.Owners.{ended}
use Rattle.gcd_pool.specs.Hands.{IsUncalled, IsFreshCell, IsFreshAt}

head_of : {S : Type 0} → S → List (ℕ × S) → S
head_of x [] = x
head_of x (y ∷ ys) = y.1

-- the slot at the front
front_of : {S : Type 0} → ℕ → S → List (ℕ × S) → ℕ
front_of k x [] = k
front_of k x (y ∷ ys) = y.0

-- the cell at the front of two equal lists
pub same_cell : {S : Type 0} → (k n : ℕ) (x y : S) (l : List (ℕ × S)) → ◌≡◌ {A = List (ℕ × S)} ((k, x) ∷ l) ((n, y) ∷ []) → x ≡ y
unfolding head_of
same_cell {S} k n x y l same = ap (λ (l : List (ℕ × S)). head_of x l) same

-- a handler that was not called stays so while nothing is handed over
uncalled_waits : (plan : PlanView) (h later : List Event) (s : ℕ) (x : Shape) → SourceWaits plan h later s → IsUncalled plan h s x → IsUncalled plan (h ++ later) s x
uncalled_waits plan h later s x w u = record {
  kind = u.kind;
  times = u.times;
  total = u.total;
  is = u.is;
  untaken = record {
    once_fewer = u.untaken.once_fewer ∙ sym w.times;
    all_earlier = u.untaken.all_earlier ∙ sym (earlier_waits plan h later s w);
  };
}

module _ {S : Type 0} (shape : S → Shape) (plan : PlanView) where
  cell_stays : (h : List Event) (e : Event) (w : ℕ) (r : Run) (c : S) → IsLawful plan h → why plan h e ≡ None → held_by plan h w ≡ Some r → IsFreshCell shape plan h r c → IsFreshCell shape plan (h ++ e ∷ []) r c
  cell_stays h e w (Block b) c lawful may held old = old
  cell_stays h e w (Source s) c lawful may held old = uncalled_waits plan h (e ∷ []) s.0 (shape c) ((held_cells_wait plan h lawful).handlers w s e held may) old

  cell_waits : (h later : List Event) (w : ℕ) (r : Run) (c : S) → IsLawful plan (h ++ later) → of_worker w later ≡ [] → held_by plan h w ≡ Some r → IsFreshCell shape plan h r c → IsFreshCell shape plan (h ++ later) r c
  cell_waits h later w (Block b) c lawful none held old = old
  cell_waits h later w (Source s) c lawful none held old = uncalled_waits plan h later s.0 (shape c) ((cells_wait plan h later lawful).handlers w s held none) old

  ready_waits : (h later : List Event) (w : ℕ) (e : Event) (r : Run) (c : S) → IsLawful plan (h ++ later) → of_worker w later ≡ [] → held_by plan h w ≡ Some r → IsReadyFor shape plan h e r c → IsReadyFor shape plan (h ++ later) e r c
  ready_waits h later w e (Block b) c lawful none held old = old
  ready_waits h later w e (Source s) c lawful none held old =
      let x = (cells_wait plan h later lawful).handlers w s held none in
      (old.0, old.1 ∙ λ i. handler old.0 (sym x.times i) (sym x.received i))

  -- a worker that has seen more, and no event more of its own
  pub fresh_ahead : (h g : List Event) (w : ℕ) (c : List (ℕ × S)) → IsLawful plan g → StartsWith g h → of_worker w g ≡ of_worker w h → IsFreshAt shape plan h w c → IsFreshAt shape plan g w c
  unfolding of_worker
  fresh_ahead h g w c lawful s own old = λ r x held here.
      let whole : IsLawful plan (h ++ s.0) = subst (IsLawful plan) s.1 lawful in
      let none : of_worker w s.0 ≡ [] = none_of_worker w h s.0 (sym (ap (of_worker w) s.1) ∙ own) in
      let was : held_by plan h w ≡ Some r = sym (own_events_tell_what_is_held plan g h w own) ∙ held in
      subst (λ (k : List Event). IsFreshCell shape plan k r x) (sym s.1) (cell_waits h s.0 w r x whole none was (old r x was here))

  pub ready_ahead : (h g : List Event) (w : ℕ) (e : Event) (r : Run) (c : S) → IsLawful plan g → StartsWith g h → of_worker w g ≡ of_worker w h → held_by plan h w ≡ Some r → IsReadyFor shape plan h e r c → IsReadyFor shape plan g e r c
  unfolding of_worker
  ready_ahead h g w e r c lawful s own held old =
      let whole : IsLawful plan (h ++ s.0) = subst (IsLawful plan) s.1 lawful in
      let none : of_worker w s.0 ≡ [] = none_of_worker w h s.0 (sym (ap (of_worker w) s.1) ∙ own) in
      subst (λ (k : List Event). IsReadyFor shape plan k e r c) (sym s.1) (ready_waits h s.0 w e r c whole none held old)

-- ## Its own events

pub given_is_ended : (plan : PlanView) (e : Event) (r : Run) → ended e ≡ Some r → given plan e ≡ Some r
given_is_ended plan (End w b) r is = is
given_is_ended plan (DeliverEnd w s) r is = is
given_is_ended plan e r is = absurd (cc)

module _ {S : Type 0} (shape : S → Shape) (gives : S → ℕ → Type 0) (t : Jobs S) where
  -- the body that is taken did not run
  body_is_fresh : (h : List Event) (e : Event) (b : Blk) (y : S) → IsLawful t.plan h → why t.plan h e ≡ None → taken e ≡ Some (Block b) → Lies shape gives t h (Block b) y → shape y ≡ body
  body_is_fresh h e b y lawful may took lies =
      let after : IsLawful t.plan (h ++ e ∷ []) = lawful_more t.plan h e lawful may in
      let held : held_by t.plan (h ++ e ∷ []) (worker_of e) ≡ Some (Block b) = (what_is_held_after t.plan h e).took (Block b) took in
      let unended : is_ended (h ++ e ∷ []) b.0 ≡ false = (held_cells_wait t.plan (h ++ e ∷ []) after).bodies (worker_of e) b held in
      let not_given : given t.plan e ≡ Some (Block b) → ⊥ = λ gave. none_some (given t.plan e) (Block b) (taken_not_given t.plan e (Block b) took) gave in
      let was : is_ended h b.0 ≡ false = sym ((cells_stay t.plan h e).bodies b not_given) ∙ unended in
      (subst (λ (n : Bool). BodyLies shape gives (May gives t b.0) n (is_block_cancelled t.plan h b.0) y) was lies).0

  taken_is_fresh : (h : List Event) (e : Event) (r : Run) (y : S) → IsLawful t.plan h → why t.plan h e ≡ None → taken e ≡ Some r → Lies shape gives t h r y → IsFreshCell shape t.plan (h ++ e ∷ []) r y
  taken_is_fresh h e (Block b) y lawful may took lies = body_is_fresh h e b y lawful may took lies
  taken_is_fresh h e (Source s) y lawful may took lies =
      let d = taken_source e s took in
      let it = handler_of_source t.plan h s.0 (taken_known t.plan h e (Source s) took may) in
      let over = deliver_hands_over t.plan h d.0 s in
      let G : Event → Type 0 = λ x. IsUncalled t.plan (h ++ x ∷ []) s.0 (shape y) in
      subst G (sym d.1) (record {
        kind = it.0;
        times = delivery_count_of h s.0;
        total = received_of t.plan h s.0;
        is = lies ∙ it.2;
        untaken = record { once_fewer = sym over.times; all_earlier = sym (earlier_now t.plan h d.0 s) };
      })

  -- after the worker's own event
  pub fresh_own : (h : List Event) (e : Event) (c d : List (ℕ × S)) → IsLawful t.plan h → why t.plan h e ≡ None → Turned shape gives t h e c d → IsFreshAt shape t.plan h (worker_of e) c → IsFreshAt shape t.plan (h ++ e ∷ []) (worker_of e) d
  fresh_own h e c d lawful may turned old = by_taken (taken e) refl
    where
      by_given : taken e ≡ None → (o : Option Run) → given t.plan e ≡ o → IsFreshAt shape t.plan (h ++ e ∷ []) (worker_of e) d
      by_given untaken None is = λ r x held here.
          let was : held_by t.plan h (worker_of e) ≡ Some r = sym ((what_is_held_after t.plan h e).same untaken is (worker_of e)) ∙ held in
          cell_stays shape t.plan h e (worker_of e) r x lawful may was (old r x was (sym (turned.same untaken is) ∙ here))
      by_given untaken (Some q) is = λ r x held here. absurd (none_some (held_by t.plan (h ++ e ∷ []) (worker_of e)) r ((what_is_held_after t.plan h e).gave q is) held)

      by_taken : (o : Option Run) → taken e ≡ o → IsFreshAt shape t.plan (h ++ e ∷ []) (worker_of e) d
      by_taken None is = by_given is (given t.plan e) refl
      by_taken (Some q) is = λ r x held here.
          let y = turned.took q is in
          let runs : q ≡ r = same_Some q r (sym ((what_is_held_after t.plan h e).took q is) ∙ held) in
          let cell : y.0 ≡ x = same_cell (slot_of t.plan q) (slot_of t.plan r) y.0 x c (sym y.1 ∙ here) in
          subst (λ (k : Run). IsFreshCell shape t.plan (h ++ e ∷ []) k x) runs (subst (IsFreshCell shape t.plan (h ++ e ∷ []) q) cell (taken_is_fresh h e q y.0 lawful may is y.2))

  -- what is ready to be given back stays so while others go on
  pub back_ahead : (h g : List Event) (w : ℕ) (e : Event) (c : List (ℕ × S)) → IsLawful t.plan g → StartsWith g h → of_worker w g ≡ of_worker w h → HasSlots shape gives t h (held_by t.plan h w) c → GivesBackBy shape t.plan h e c → GivesBackBy shape t.plan g e c
  unfolding front_of
  back_ahead h g w e c lawful s own has back = λ r gave. let b = back r gave in (b.0, b.1, ready r b.0 b.1 b.2)
    where
      held_source : (u : Obj) (y : S) → c ≡ (slot_of t.plan (Source u), y) ∷ [] → (o : Option Run) → held_by t.plan h w ≡ o → HasSlots shape gives t h o c → held_by t.plan h w ≡ Some (Source u)
      held_source u y here None held empty = absurd (nil_cons (sym empty ∙ here))
        where
          nil_cons : {A : Type 0} {a : A} → [] ≡ a ∷ [] → ⊥
          nil_cons z = cc
      held_source u y here (Some q) held had =
          held ∙ ap Some (source_slot t.plan q u had.known (first_slot (slot_of t.plan q) (slot_of t.plan (Source u)) had.cell y (sym had.here ∙ here)))
        where
          first_slot : (k n : ℕ) (a d : S) → ◌≡◌ {A = List (ℕ × S)} ((k, a) ∷ []) ((n, d) ∷ []) → k ≡ n
          first_slot k n a d same = ap (λ (l : List (ℕ × S)). front_of k a l) same

      ready : (q : Run) (y : S) → c ≡ (slot_of t.plan q, y) ∷ [] → IsReadyFor shape t.plan h e q y → IsReadyFor shape t.plan g e q y
      ready (Block b) y here old = old
      ready (Source u) y here old = ready_ahead shape t.plan h g w e (Source u) y lawful s own (held_source u y here (held_by t.plan h w) refl has) old

  -- who gave its run back holds none
  pub fresh_given : (h : List Event) (e : Event) (q : Run) (d : List (ℕ × S)) → given t.plan e ≡ Some q → IsFreshAt shape t.plan (h ++ e ∷ []) (worker_of e) d
  fresh_given h e q d gave = λ r x held here. absurd (none_some (held_by t.plan (h ++ e ∷ []) (worker_of e)) r ((what_is_held_after t.plan h e).gave q gave) held)

  -- a block that was not run is ready for the act that parks it, and other events that end no run give none back
  parked_is_ready : (h : List Event) (w : ℕ) (q r : Run) (i : ℕ) (x : S) → IsPlan t.plan → given t.plan (Acted w q i) ≡ Some r → IsFreshCell shape t.plan h r x → IsReadyFor shape t.plan h (Acted w q i) r x
  unfolding parks
  parked_is_ready h w q (Block b) i x valid gave fresh = fresh
  parked_is_ready h w (Block b) (Source s) i x valid gave fresh = absurd (apart (is_parking (act_at t.plan (Block b) i)) gave)
    where
      apart : (p : Bool) → Rattle.std.specs.Prelude.cond p (Some (Block b)) None ≡ Some (Source s) → ⊥
      apart true is = differ (same_Some (Block b) (Source s) is)
        where
          differ : Block b ≡ Source s → ⊥
          differ z = cc
      apart false is = cc
  parked_is_ready h w (Source u) (Source s) i x valid gave fresh =
      absurd (none_some None (Source s) refl (sym (ap (λ (p : Bool). Rattle.std.specs.Prelude.cond p (Some (Source u)) None) (parking_acts_are_blocks t.plan valid w i u)) ∙ gave))

  pub back_of_fresh : (h : List Event) (e : Event) (c : List (ℕ × S)) → IsPlan t.plan → IsLawful t.plan h → why t.plan h e ≡ None → ended e ≡ None → HasSlots shape gives t h (held_by t.plan h (worker_of e)) c → IsFreshAt shape t.plan h (worker_of e) c → GivesBackBy shape t.plan h e c
  back_of_fresh h (Acted w q i) c valid lawful may ends has fresh = λ r gave.
      let mine : held_by t.plan h w ≡ Some r = givings_are_the_holders t.plan h lawful (Acted w q i) r gave may in
      let had = subst (λ (o : Option Run). HasSlots shape gives t h o c) mine has in
      (had.cell, had.here, parked_is_ready h w q r i had.cell valid gave (fresh r had.cell mine had.here))
  back_of_fresh h (End w b) c valid lawful may ends has fresh = absurd (cc)
  back_of_fresh h (DeliverEnd w s) c valid lawful may ends has fresh = absurd (cc)
  back_of_fresh h (Start w b) c valid lawful may ends has fresh = λ r gave. absurd (none_some None r refl gave)
  back_of_fresh h (Wake w b) c valid lawful may ends has fresh = λ r gave. absurd (none_some None r refl gave)
  back_of_fresh h (Deliver w s) c valid lawful may ends has fresh = λ r gave. absurd (none_some None r refl gave)
  back_of_fresh h (Tick n) c valid lawful may ends has fresh = λ r gave. absurd (none_some None r refl gave)
  back_of_fresh h (Ready s n) c valid lawful may ends has fresh = λ r gave. absurd (none_some None r refl gave)
  back_of_fresh h (FeedEnd s) c valid lawful may ends has fresh = λ r gave. absurd (none_some None r refl gave)
  back_of_fresh h (Misuse w k r i) c valid lawful may ends has fresh = λ q gave. absurd (none_some None q refl gave)
  back_of_fresh h Halt c valid lawful may ends has fresh = λ r gave. absurd (none_some None r refl gave)
  back_of_fresh h (Expire b) c valid lawful may ends has fresh = λ r gave. absurd (none_some None r refl gave)
  back_of_fresh h (Accept b s) c valid lawful may ends has fresh = λ r gave. absurd (none_some None r refl gave)
  back_of_fresh h Shut c valid lawful may ends has fresh = λ r gave. absurd (none_some None r refl gave)
