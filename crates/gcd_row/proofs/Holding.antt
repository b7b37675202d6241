-- What lies in slots, at home and with holders, an event on.
use Rattle.std.proofs.Common.{◌≡◌, ℕ, inl, inr, ⊎_elim, Bool, true, false, cond, List, [], ◌∷◌, ◌++◌, Some, None, Option, sym, refl, ap, ◌∙◌, subst}
use Rattle.std.specs.Option.{option_map_or}
use Rattle.std.proofs.lemmas.Option.{same_Some}
use Rattle.atomic_table.specs.Table.{rest}
use Rattle.gcd_plan.specs.PlanView.{PlanView, kind_of}
use Rattle.gcd_plan.specs.Kinds.{is_source, is_source_kind}
use Rattle.gcd_plan.specs.declared.kind.Kind.{Kind}
use Rattle.gcd_plan.specs.declared.numbers.Blk.{Blk}
use Rattle.gcd_plan.specs.declared.numbers.Obj.{Obj}
use Rattle.gcd_plan.specs.declared.numbers.Run.{Run}
use Rattle.gcd_plan.specs.declared.numbers.Run.TheVariants.{Block, Source}
use Rattle.gcd_event.specs.declared.event.Event.{Event}
use Rattle.gcd_event.specs.declared.event.Event.TheVariants.{Deliver}
use Rattle.gcd_history.specs.Choice.{worker_of}
use Rattle.gcd_history.specs.Runs.{ends}
use Rattle.gcd_history.specs.History.{why, IsLawful, is_block_cancelled, is_ended, delivery_count_of, received_of}
use Rattle.gcd_history.proofs.Blocks.CancelledStays.{begun_where_ended, cancelled_kept, cancelled_kept_on}
use Rattle.gcd_history.proofs.Permitted.Lawful.{lawful_front}
use Rattle.gcd_history.specs.Held.{is_of, taken, given}
use Rattle.gcd_history.specs.Team.{of_worker, held_by, StartsWith}
use Rattle.gcd_history.specs.TeamFacts.{SourceWaits, IsNobodys}
use Rattle.gcd_history.proofs.HeldRuns.OwnEvents.{own_events_tell_what_is_held, none_of_worker}
use Rattle.gcd_history.proofs.Public.TeamLaws.{nothing_is_held_first, takings_find_nobody, givings_are_the_holders, cells_wait}
use Rattle.gcd_history.proofs.HeldRuns.Cells.{cells_stay, held_cells_wait, bodies_come_back, deliver_hands_over}
use Rattle.gcd_history.proofs.HeldRuns.Holders.{what_is_held_after, takes_alone}
use Rattle.gcd_row.specs.Shapes.{Shape, body, done, handler, away}
use Rattle.gcd_row.specs.Jobs.{Jobs, May}
use Rattle.gcd_row.specs.Lying.{slot_of, source_shape, IsUntaken, IsServed, BodyLies, Lies, BodyHeld, HandlerHeld, MayHold, HasSlot, HasSlots, IsReadyBody, IsReadyFor, GivesBackBy}
use Rattle.gcd_row.specs.Plays.{Turned}
use Rattle.gcd_row.proofs.Totals.{earlier_now, earlier_waits}
use Rattle.gcd_history.proofs.HeldRuns.Cancelled.{begun_where_held, cancelled_at_taking}
use Rattle.gcd_row.proofs.Running.{known_run, taken_known, given_known, taken_source, source_slot, none_some}

abbrev pub head_of : {S : Type 0} → ℕ → S → List (ℕ × S) → ℕ × S
head_of k x [] = (k, x)
head_of k x (y ∷ ys) = y

-- a source's shape at its kind
abbrev shape_at : List Event → PlanView → ℕ → Option Kind → Shape
shape_at h plan s kind = option_map_or (λ k. cond (is_source_kind k) (handler k (delivery_count_of h s) (received_of plan h s)) away) kind away

pub same_source_shape : (plan : PlanView) (h later : List Event) (s : ℕ) → SourceWaits plan h later s → source_shape plan (h ++ later) s ≡ source_shape plan h s
unfolding source_shape
same_source_shape plan h later s w =
    let P : ℕ → ℕ → Shape = λ n u. option_map_or (λ k. cond (is_source_kind k) (handler k n u) away) (kind_of plan s) away in
    λ i. P (w.times i) (w.received i)

-- a source of the plan has a handler
pub handler_of_source : (plan : PlanView) (h : List Event) (s : ℕ) → is_source plan s ≡ true → (kind : Kind) × (kind_of plan s ≡ Some kind) × (source_shape plan h s ≡ handler kind (delivery_count_of h s) (received_of plan h s))
unfolding source_shape
handler_of_source plan h s is = go (kind_of plan s) refl is
  where
    go : (o : Option Kind) → kind_of plan s ≡ o → option_map_or is_source_kind o false ≡ true → (kind : Kind) × (kind_of plan s ≡ Some kind) × (shape_at h plan s (kind_of plan s) ≡ handler kind (delivery_count_of h s) (received_of plan h s))
    go None at k = absurd (cc)
    go (Some kind) at k = (kind, at, ap (shape_at h plan s) at ∙ ap (λ (b : Bool). cond b (handler kind (delivery_count_of h s) (received_of plan h s)) away) k)

pub kind_shape : (plan : PlanView) (h : List Event) (s : ℕ) (kind : Kind) → is_source plan s ≡ true → kind_of plan s ≡ Some kind → source_shape plan h s ≡ handler kind (delivery_count_of h s) (received_of plan h s)
kind_shape plan h s kind is at = let f = handler_of_source plan h s is in
    f.2 ∙ ap (λ (k : Kind). handler k (delivery_count_of h s) (received_of plan h s)) (same_Some f.0 kind (sym f.1 ∙ at))

-- what a holder has of a source stays right while nothing is handed over
pub handler_waits : (plan : PlanView) (h later : List Event) (s : ℕ) (x : Shape) → SourceWaits plan h later s → HandlerHeld plan h s x → HandlerHeld plan (h ++ later) s x
handler_waits plan h later s body w x = x
handler_waits plan h later s (done v) w x = x
handler_waits plan h later s (handler kind times total) w x = (
  x.0,
  ⊎_elim
      (λ (u : IsUntaken plan h s times total).
      inl (record { once_fewer = u.once_fewer ∙ sym w.times; all_earlier = u.all_earlier ∙ sym (earlier_waits plan h later s w) }))
      (λ (u : IsServed plan h s times total). inr (record { all_times = u.all_times ∙ sym w.times; all_data = u.all_data ∙ sym w.received }))
      x.1,
)
handler_waits plan h later s away w x = tt

module _ {S : Type 0} (shape : S → Shape) (gives : S → ℕ → Type 0) (t : Jobs S) where
  -- what lies in the slot of a block stays right while the block does not end
  body_stays : (h : List Event) (e : Event) (b : Blk) (may : ℕ → Type 0) (c : S) (n : Bool) → IsLawful t.plan h → is_ended h b.0 ≡ n
      → BodyLies shape gives may n (is_block_cancelled t.plan h b.0) c → BodyLies shape gives may n (is_block_cancelled t.plan (h ++ e ∷ []) b.0) c
  body_stays h e b may c false lawful ended lies = lies
  body_stays h e b may c true lawful ended lies =
      subst (λ (v : Bool). BodyLies shape gives may true v c) (sym (cancelled_kept t.plan h e b.0 (begun_where_ended t.plan h b.0 lawful ended))) lies

  -- what lies at a slot whose run nobody holds, and which the event does not take, stays right
  pub lies_stay : (h : List Event) (e : Event) (r : Run) (c : S) → IsLawful t.plan h → why t.plan h e ≡ None → IsNobodys t.plan h r → (taken e ≡ Some r → ⊥) → Lies shape gives t h r c → Lies shape gives t (h ++ e ∷ []) r c
  lies_stay h e (Block b) c lawful may nobodys not_taken old =
      let not_given : given t.plan e ≡ Some (Block b) → ⊥ = λ is. nobodys (worker_of e) (givings_are_the_holders t.plan h lawful e (Block b) is may) in
      subst (λ (n : Bool). BodyLies shape gives (May gives t b.0) n (is_block_cancelled t.plan (h ++ e ∷ []) b.0) c) (sym ((cells_stay t.plan h e).bodies b not_given))
      (body_stays h e b (May gives t b.0) c (is_ended h b.0) lawful refl old)
  lies_stay h e (Source s) c lawful may nobodys not_taken old = old ∙ sym (same_source_shape t.plan h (e ∷ []) s.0 ((cells_stay t.plan h e).handlers s not_taken))

  -- what a holder has of its run stays right after a permitted event
  may_stay : (h : List Event) (e : Event) (w : ℕ) (r : Run) (c : S) → IsLawful t.plan h → why t.plan h e ≡ None → held_by t.plan h w ≡ Some r → MayHold shape gives t h r c → MayHold shape gives t (h ++ e ∷ []) r c
  may_stay h e w (Block b) c lawful may held old =
      subst (BodyHeld shape gives (May gives t b.0) c (shape c)) (sym (cancelled_kept t.plan h e b.0 (begun_where_held t.plan h w b lawful held))) old
  may_stay h e w (Source s) c lawful may held old = handler_waits t.plan h (e ∷ []) s.0 (shape c) ((held_cells_wait t.plan h lawful).handlers w s e held may) old

  -- and after any events of others
  may_wait : (h later : List Event) (w : ℕ) (r : Run) (c : S) → IsLawful t.plan (h ++ later) → of_worker w later ≡ [] → held_by t.plan h w ≡ Some r → MayHold shape gives t h r c → MayHold shape gives t (h ++ later) r c
  may_wait h later w (Block b) c lawful none held old =
      subst (BodyHeld shape gives (May gives t b.0) c (shape c)) (sym (cancelled_kept_on t.plan h later b.0 (begun_where_held t.plan h w b (lawful_front t.plan h later lawful) held))) old
  may_wait h later w (Source s) c lawful none held old = handler_waits t.plan h later s.0 (shape c) ((cells_wait t.plan h later lawful).handlers w s held none) old

  -- what is had of a run has to do with the slot's run alone
  moved : (h g : List Event) (r : Run) (c : List (ℕ × S)) → ((x : S) → MayHold shape gives t h r x → MayHold shape gives t g r x) → HasSlot shape gives t h r c → HasSlot shape gives t g r c
  moved h g r c f old = record { known = old.known; cell = old.cell; here = old.here; may = f old.cell old.may }

  pub has_stays : (h : List Event) (e : Event) (w : ℕ) (c : List (ℕ × S)) → IsLawful t.plan h → why t.plan h e ≡ None → held_by t.plan (h ++ e ∷ []) w ≡ held_by t.plan h w → HasSlots shape gives t h (held_by t.plan h w) c → HasSlots shape gives t (h ++ e ∷ []) (held_by t.plan (h ++ e ∷ []) w) c
  has_stays h e w c lawful may same old = subst (λ (o : Option Run). HasSlots shape gives t (h ++ e ∷ []) o c) (sym same) (go (held_by t.plan h w) refl old)
    where
      go : (o : Option Run) → held_by t.plan h w ≡ o → HasSlots shape gives t h o c → HasSlots shape gives t (h ++ e ∷ []) o c
      go None held x = x
      go (Some r) held x = moved h (h ++ e ∷ []) r c (λ y. may_stay h e w r y lawful may held) x

  -- another's event
  pub has_more : (h : List Event) (e : Event) (w : ℕ) (c : List (ℕ × S)) → IsLawful t.plan h → why t.plan h e ≡ None → is_of w e ≡ false → HasSlots shape gives t h (held_by t.plan h w) c → HasSlots shape gives t (h ++ e ∷ []) (held_by t.plan (h ++ e ∷ []) w) c
  has_more h e w c lawful may other old = has_stays h e w c lawful may ((what_is_held_after t.plan h e).others w other) old

  -- a pass that has seen more, and no event more of its own, has the same
  pub has_ahead : (h g : List Event) (w : ℕ) (c : List (ℕ × S)) → IsLawful t.plan g → StartsWith g h → of_worker w g ≡ of_worker w h → HasSlots shape gives t h (held_by t.plan h w) c → HasSlots shape gives t g (held_by t.plan g w) c
  unfolding of_worker
  has_ahead h g w c lawful s own old =
      let whole : IsLawful t.plan (h ++ s.0) = subst (IsLawful t.plan) s.1 lawful in
      let none : of_worker w s.0 ≡ [] = none_of_worker w h s.0 (sym (ap (of_worker w) s.1) ∙ own) in
      let same : held_by t.plan g w ≡ held_by t.plan h w = own_events_tell_what_is_held t.plan g h w own in
      subst (λ (o : Option Run). HasSlots shape gives t g o c) (sym same) (go whole none (held_by t.plan h w) refl old)
    where
      go : IsLawful t.plan (h ++ s.0) → of_worker w s.0 ≡ [] → (o : Option Run) → held_by t.plan h w ≡ o → HasSlots shape gives t h o c → HasSlots shape gives t g o c
      go whole none None held x = x
      go whole none (Some r) held x = moved h g r c (λ y m. subst (λ (k : List Event). MayHold shape gives t k r y) (sym s.1) (may_wait h s.0 w r y whole none held m)) x

  -- what lay at home may be held
  taken_may : (h : List Event) (e : Event) (r : Run) (y : S) → taken e ≡ Some r → why t.plan h e ≡ None → Lies shape gives t h r y → MayHold shape gives t (h ++ e ∷ []) r y
  taken_may h e (Block b) y is may lies =
      subst (BodyHeld shape gives (May gives t b.0) y (shape y)) (sym (cancelled_at_taking t.plan h e (Block b) b.0 is)) (go (May gives t b.0) (is_ended h b.0) (is_block_cancelled t.plan h b.0) lies)
    where
      go : (come : ℕ → Type 0) (n marked : Bool) → BodyLies shape gives come n marked y → BodyHeld shape gives come y (shape y) marked
      go come false marked l = subst (λ (s : Shape). BodyHeld shape gives come y s marked) (sym l.0) l.1
      go come true false l = subst (λ (s : Shape). BodyHeld shape gives come y s false) (sym l.1) l.2
      go come true true l = subst (λ (s : Shape). BodyHeld shape gives come y s true) (sym l) refl
  taken_may h e (Source s) y is may lies =
      let d = taken_source e s is in
      let it = handler_of_source t.plan h s.0 (taken_known t.plan h e (Source s) is may) in
      let over = deliver_hands_over t.plan h d.0 s in
      let G : Event → Type 0 = λ x. HandlerHeld t.plan (h ++ x ∷ []) s.0 (shape y) in
      subst G (sym d.1) (subst (HandlerHeld t.plan (h ++ Deliver d.0 s ∷ []) s.0) (sym (lies ∙ it.2)) (it.1, inl (record { once_fewer = sym over.times; all_earlier = sym (earlier_now t.plan h d.0 s) })))

  -- a holder has one slot at most
  pub rest_none : (h : List Event) (o : Option Run) (c : List (ℕ × S)) → HasSlots shape gives t h o c → rest c ≡ []
  rest_none h None c empty = ap rest empty
  rest_none h (Some r) c had = ap rest had.here

  -- after the pass's own event, before which it knew the jobs so
  pub has_own : (jobs : ℕ → Option S) (h : List Event) (e : Event) (c d : List (ℕ × S)) → IsLawful t.plan h → why t.plan h e ≡ None → Turned shape gives t h e c d → (taken e ≡ None → jobs ≡ t.job)
      → HasSlots shape gives (record { plan = t.plan; job = jobs }) h (held_by t.plan h (worker_of e)) c → HasSlots shape gives t (h ++ e ∷ []) (held_by t.plan (h ++ e ∷ []) (worker_of e)) d
  has_own jobs h e c d lawful may turned same old = by_taken (taken e) refl
    where
      by_given : taken e ≡ None → (o : Option Run) → given t.plan e ≡ o → HasSlots shape gives t (h ++ e ∷ []) (held_by t.plan (h ++ e ∷ []) (worker_of e)) d
      by_given untaken None is = subst (HasSlots shape gives t (h ++ e ∷ []) (held_by t.plan (h ++ e ∷ []) (worker_of e))) (sym (turned.same untaken is))
          (has_stays h e (worker_of e) c lawful may ((what_is_held_after t.plan h e).same untaken is (worker_of e))
          (subst (λ (f : ℕ → Option S). HasSlots shape gives (record { plan = t.plan; job = f }) h (held_by t.plan h (worker_of e)) c) (same untaken) old))
      by_given untaken (Some r) is =
          let mine : held_by t.plan h (worker_of e) ≡ Some r = givings_are_the_holders t.plan h lawful e r is may in
          let before : Jobs S = record { plan = t.plan; job = jobs } in
          let had : HasSlot shape gives before h r c = subst (λ (o : Option Run). HasSlots shape gives before h o c) mine old in
          subst (λ (o : Option Run). HasSlots shape gives t (h ++ e ∷ []) o d) (sym ((what_is_held_after t.plan h e).gave r is)) (turned.gave r is ∙ ap rest had.here)

      by_taken : (o : Option Run) → taken e ≡ o → HasSlots shape gives t (h ++ e ∷ []) (held_by t.plan (h ++ e ∷ []) (worker_of e)) d
      by_taken None is = by_given is (given t.plan e) refl
      by_taken (Some r) is =
          let idle = (takings_find_nobody t.plan h lawful e r is may).idle in
          let empty : c ≡ [] = subst (λ (o : Option Run). HasSlots shape gives (record { plan = t.plan; job = jobs }) h o c) idle old in
          let y = turned.took r is in
          subst (λ (o : Option Run). HasSlots shape gives t (h ++ e ∷ []) o d) (sym ((what_is_held_after t.plan h e).took r is))
          (record {
            known = known_run t.plan r (taken_known t.plan h e r is may);
            cell = y.0;
            here = y.1 ∙ ap (λ (l : List (ℕ × S)). (slot_of t.plan r, y.0) ∷ l) empty;
            may = taken_may h e r y.0 is may y.2;
          })

  -- the cell of a run that the event gives back lies right after it
  pub lays_back : (h : List Event) (e : Event) (c : List (ℕ × S)) → IsLawful t.plan h → why t.plan h e ≡ None → HasSlots shape gives t h (held_by t.plan h (worker_of e)) c → GivesBackBy shape t.plan h e c
      → (r : Run) → given t.plan e ≡ Some r → (x : S) × (c ≡ (slot_of t.plan r, x) ∷ []) × Lies shape gives t (h ++ e ∷ []) r x
  lays_back h e c lawful may old back r is =
      let mine : held_by t.plan h (worker_of e) ≡ Some r = givings_are_the_holders t.plan h lawful e r is may in
      let had : HasSlot shape gives t h r c = subst (λ (o : Option Run). HasSlots shape gives t h o c) mine old in
      let b = back r is in
      let same : had.cell ≡ b.0 = one_cell (slot_of t.plan r) had.cell b.0 (sym had.here ∙ b.1) in
      (b.0, b.1, lies r is b.0 (subst (MayHold shape gives t h r) same had.may) b.2)
    where
      one_cell : (k : ℕ) (x y : S) → ◌≡◌ {A = List (ℕ × S)} ((k, x) ∷ []) ((k, y) ∷ []) → x ≡ y
      one_cell k x y same = ap (λ (l : List (ℕ × S)). (head_of k x l).1) same

      body_lies : (x : S) (come : ℕ → Type 0) → (n marked : Bool) → BodyHeld shape gives come x (shape x) marked → IsReadyBody shape n x → BodyLies shape gives come n marked x
      body_lies x come false marked m ready = (ready, subst (λ (s : Shape). BodyHeld shape gives come x s marked) ready m)
      body_lies x come true false m ready = (ready.0, ready.1, subst (λ (s : Shape). BodyHeld shape gives come x s false) ready.1 m)
      body_lies x come true true m ready = ready.1 ∙ ap done (subst (λ (s : Shape). BodyHeld shape gives come x s true) ready.1 m)

      lies : (q : Run) → given t.plan e ≡ Some q → (x : S) → MayHold shape gives t h q x → IsReadyFor shape t.plan h e q x → Lies shape gives t (h ++ e ∷ []) q x
      lies (Block b) is x m ready =
          let marked = cancelled_kept t.plan h e b.0 (begun_where_held t.plan h (worker_of e) b lawful (givings_are_the_holders t.plan h lawful e (Block b) is may)) in
          subst (λ (n : Bool). BodyLies shape gives (May gives t b.0) n (is_block_cancelled t.plan (h ++ e ∷ []) b.0) x) (sym (bodies_come_back t.plan h lawful e b is may))
          (subst (λ (v : Bool). BodyLies shape gives (May gives t b.0) (ends b.0 e) v x) (sym marked)
          (body_lies x (May gives t b.0) (ends b.0 e) (is_block_cancelled t.plan h b.0) m ready))
      lies (Source s) is x m ready =
          let none = takes_alone t.plan e (Source s) is in
          let source : is_source t.plan s.0 ≡ true = given_known t.plan h e (Source s) is may in
          let held : HandlerHeld t.plan h s.0 (handler ready.0 (delivery_count_of h s.0) (received_of t.plan h s.0)) = subst (HandlerHeld t.plan h s.0) ready.1 m in
          ready.1 ∙ sym (kind_shape t.plan h s.0 ready.0 source held.0) ∙ sym (same_source_shape t.plan h (e ∷ []) s.0 ((cells_stay t.plan h e).handlers s (λ took. none_some (taken e) (Source s) none took)))

  -- what is ready to be given back stays so while others go on
  pub back_waits : (h : List Event) (e x : Event) (w : ℕ) (c : List (ℕ × S)) → IsLawful t.plan h → why t.plan h x ≡ None → HasSlots shape gives t h (held_by t.plan h w) c → GivesBackBy shape t.plan h e c → GivesBackBy shape t.plan (h ++ x ∷ []) e c
  back_waits h e x w c lawful may old back r is = let b = back r is in (b.0, b.1, ready r b.0 b.1 b.2)
    where
      held_source : (s : Obj) (y : S) → c ≡ (slot_of t.plan (Source s), y) ∷ [] → (o : Option Run) → held_by t.plan h w ≡ o → HasSlots shape gives t h o c → held_by t.plan h w ≡ Some (Source s)
      held_source s y here None held empty = absurd (nil_cons (sym empty ∙ here))
        where
          nil_cons : {A : Type 0} {a : A} → [] ≡ a ∷ [] → ⊥
          nil_cons z = cc
      held_source s y here (Some q) held had =
          held ∙ ap Some (source_slot t.plan q s had.known (first_same (slot_of t.plan q) (slot_of t.plan (Source s)) had.cell y (sym had.here ∙ here)))
        where
          first_same : (k n : ℕ) (a b : S) → ◌≡◌ {A = List (ℕ × S)} ((k, a) ∷ []) ((n, b) ∷ []) → k ≡ n
          first_same k n a b same = ap (λ (l : List (ℕ × S)). (head_of k a l).0) same

      ready : (q : Run) (y : S) → c ≡ (slot_of t.plan q, y) ∷ [] → IsReadyFor shape t.plan h e q y → IsReadyFor shape t.plan (h ++ x ∷ []) e q y
      ready (Block b) y here old_ready = old_ready
      ready (Source s) y here old_ready =
          let waits = (held_cells_wait t.plan h lawful).handlers w s x (held_source s y here (held_by t.plan h w) refl old) may in
          (old_ready.0, old_ready.1 ∙ λ i. handler old_ready.0 (sym waits.times i) (sym waits.received i))

-- a pass with no events of its own holds nothing
pub holds_nothing : (plan : PlanView) (h : List Event) (w : ℕ) → of_worker w h ≡ [] → held_by plan h w ≡ None
unfolding of_worker
holds_nothing plan h w own = own_events_tell_what_is_held plan h [] w own ∙ nothing_is_held_first plan w
