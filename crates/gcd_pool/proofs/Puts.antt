-- What a pass is after it has looked or put an event.
use Rattle.std.proofs.Common.{◌≡◌, ℕ, List, [], ◌∷◌, ◌++◌, Option, Some, None, sym, refl, ap, ◌∙◌, subst}
use Rattle.std.proofs.lemmas.List.{append_cancel_right}
use Rattle.std.proofs.lemmas.Option.{same_Some}
use Rattle.gcd_plan.specs.declared.numbers.Run.{Run}
use Rattle.gcd_event.specs.declared.event.Event.{Event}
use Rattle.gcd_history.specs.Choice.{worker_of}
use Rattle.gcd_history.specs.History.{why, IsLawful}
use Rattle.gcd_history.proofs.Permitted.Lawful.{lawful_front}
use Rattle.gcd_history.specs.Team.{held_by, StartsWith}
use Rattle.gcd_history.proofs.HeldRuns.OwnEvents.{own_events_tell_what_is_held}
use Rattle.gcd_history.proofs.Public.TeamLaws.{givings_are_the_holders}
use Rattle.gcd_row.specs.Shapes.{Shape}
use Rattle.gcd_row.specs.Lying.{slot_of, HasSlots, GivesBack}
use Rattle.gcd_row.specs.Jobs.{held_jobs}
use Rattle.gcd_row.specs.Views.{held_run, knowing, known, noting}
use Rattle.gcd_row.specs.Plays.{Turned}
use Rattle.gcd_row.specs.Passes.{IsPassOf, Ahead, IsPlaced, Sees, Says, SaysSlots, slots, view}
use Rattle.gcd_row.specs.declared.board.RowBoard.{RowBoard}
use Rattle.gcd_row.specs.declared.pass.RowPass.{RowPass}
use Rattle.gcd_machine.specs.declared.put.Put.{Put}
use Rattle.gcd_machine.specs.declared.put.Put.TheVariants.{Placed, Barred, Held, Full}
use Rattle.gcd_row.specs.declared.view.Handed.{Handed}
use Rattle.gcd_row.specs.declared.view.PassMarks.{PassMarks}
use Rattle.gcd_row.specs.declared.view.View.{View}
use Rattle.gcd_row.proofs.Fronts.{starts_refl, starts_trans, starts_more}
use Rattle.gcd_row.proofs.Passing.{lawful_seen, valid_plan}
use Rattle.gcd_event.specs.Owners.{ended}
use Rattle.gcd_pool.specs.Hands.{GoesOn, IsFresh, IsFreshAt, IsSettled}
use Rattle.gcd_pool.proofs.Fresh.{back_ahead, back_of_fresh, fresh_ahead, fresh_given, fresh_own, given_is_ended, ready_ahead}

-- ## Going on

module _ {S : Type 0} where
  pub goes_nowhere : (v : View S) → GoesOn v v
  goes_nowhere v = record { is = refl; more = starts_refl v.seen }

  pub same_goes_on : (v w : View S) → w ≡ v → GoesOn v w
  same_goes_on v w same = subst (GoesOn v) (sym same) (goes_nowhere v)

  pub goes_further : (v u w : View S) → GoesOn v u → GoesOn u w → GoesOn v w
  goes_further v u w a b = record {
    is = b.is ∙ ap (λ (x : View S). noting (knowing x w.seen w.marks) w.first w.handed) a.is;
    more = starts_trans w.seen u.seen v.seen b.more a.more;
  }

  pub goes_worker : (v w : View S) → GoesOn v w → w.worker ≡ v.worker
  goes_worker v w go = ap (λ (x : View S). x.worker) go.is

  -- what it knows of the passed words is what it knows
  pub knows_marks : (v w : View S) (m : PassMarks) → w ≡ knowing v w.seen m → w ≡ knowing v w.seen w.marks
  knows_marks v w m is = is ∙ ap (λ (k : PassMarks). knowing v w.seen k) (sym (ap (λ (x : View S). x.marks) is))

  -- it has noted nothing
  pub knowing_goes_on : (v w : View S) → w ≡ knowing v w.seen w.marks → StartsWith w.seen v.seen → GoesOn v w
  knowing_goes_on v w is more = record {
    is = is ∙ ap (λ (c : Option S). noting (knowing v w.seen w.marks) c v.handed) (sym (ap (λ (x : View S). x.first) is))
        ∙ ap (λ (n : Handed S). noting (knowing v w.seen w.marks) w.first n) (sym (ap (λ (x : View S). x.handed) is));
    more = more;
  }

  pub sees_is : (v w : View S) → Sees v w → w ≡ knowing v w.seen w.marks
  sees_is v w l = knows_marks v w (known v w) l.is

  pub sees_goes_on : (v w : View S) → Sees v w → GoesOn v w
  sees_goes_on v w l = knowing_goes_on v w (sees_is v w l) l.ahead.more

  -- it knows something else of the passed words, and nothing more
  pub passing_goes_on : (v w : View S) → w ≡ knowing v v.seen w.marks → GoesOn v w
  passing_goes_on v w is =
      let seen : w.seen ≡ v.seen = ap (λ (x : View S). x.seen) is in
      knowing_goes_on v w (is ∙ ap (λ (l : List Event). knowing v l w.marks) (sym seen)) (subst (λ (l : List Event). StartsWith l v.seen) (sym seen) (starts_refl v.seen))

  pub placed_seen : (e : Event) (v w : View S) (n : ℕ) (p : IsPlaced e v w n) → w.seen ≡ p.history ++ e ∷ []
  placed_seen e v w n p = ap (λ (x : View S). x.seen) p.is

  pub says_goes_on : (e : Event) (v w : View S) (r : Put) → Says e v w r → GoesOn v w
  says_goes_on e v w (Placed n) p =
      let seen : w.seen ≡ p.history ++ e ∷ [] = placed_seen e v w n p in
      record {
        is = p.is ∙ ap (λ (l : List Event). noting (knowing v l (known v w)) w.first w.handed) (sym seen)
            ∙ ap (λ (k : PassMarks). noting (knowing v w.seen k) w.first w.handed) (sym (ap (λ (x : View S). x.marks) p.is));
        more = subst (λ (l : List Event). StartsWith l v.seen) (sym seen) (starts_trans (p.history ++ e ∷ []) p.history v.seen (starts_more p.history e) p.ahead.more);
      }
  says_goes_on e v w (Barred at y) p = sees_goes_on v w p.0.sees
  says_goes_on e v w (Held by passed) p = sees_goes_on v w p.0.sees
  says_goes_on e v w Full p = knowing_goes_on v w (knows_marks v w (known v w) p.0) p.1.more

module _ {S : Type 0} (shape : S → Shape) (gives : S → ℕ → Type 0) (b : RowBoard S) where
  -- the history that a pass has seen is lawful
  lawful_as : (v : View S) (q : RowPass S) → IsPassOf shape gives b q → GoesOn v (view q) → IsLawful v.terms.plan (view q).seen
  lawful_as v q is go = subst (λ (x : View S). IsLawful x.terms.plan (view q).seen) go.is (lawful_seen shape gives b q is)

  fresh_as : (v w : View S) (c : List (ℕ × S)) → GoesOn v w → IsFreshAt shape v.terms.plan w.seen v.worker c → IsFresh shape w c
  fresh_as v w c go fresh = subst (λ (x : View S). IsFreshAt shape x.terms.plan w.seen x.worker c) (sym go.is) fresh

  -- ## The cell that was not used

  pub ahead_fresh : (p q : RowPass S) → IsPassOf shape gives b q → GoesOn (view p) (view q) → Ahead (view p) (view q).seen → slots q ≡ slots p → IsFresh shape (view p) (slots p) → IsFresh shape (view q) (slots q)
  ahead_fresh p q is go ahead slots_same fresh =
      let v = view p in
      fresh_as v (view q) (slots q) go
      (subst (IsFreshAt shape v.terms.plan (view q).seen v.worker) (sym slots_same)
      (fresh_ahead shape v.terms.plan v.seen (view q).seen v.worker (slots p) (lawful_as v q is go) ahead.more ahead.own fresh))

  pub sees_fresh : (p q : RowPass S) → IsPassOf shape gives b q → Sees (view p) (view q) → slots q ≡ slots p → IsFresh shape (view p) (slots p) → IsFresh shape (view q) (slots q)
  sees_fresh p q is l same fresh = ahead_fresh p q is (sees_goes_on (view p) (view q) l) l.ahead same fresh

  placed_fresh : (p q : RowPass S) (e : Event) (n : ℕ) → IsPassOf shape gives b q → worker_of e ≡ (view p).worker
      → (s : IsPlaced e (view p) (view q) n) → (job : ℕ → Option S) → Turned shape gives (record { plan = (view p).terms.plan; job = job }) s.history e (slots p) (slots q) → IsFresh shape (view p) (slots p) → IsFresh shape (view q) (slots q)
  placed_fresh p q e n is mine s job turned fresh =
      let v = view p in
      let go = says_goes_on e v (view q) (Placed n) s in
      let seen : (view q).seen ≡ s.history ++ e ∷ [] = placed_seen e v (view q) n s in
      let after : IsLawful v.terms.plan (s.history ++ e ∷ []) = subst (IsLawful v.terms.plan) seen (lawful_as v q is go) in
      let before : IsLawful v.terms.plan s.history = lawful_front v.terms.plan s.history (e ∷ []) after in
      let then_fresh : IsFreshAt shape v.terms.plan s.history v.worker (slots p) = fresh_ahead shape v.terms.plan v.seen s.history v.worker (slots p) before s.ahead.more s.ahead.own fresh in
      let now_fresh : IsFreshAt shape v.terms.plan (s.history ++ e ∷ []) (worker_of e) (slots q) =
      fresh_own shape gives (record { plan = v.terms.plan; job = job }) s.history e (slots p) (slots q) before s.may turned (subst (λ (w : ℕ). IsFreshAt shape v.terms.plan s.history w (slots p)) (sym mine) then_fresh) in
      fresh_as v (view q) (slots q) go
      (subst (λ (l : List Event). IsFreshAt shape v.terms.plan l v.worker (slots q)) (sym seen)
      (subst (λ (w : ℕ). IsFreshAt shape v.terms.plan (s.history ++ e ∷ []) w (slots q)) mine now_fresh))

  -- whatever `put` answers
  pub says_fresh : (p q : RowPass S) (e : Event) (r : Put) → IsPassOf shape gives b q → worker_of e ≡ (view p).worker
      → Says e (view p) (view q) r → SaysSlots shape gives e (slots p) (slots q) (view q) r → IsFresh shape (view p) (slots p) → IsFresh shape (view q) (slots q)
  says_fresh p q e (Placed n) is mine s t fresh =
      let v = view p in
      let go = says_goes_on e v (view q) (Placed n) s in
      let one : t.0 ≡ s.history = append_cancel_right t.0 s.history (e ∷ []) (sym t.1 ∙ placed_seen e v (view q) n s) in
      let job = (held_jobs (view q)).job in
      let turned : Turned shape gives (record { plan = v.terms.plan; job = job }) s.history e (slots p) (slots q) =
      subst (λ (l : List Event). Turned shape gives (record { plan = v.terms.plan; job = job }) l e (slots p) (slots q)) one
      (subst (λ (x : View S). Turned shape gives (record { plan = x.terms.plan; job = job }) t.0 e (slots p) (slots q)) go.is t.2) in
      placed_fresh p q e n is mine s job turned fresh
  says_fresh p q e (Barred at y) is mine s t fresh = sees_fresh p q is s.0.sees t fresh
  says_fresh p q e (Held by passed) is mine s t fresh = sees_fresh p q is s.0.sees t fresh
  says_fresh p q e Full is mine s t fresh = ahead_fresh p q is (says_goes_on e (view p) (view q) Full s) s.1 t fresh

  -- ## The cell that is ready

  pub settled_gives : (v : View S) (e : Event) (c : List (ℕ × S)) → IsSettled shape v e c → GivesBack shape v.terms v.seen e c
  settled_gives v e c s = λ r gave.
      let same : s.run ≡ r = same_Some s.run r (sym (given_is_ended v.terms.plan e s.run s.ends) ∙ gave) in
      subst (λ (k : Run). (x : S) × (c ≡ (slot_of v.terms.plan k, x) ∷ []) × Rattle.gcd_row.specs.Lying.IsReadyFor shape v.terms.plan v.seen e k x) same (s.cell, s.here, s.ready)

  pub settled_ahead : (p q : RowPass S) (e : Event) → IsPassOf shape gives b q → GoesOn (view p) (view q) → Ahead (view p) (view q).seen → slots q ≡ slots p → IsSettled shape (view p) e (slots p) → IsSettled shape (view q) e (slots q)
  settled_ahead p q e is goes ahead same s =
      let v = view p in
      let w_seen = (view q).seen in
      subst (λ (x : View S). IsSettled shape x e (slots q)) (sym goes.is) (record {
        run = s.run;
        held = own_events_tell_what_is_held v.terms.plan w_seen v.seen v.worker ahead.own ∙ s.held;
        ends = s.ends;
        cell = s.cell;
        here = same ∙ s.here;
        ready = ready_ahead shape v.terms.plan v.seen w_seen v.worker e s.run s.cell (lawful_as v q is goes) ahead.more ahead.own s.held s.ready;
      })

  -- what is ready to be given back stays so while others go on
  pub gives_ahead : (p q : RowPass S) (e : Event) → IsPassOf shape gives b p → IsPassOf shape gives b q → GoesOn (view p) (view q) → Ahead (view p) (view q).seen → slots q ≡ slots p
      → GivesBack shape (view p).terms (view p).seen e (slots p) → GivesBack shape (view q).terms (view q).seen e (slots q)
  gives_ahead p q e was is goes ahead same back =
      let v = view p in
      let w_seen = (view q).seen in
      subst (λ (x : View S). GivesBack shape x.terms w_seen e (slots q)) (sym goes.is)
      (subst (λ (c : List (ℕ × S)). GivesBack shape v.terms w_seen e c) (sym same)
      (back_ahead shape gives (held_jobs v) v.seen w_seen v.worker e (slots p) (lawful_as v q is goes) ahead.more ahead.own was.has back))

  pub settled_placed : (p q : RowPass S) (e : Event) (n : ℕ) → worker_of e ≡ (view p).worker → Says e (view p) (view q) (Placed n) → IsSettled shape (view p) e (slots p) → IsFresh shape (view q) (slots q)
  settled_placed p q e n mine says s =
      let v = view p in
      let go = says_goes_on e v (view q) (Placed n) says in
      fresh_as v (view q) (slots q) go
      (subst (λ (l : List Event). IsFreshAt shape v.terms.plan l v.worker (slots q)) (sym (placed_seen e v (view q) n says))
      (subst (λ (w : ℕ). IsFreshAt shape v.terms.plan (says.history ++ e ∷ []) w (slots q)) mine
      (fresh_given shape gives (held_jobs v) says.history e s.run (slots q) (given_is_ended v.terms.plan e s.run s.ends))))

  -- ## What its own event asks

  pub fresh_gives : (p : RowPass S) (e : Event) → IsPassOf shape gives b p → worker_of e ≡ (view p).worker → why (view p).terms.plan (view p).seen e ≡ None → ended e ≡ None → IsFresh shape (view p) (slots p) → GivesBack shape (view p).terms (view p).seen e (slots p)
  fresh_gives p e is mine may ends fresh =
      let v = view p in
      back_of_fresh shape gives (held_jobs v) v.seen e (slots p) (valid_plan shape gives b p is) (lawful_seen shape gives b p is) may ends
      (subst (λ (w : ℕ). HasSlots shape gives (held_jobs v) v.seen (held_by v.terms.plan v.seen w) (slots p)) (sym mine) is.has)
      (subst (λ (w : ℕ). IsFreshAt shape v.terms.plan v.seen w (slots p)) (sym mine) fresh)

  -- who may end a run holds it
  pub ended_held : (p : RowPass S) (e : Event) (r : Run) → IsPassOf shape gives b p → worker_of e ≡ (view p).worker → why (view p).terms.plan (view p).seen e ≡ None → ended e ≡ Some r → held_run (view p) ≡ Some r
  ended_held p e r is mine may ends =
      let v = view p in
      subst (λ (w : ℕ). held_by v.terms.plan v.seen w ≡ Some r) mine
      (givings_are_the_holders v.terms.plan v.seen (lawful_seen shape gives b p is) e r (given_is_ended v.terms.plan e r ends) may)
