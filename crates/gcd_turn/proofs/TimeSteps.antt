-- What each step of a turn keeps of what the clock said.
use Rattle.std.proofs.Common.{◌≡◌, ◌≤◌, ◌<◌, ◌+◌, ◌∙◌, ◌++◌, ◌⊎◌, ℕ, Bool, true, false, List, [], ◌∷◌, Some, length, sym, subst, arith, max, take, ⊎_elim, inl, inr}
use Rattle.std.specs.Prelude.{Contains}
use Rattle.std.proofs.lemmas.Bool.{cases_lt}
use Rattle.std.proofs.lemmas.List.{length_push, take-append-le, take_all}
use Rattle.std.proofs.lemmas.List.Elements.{Contains-push_cases}
use Rattle.gcd_plan.specs.PlanView.{PlanView}
use Rattle.gcd_event.specs.declared.event.Event.{Event}
use Rattle.gcd_event.specs.declared.event.Event.TheVariants.{Tick}
use Rattle.gcd_history.specs.History.{is_intake_open, next_due_of, running_of}
use Rattle.gcd_outer.specs.Outside.{ClockState, Seen}
use Rattle.gcd_turn.specs.Asked.{IsDueWait, WaitedFor}
use Rattle.gcd_turn.specs.Promises.{IsDueMoment, IsTimely, later_by}
use Rattle.gcd_turn.specs.Timing.{TimeKept}
use Rattle.gcd_turn.proofs.FeedSteps.{more_at}

due_moment_more : (plan : PlanView) (h : List Event) (e : Event) (start moment : ℕ) → IsDueMoment plan h start moment → IsDueMoment plan (h ++ e ∷ []) start moment
due_moment_more plan h e start moment is =
    let same = sym (take-append-le is.position h (e ∷ []) is.within) in
    record {
      position = is.position;
      due = is.due;
      within = let within = is.within in omega (arith, length_push h e, within);
      is_due = subst (λ (k : List Event). next_due_of plan k ≡ Some is.due) same is.is_due;
      resting = subst (λ (k : List Event). running_of plan k ≡ 0) same is.resting;
      shut = subst (λ (k : List Event). is_intake_open plan k ≡ false) same is.shut;
      moment_is = is.moment_is;
    }

-- an event more
pub time_more : (tells : Bool) (plan : PlanView) (stood placed : List Event) (e : Event) (before now : ClockState) (start : ℕ)
    → ((t : ℕ) → e ≡ Tick t → start + t ≤ now.present)
    → TimeKept tells plan stood placed before now start → TimeKept tells plan stood (placed ++ e ∷ []) before now start
time_more tells plan stood placed e before now start tick kept = record {
  since = kept.since;
  reached = kept.reached;
  exact = kept.exact;
  ticks = λ t stands.
      ⊎_elim (λ (old : Contains placed (Tick t)). kept.ticks t old) (λ (own : e ≡ Tick t). tick t own) (Contains-push_cases placed e (Tick t) stands);
  waited = λ told.
      ⊎_elim (λ (same : now.waited ≡ before.waited). inl same)
      (λ (is : IsDueMoment plan (stood ++ placed) start now.waited).
      inr (subst (λ (k : List Event). IsDueMoment plan k start now.waited) (sym (more_at stood placed e)) (due_moment_more plan (stood ++ placed) e start now.waited is)))
      (kept.waited told);
}

-- the clock goes on
pub time_on : (tells : Bool) (plan : PlanView) (stood placed : List Event) (before now next : ClockState) (start : ℕ)
    → now.present ≤ next.present → (tells ≡ true → next.waited ≡ now.waited)
    → TimeKept tells plan stood placed before now start → TimeKept tells plan stood placed before next start
time_on tells plan stood placed before now next start on same kept = record {
  since = kept.since;
  reached = let reached = kept.reached in omega (arith, on, reached);
  exact = kept.exact;
  ticks = λ t stands. let tick = kept.ticks t stands in omega (arith, on, tick);
  waited = λ told.
      ⊎_elim (λ (none : now.waited ≡ before.waited). inl (same told ∙ none))
      (λ (is : IsDueMoment plan (stood ++ placed) start now.waited).
      inr (subst (λ (m : ℕ). IsDueMoment plan (stood ++ placed) start m) (sym (same told)) is))
      (kept.waited told);
}

-- the greater of two numbers is one of them
max_is : (a b : ℕ) → (max a b ≡ a) ⊎ (max a b ≡ b)
max_is a b = ⊎_elim (λ (l : a < b). inr (omega arith)) (λ (g : b ≤ a). inl (omega arith)) (cases_lt a b)

-- the clock was waited on for a due time
pub time_waited : (tells : Bool) (plan : PlanView) (stood placed : List Event) (before now next : ClockState) (start : ℕ)
    → now.present ≤ next.present → (tells ≡ true → WaitedFor plan (stood ++ placed) start now next)
    → TimeKept tells plan stood placed before now start → TimeKept tells plan stood placed before next start
time_waited tells plan stood placed before now next start on for kept = record {
  since = kept.since;
  reached = let reached = kept.reached in omega (arith, on, reached);
  exact = kept.exact;
  ticks = λ t stands. let tick = kept.ticks t stands in omega (arith, on, tick);
  waited = λ told.
      let h : List Event = stood ++ placed in
      let whole : h ≡ take (length h) h = sym (take_all (length h) h (omega arith)) in
      let same : next.waited ≡ now.waited → (next.waited ≡ before.waited) ⊎ IsDueMoment plan h start next.waited =
      λ e. ⊎_elim (λ (none : now.waited ≡ before.waited). inl (e ∙ none))
      (λ (is : IsDueMoment plan h start now.waited). inr (subst (λ (m : ℕ). IsDueMoment plan h start m) (sym e) is)) (kept.waited told) in
      ⊎_elim same
      (λ (w : IsDueWait plan h start now next).
      ⊎_elim (λ (old : max now.waited (later_by start w.due) ≡ now.waited). same (w.waited ∙ old))
      (λ (own : max now.waited (later_by start w.due) ≡ later_by start w.due).
      inr (record {
        position = length h;
        due = w.due;
        within = omega arith;
        is_due = subst (λ (k : List Event). next_due_of plan k ≡ Some w.due) whole w.is_due;
        resting = subst (λ (k : List Event). running_of plan k ≡ 0) whole w.resting;
        shut = subst (λ (k : List Event). is_intake_open plan k ≡ false) whole w.shut;
        moment_is = w.waited ∙ own;
      }))
      (max_is now.waited (later_by start w.due)))
      (for told);
}

-- so no Tick is ahead of the clock, and waits are for due times
pub is_timely : (plan : PlanView) (stood placed : List Event) (seen : Seen ClockState) (start : ℕ)
    → TimeKept seen.tells plan stood placed seen.before seen.after start → IsTimely plan stood placed seen
is_timely plan stood placed seen start kept = record {
  ticks = λ t stands. let tick = kept.ticks t stands in let since = kept.since in omega (arith, tick, since);
  waits = λ told rose.
      ⊎_elim (λ (same : seen.after.waited ≡ seen.before.waited). absurd (omega (arith, same, rose)))
      (λ (is : IsDueMoment plan (stood ++ placed) start seen.after.waited).
      subst (λ (m : ℕ). IsDueMoment plan (stood ++ placed) m seen.after.waited) (kept.exact told) is)
      (kept.waited told);
}
