-- Steps of a run of jobs by worker 0 alone.
use Rattle.std.specs.Prelude.{OnOk}
use Rattle.std.proofs.Common.{◌≡◌, ◌<◌, ◌+◌, ◌∙◌, ◌++◌, ◌∷◌, ℕ, Result, Ok, Err, true, false, List, [], None, Some, length, refl, ap, sym, subst, arith, append_assoc}
use Rattle.std.proofs.lemmas.Bool.{and_from, or_parts}
use Rattle.std.proofs.lemmas.List.{length_push}
use Rattle.gcd_plan.specs.PlanView.{PlanView}
use Rattle.gcd_plan.specs.declared.numbers.Blk.{Blk}
use Rattle.gcd_event.specs.declared.event.Event.{Event}
use Rattle.gcd_event.specs.declared.event.Event.TheVariants.{Start, End}
use Rattle.gcd_history.specs.Choice.{is_work}
use Rattle.gcd_history.specs.Ends.{is_halted}
use Rattle.gcd_history.specs.Facts.{is_of_callers}
use Rattle.gcd_history.specs.History.{IsLawful, choice_of, next_of_intake, why}
use Rattle.gcd_history.proofs.Lists.{reverse_push}
use Rattle.gcd_history.proofs.Public.Laws.{choice_is_permitted}
use Rattle.gcd_history.proofs.Permitted.Lawful.{lawful_front}
use Rattle.gcd_jobs.proofs.ValuesMore.{end_fits}
use Rattle.gcd_loop.specs.Recorded.{Grows}
use Rattle.gcd_loop.proofs.Steps.{grows_none}
use Rattle.gcd_machine.proofs.Views.Calls.{lawful_stands}
use Rattle.gcd_machine.specs.Stands.{StandsFor}
use Rattle.gcd_pool.proofs.Admitting.{works_uncalled}
use Rattle.gcd_refinement.specs.MachineView.{MachineView}
use Rattle.gcd_row.proofs.Accepted.{next_stays}
use Rattle.gcd_workers.specs.AloneCalls.{CallsStay, Stays}
use Rattle.gcd_workers.specs.JobsKept.{HasRunAtOnce, IsBetween}
use Rattle.gcd_workers.specs.JobStates.{ComesToNoMore}
use Rattle.gcd_workers.specs.declared.job_state.JobState.{JobState}
use Rattle.gcd_workers.proofs.Calls.{calls_kept, calls_same, calls_through}

-- what came before is lawful
pub before : (plan : PlanView) (h : List Event) (e : Event) (m : MachineView) → StandsFor m plan (h ++ e ∷ []) → IsLawful plan h
before plan h e m stands = lawful_front plan h (e ∷ []) (lawful_stands m plan (h ++ e ∷ []) stands)

-- a block that may end is one of the plan
pub end_low : (plan : PlanView) (h : List Event) (w : ℕ) (b : Blk) → why plan h (End w b) ≡ None → b.0 < length plan.blocks
end_low plan h w b may = end_fits plan h (End w b) may

-- what worker 0 chooses is no event of outside callers
pub chosen_uncalled : (plan : PlanView) (h : List Event) (w from : ℕ) (e : Event) → choice_of plan h w from ≡ Some e → is_of_callers e ≡ false
chosen_uncalled plan h w from e chosen =
    let choice = choice_is_permitted plan h w from e chosen in
    (or_parts (is_of_callers e) false (works_uncalled (e ∷ []) (and_from (is_work e) true choice.work refl))).0

-- ## A block that starts and ends at once

pub grows_run : (h k : List Event) → HasRunAtOnce h k → Grows h k
grows_run h k ran = record {
  rest = Start 0 ran.0 ∷ End 0 ran.0 ∷ [];
  split = ran.1 ∙ append_assoc h (Start 0 ran.0 ∷ []) (End 0 ran.0 ∷ []);
  work = refl;
}

unhalted_end : (h : List Event) (w : ℕ) (b : Blk) → is_halted (h ++ End w b ∷ []) ≡ false
unfolding is_halted
unhalted_end h w b = rw reverse_push refl

pub between_run : (most : ℕ) (plan : PlanView) (h k : List Event) → length h + 2 < most → HasRunAtOnce h k → IsBetween most plan h k
between_run most plan h k room ran =
    let b = ran.0 in
    let start : List Event = h ++ Start 0 b ∷ [] in
    record {
      grows = grows_run h k ran;
      next = λ d is.
          subst (λ (l : List Event). next_of_intake plan l ≡ Some d) (sym ran.1)
          (next_stays plan start (End 0 b) refl ∙ next_stays plan h (Start 0 b) refl ∙ is);
      on = subst (λ (l : List Event). is_halted l ≡ false) (sym ran.1) (unhalted_end start 0 b);
      room = subst (λ (l : List Event). length l < most) (sym ran.1) (omega (arith, length_push h (Start 0 b), length_push start (End 0 b), room));
    }

pub between_none : (most : ℕ) (plan : PlanView) (h k : List Event) → k ≡ h → length h < most → is_halted h ≡ false → IsBetween most plan h k
between_none most plan h k same room on = record {
  grows = subst (Grows h) (sym same) (grows_none h);
  next = λ b is. ap (next_of_intake plan) same ∙ is;
  on = ap is_halted same ∙ on;
  room = subst (λ (l : List Event). length l < most) (sym same) room;
}

module _ {J : Type 0} (gives : J → ℕ → ℕ → Type 0) where
  pub stays_same : (h k : List Event) (old new : List (JobState J)) → k ≡ h → ComesToNoMore gives old new → Stays gives h k old new
  stays_same h k old new same fewer = record { calls = calls_same h k same; no_more = fewer }

  pub stays_one : (h k : List Event) (e : Event) (old new : List (JobState J)) → k ≡ h ++ e ∷ [] → is_of_callers e ≡ false → ComesToNoMore gives old new → Stays gives h k old new
  stays_one h k e old new is uncalled fewer = record { calls = subst (CallsStay h) (sym is) (calls_kept h e uncalled); no_more = fewer }

  pub stays_two : (h k : List Event) (e f : Event) (old new : List (JobState J)) → k ≡ (h ++ e ∷ []) ++ f ∷ [] → is_of_callers e ≡ false → is_of_callers f ≡ false
      → ComesToNoMore gives old new → Stays gives h k old new
  stays_two h k e f old new is first second fewer = record {
    calls = subst (CallsStay h) (sym is) (calls_through h (h ++ e ∷ []) ((h ++ e ∷ []) ++ f ∷ []) (calls_kept h e first) (calls_kept (h ++ e ∷ []) f second));
    no_more = fewer;
  }

  pub stays_through : (h k l : List Event) (old mid new : List (JobState J)) → Stays gives h k old mid → Stays gives k l mid new → Stays gives h l old new
  stays_through h k l old mid new first later = record {
    calls = calls_through h k l first.calls later.calls;
    no_more = λ b value may. first.no_more b value (later.no_more b value may);
  }

-- ## Answers that may be out of memory, and a step of a rush

pub on_ok : {T E : Type 0} {P Q : Type 0} (r : Result T E) → (P → Q) → OnOk r P → OnOk r Q
on_ok (Ok x) to is = to is
on_ok (Err e) to is = tt

pub more_run : (h k : List Event) → HasRunAtOnce h k → length h < length k
more_run h k ran =
    let start : List Event = h ++ Start 0 ran.0 ∷ [] in
    omega (arith, ap length ran.1, length_push h (Start 0 ran.0), length_push start (End 0 ran.0))
