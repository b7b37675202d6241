-- What is promised of the outside follows from what holds between the turns.
use Rattle.std.proofs.Common.{◌≡◌, ◌≤◌, ◌<◌, ◌∙◌, ◌++◌, ℕ, true, List, [], ◌∷◌, None, length, ap, sym, subst, refl, arith, drop, ⊎_elim, inl}
use Rattle.std.specs.Prelude.{Contains}
use Rattle.std.proofs.lemmas.Bool.{both_ways}
use Rattle.std.proofs.lemmas.List.{drop_at}
use Rattle.std.proofs.lemmas.List.Elements.{Contains-push_cases}
use Rattle.gcd_plan.specs.PlanView.{PlanView}
use Rattle.gcd_event.specs.declared.event.Event.{Event}
use Rattle.gcd_event.specs.declared.event.Event.TheVariants.{Halt}
use Rattle.gcd_history.specs.Ends.{IsHalted, is_halted}
use Rattle.gcd_history.specs.History.{why}
use Rattle.gcd_outer.specs.Outside.{Rises, Seen}
use Rattle.gcd_outer.specs.Tells.{PollerState, told_of}
use Rattle.gcd_outer.specs.declared.tell.Tell.{Tell}
use Rattle.gcd_turn.specs.Hearing.{Heard}
use Rattle.gcd_turn.specs.Promises.{AreTold, Begins, FeedEnds, HaltsAtFaults, answers_in, readies_of, watches_in}
use Rattle.gcd_turn.specs.Turns.{OutlookView}
use Rattle.gcd_turn.proofs.FeedSteps.{more_at}
use Rattle.gcd_turn.proofs.HistoryMore.{halted_by_halt, unhalted_before}

pub are_told : (plan : PlanView) (stood placed : List Event) (seen : Seen PollerState) (o : OutlookView)
    → Heard plan stood placed seen.before seen.after o → AreTold plan stood placed seen
are_told plan stood placed seen o hd =
    let A : List (List Tell) = hd.spoken ++ hd.quiet in
    let answers : answers_in seen ≡ A =
    ap (drop (length seen.before.answers)) hd.answers ∙ drop_at seen.before.answers A (length seen.before.answers) refl in
    let watches : watches_in seen ≡ hd.more =
    ap (drop (length seen.before.watches)) hd.watches ∙ drop_at seen.before.watches hd.more (length seen.before.watches) refl in
    record {
      readies = λ s. subst (λ (B : List (List Tell)). Begins (told_of s B) (readies_of s placed)) (sym answers) (hd.feeds s).front;
      ends = λ s stands. subst (λ (B : List (List Tell)). FeedEnds seen.before seen.after B (readies_of s.0 placed) s.0) (sym answers) ((hd.feeds s.0).ends stands);
      live = λ s path made. hd.live s path (subst (λ (ws : List (ℕ × List ℕ)). Contains ws (s, path)) watches made);
      paths = λ s path made. hd.paths s path (subst (λ (ws : List (ℕ × List ℕ)). Contains ws (s, path)) watches made);
    }

-- ## Faults

-- the poller has not failed since
pub faults_same : (most : ℕ) (stood placed : List Event) (before now next : PollerState) → next.faults ≡ now.faults
    → HaltsAtFaults most stood placed before now → HaltsAtFaults most stood placed before next
faults_same most stood placed before now next same f = record {
  halts = λ stands. subst (λ (n : ℕ). Rises before.faults n) (sym same) (f.halts stands);
  stops = λ rose. f.stops (subst (λ (n : ℕ). before.faults < n) same rose);
}

-- an event that is no Halt
pub faults_more : (most : ℕ) (plan : PlanView) (stood placed : List Event) (e : Event) (before now : PollerState)
    → why plan (stood ++ placed) e ≡ None → length (stood ++ placed) < most → (e ≡ Halt → ⊥)
    → HaltsAtFaults most stood placed before now → HaltsAtFaults most stood (placed ++ e ∷ []) before now
faults_more most plan stood placed e before now permitted room other f = record {
  halts = λ stands.
      ⊎_elim (λ (old : Contains placed Halt). f.halts old) (λ (own : e ≡ Halt). absurd (other own)) (Contains-push_cases placed e Halt stands);
  stops = λ rose.
      ⊎_elim (λ (halted : IsHalted (stood ++ placed)). absurd (both_ways _ (unhalted_before plan (stood ++ placed) e permitted) halted))
      (λ (full : length (stood ++ placed) ≡ most). absurd (omega (arith, full, room))) (f.stops rose);
}

-- a Halt, where the poller failed
pub faults_halted : (most : ℕ) (stood placed : List Event) (before now next : PollerState) → before.faults ≤ now.faults → Rises now.faults next.faults
    → HaltsAtFaults most stood (placed ++ Halt ∷ []) before next
faults_halted most stood placed before now next low rises = record {
  halts = λ stands. omega (arith, low, rises);
  stops = λ rose. inl (subst (λ (k : List Event). is_halted k ≡ true) (sym (more_at stood placed Halt)) (halted_by_halt (stood ++ placed)));
}
