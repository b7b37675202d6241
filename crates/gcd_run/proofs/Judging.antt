-- What `check` has to tell.
use Rattle.std.proofs.Common.{◌≡◌, ◌⊎◌, ◌∙◌, ℕ, true, List, Some, ap, sym, subst, inl, inr, refl}
use Rattle.gcd_plan.specs.PlanView.{PlanView}
use Rattle.gcd_plan.specs.Validity.{IsPlan}
use Rattle.gcd_event.specs.declared.event.Event.{Event}
use Rattle.gcd_history.specs.declared.state.State.{State}
use Rattle.gcd_history.proofs.Permitted.OneState.{one_state}
use Rattle.gcd_journal.specs.Judged.{IsFirstBarred}
use Rattle.gcd_journal.proofs.FirstBarred.{none_barred, one_barred}
use Rattle.gcd_outer.specs.Outside.{Bytes, ShelfFailed}
use Rattle.gcd_run.specs.Always.{HoldsJournal, HoldsScript, HoldsText, IsNoJournal, MustRefuse}
use Rattle.gcd_run.specs.Always.IsNoJournal.{unloaded as no_journal_unloaded, refused as no_journal_refused}
use Rattle.gcd_run.specs.Always.MustRefuse.{at_script as refuse_at_script, at_journal as refuse_at_journal}
use Rattle.gcd_commands.specs.Calls.{InputsSeen}
use Rattle.gcd_commands.specs.Checks.{CheckEnds, IsJournalAt, IsJudged, StopsCheck, StopsJournal}
use Rattle.gcd_commands.specs.Checks.CheckEnds.{stopped, judged}
use Rattle.gcd_commands.specs.Checks.IsJudged.{lawful, unlawful}
use Rattle.gcd_commands.specs.Checks.StopsCheck.{at_script, at_journal}
use Rattle.gcd_commands.specs.End.{End, lawful_end, read_fault, stop_end, unlawful_end}
use Rattle.gcd_commands.specs.Loads.{IsPlanOf}
use Rattle.gcd_run.specs.Statuses.{IsLawfulTo}
use Rattle.gcd_commands.specs.declared.status.Status.TheVariants.{Drained, JournalRefused}
use Rattle.gcd_commands.specs.declared.stop.Stop.{Stop}
use Rattle.gcd_commands.specs.declared.stop.Stop.TheVariants.{Memory}
use Rattle.gcd_run.proofs.Statuses.{some_end}
use Rattle.gcd_run.proofs.Told.{Fate, fate_map, journal_held, journal_stops, no_both, no_journal, no_plan, one_journal, one_journal_stop, one_plan, one_stop, script_held, script_stops}

-- what has to be told is told, or the shelf failed
abbrev pub Comes : InputsSeen → (expected end : End) → Type 0
Comes seen expected end = (end ≡ expected) ⊎ (ShelfFailed seen.shelf × (end ≡ read_fault))

-- nothing is told where memory ran out
pub untold : {A : Type 0} (stop : Stop) (end : End) → stop_end stop ≡ Some end → stop ≡ Memory → A
untold stop end is memory = let none : stop_end Memory ≡ Some end = subst (λ s. stop_end s ≡ Some end) memory is in absurd cc

-- what is told of a stop
end_of_stop : (found stop : Stop) (end expected : End) → stop_end found ≡ Some end → stop_end stop ≡ Some expected
    → stop_end found ≡ stop_end stop → end ≡ expected
end_of_stop found stop end expected is stop_is same = some_end (sym is ∙ same ∙ stop_is)

pub comes_by : (seen : InputsSeen) (stop found : Stop) (end expected : End) → stop_end found ≡ Some end → stop_end stop ≡ Some expected
    → Fate seen.shelf found (stop_end found ≡ stop_end stop) → Comes seen expected end
comes_by seen stop found end expected is stop_is (inl failed) = inr (failed.0, some_end (sym is ∙ failed.1))
comes_by seen stop found end expected is stop_is (inr (inl memory)) = untold found end is memory
comes_by seen stop found end expected is stop_is (inr (inr same)) = inl (end_of_stop found stop end expected is stop_is same)

-- a stop for which there is no cause
comes_failed : (seen : InputsSeen) (found : Stop) (end expected : End) → stop_end found ≡ Some end → Fate seen.shelf found ⊥
    → Comes seen expected end
comes_failed seen found end expected is (inl failed) = inr (failed.0, some_end (sym is ∙ failed.1))
comes_failed seen found end expected is (inr (inl memory)) = untold found end is memory
comes_failed seen found end expected is (inr (inr none)) = absurd none

module _ (seen : InputsSeen) (tells : seen.shelf.tells ≡ true) (script journal : Bytes) where
  -- the script that was read declares the plan that the shelf holds
  same_plan : (plan other : PlanView) → HoldsScript seen.shelf.before.content script plan → IsPlanOf seen.shelf script other → other ≡ plan
  same_plan plan other held is =
      one_plan seen.shelf.before.content script other plan (script_held seen.shelf tells script other is.script) held

  -- ## Where it has to stop

  -- what it tells of why it stops is one
  refuse_stops : (n : ℕ) (stop found : Stop) → MustRefuse seen.shelf.before.content script journal stop
      → StopsCheck seen.shelf script journal n found → Fate seen.shelf found (stop_end found ≡ stop_end stop)
  refuse_stops n stop found (refuse_at_script no_script) (at_script why one) =
      fate_map seen.shelf found (λ is. one_stop seen.shelf.before.content script found stop is no_script) (script_stops seen.shelf tells script found why)
  refuse_stops n stop found (refuse_at_script no_script) (at_journal other plan_is why two) =
      absurd (no_plan seen.shelf.before.content script other stop (script_held seen.shelf tells script other plan_is.script) no_script)
  refuse_stops n stop found (refuse_at_journal plan held none) (at_script why one) =
      fate_map seen.shelf found (λ no_script. absurd (no_plan seen.shelf.before.content script plan found held no_script)) (script_stops seen.shelf tells script found why)
  refuse_stops n stop found (refuse_at_journal plan held none) (at_journal other plan_is why two) =
      let same : other ≡ plan = same_plan plan other held plan_is in
      fate_map seen.shelf found
      (λ is. one_journal_stop seen.shelf.before.content journal plan (subst IsPlan same plan_is.valid) found stop is none)
      (journal_stops seen.shelf tells journal plan found (subst (λ (p : PlanView). StopsJournal seen.shelf journal p found) same why))

  -- no journal is judged
  unjudged : (plan : PlanView) (h : List Event) (stop : Stop) → IsPlanOf seen.shelf script plan → IsJournalAt seen.shelf journal plan h
      → MustRefuse seen.shelf.before.content script journal stop → ⊥
  unjudged plan h stop plan_is read (refuse_at_script no_script) =
      no_plan seen.shelf.before.content script plan stop (script_held seen.shelf tells script plan plan_is.script) no_script
  unjudged plan h stop plan_is read (refuse_at_journal other held none) =
      let same : plan ≡ other = same_plan other plan held plan_is in
      no_journal seen.shelf.before.content journal other (subst IsPlan same plan_is.valid) h stop
      (journal_held seen.shelf tells journal other h (subst (λ (p : PlanView). IsJournalAt seen.shelf journal p h) same read)) none

  pub check_stops : (n : ℕ) (stop : Stop) (end expected : End) → MustRefuse seen.shelf.before.content script journal stop
      → stop_end stop ≡ Some expected → CheckEnds seen.shelf script journal n end → Comes seen expected end
  check_stops n stop end expected must stop_is (stopped found why at) =
      comes_by seen stop found end expected at stop_is (refuse_stops n stop found must why)
  check_stops n stop end expected must stop_is (judged plan h plan_is read is two) = absurd (unjudged plan h stop plan_is read must)

  -- ## Where it has to judge

  module _ (plan : PlanView) (h : List Event) (declares : HoldsScript seen.shelf.before.content script plan)
      (holds : HoldsJournal seen.shelf.before.content journal plan h) where
    -- there is no cause to stop
    goes_on : (n : ℕ) (found : Stop) → StopsCheck seen.shelf script journal n found → Fate seen.shelf found ⊥
    goes_on n found (at_script why one) =
        fate_map seen.shelf found (λ no_script. no_plan seen.shelf.before.content script plan found declares no_script) (script_stops seen.shelf tells script found why)
    goes_on n found (at_journal other plan_is why two) =
        let same : other ≡ plan = same_plan plan other declares plan_is in
        fate_map seen.shelf found
        (λ none. no_journal seen.shelf.before.content journal plan (subst IsPlan same plan_is.valid) h found holds none)
        (journal_stops seen.shelf tells journal plan found (subst (λ (p : PlanView). StopsJournal seen.shelf journal p found) same why))

    -- what is judged is the journal that the shelf holds
    same_judged : (other : PlanView) (k : List Event) (end : End) → IsPlanOf seen.shelf script other
        → IsJournalAt seen.shelf journal other k → IsJudged other k end → IsJudged plan h end
    same_judged other k end plan_is read is =
        let same : other ≡ plan = same_plan plan other declares plan_is in
        let there : IsJournalAt seen.shelf journal plan k = subst (λ (p : PlanView). IsJournalAt seen.shelf journal p k) same read in
        let events : k ≡ h = one_journal seen.shelf.before.content journal plan (subst IsPlan same plan_is.valid) k h
        (journal_held seen.shelf tells journal plan k there) holds in
        subst (λ (l : List Event). IsJudged plan l end) events (subst (λ (p : PlanView). IsJudged p k end) same is)

    comes_judged : (n : ℕ) (end expected : End) → (IsJudged plan h end → end ≡ expected) → CheckEnds seen.shelf script journal n end
        → Comes seen expected end
    comes_judged n end expected f (stopped found why at) = comes_failed seen found end expected at (goes_on n found why)
    comes_judged n end expected f (judged other k plan_is read is two) = inl (f (same_judged other k end plan_is read is))

    passes : (state : State) (end : End) → IsLawfulTo state plan h → IsJudged plan h end → end ≡ lawful_end h state
    passes state end is (unlawful index barred end_is) = absurd (none_barred plan h index is.lawful barred)
    passes state end is (lawful other law state_is end_is) = end_is ∙ ap (lawful_end h) (one_state plan h other state state_is is.state_is)

    bars : (index : ℕ) (end : End) → IsFirstBarred plan h index → IsJudged plan h end → end ≡ unlawful_end h index
    bars index end is (unlawful other barred end_is) = end_is ∙ ap (unlawful_end h) (one_barred plan h other index barred is)
    bars index end is (lawful state law state_is end_is) = absurd (none_barred plan h index law is)

    pub check_passes : (state : State) → IsLawfulTo state plan h → (n : ℕ) (end : End) → CheckEnds seen.shelf script journal n end
        → Comes seen (lawful_end h state) end
    check_passes state is n end ends = comes_judged n end (lawful_end h state) (passes state end is) ends

    pub check_bars : (index : ℕ) → IsFirstBarred plan h index → (n : ℕ) (end : End) → CheckEnds seen.shelf script journal n end
        → Comes seen (unlawful_end h index) end
    check_bars index is n end ends = comes_judged n end (unlawful_end h index) (bars index end is) ends

  -- ## Where nothing fails

  -- a text is judged, or refused at a line
  abbrev pub Judged : End → Type 0
  Judged end = (end.status ≡ Drained) ⊎ (end.status ≡ JournalRefused)

  module _ (works : ShelfFailed seen.shelf → ⊥) (plan : PlanView) (text : Bytes) (declares : HoldsScript seen.shelf.before.content script plan)
      (holds : HoldsText seen.shelf.before.content journal text) where
    no_stop : (found : Stop) (end : End) → stop_end found ≡ Some end → Fate seen.shelf found ⊥ → Judged end
    no_stop found end at (inl failed) = absurd (works failed.0)
    no_stop found end at (inr (inl memory)) = untold found end at memory
    no_stop found end at (inr (inr none)) = absurd none

    is_refused : (other : PlanView) (found : Stop) (end : End) → stop_end found ≡ Some end
        → Fate seen.shelf found (IsNoJournal seen.shelf.before.content journal other found) → Judged end
    is_refused other found end at (inl failed) = absurd (works failed.0)
    is_refused other found end at (inr (inl memory)) = untold found end at memory
    is_refused other found end at (inr (inr (no_journal_unloaded is))) = absurd (no_both holds is)
    is_refused other found end at (inr (inr (no_journal_refused line_text line cause held fault stop_is))) =
        inr (ap (λ (e : End). e.status) (some_end (sym at ∙ ap stop_end stop_is)))

    pub is_judged : (n : ℕ) (end : End) → CheckEnds seen.shelf script journal n end → Judged end
    is_judged n end (stopped found (at_script why one) at) =
        no_stop found end at
        (fate_map seen.shelf found (λ no_script. no_plan seen.shelf.before.content script plan found declares no_script) (script_stops seen.shelf tells script found why))
    is_judged n end (stopped found (at_journal other plan_is why two) at) =
        is_refused other found end at (journal_stops seen.shelf tells journal other found why)
    is_judged n end (judged other k plan_is read (unlawful index barred is) two) = inr (ap (λ (e : End). e.status) is)
    is_judged n end (judged other k plan_is read (lawful state law state_is is) two) = inl (ap (λ (e : End). e.status) is)
