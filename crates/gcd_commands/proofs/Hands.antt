-- What a command hands on.
use Rattle.std.proofs.Common.{◌≡◌, ℕ, List, Some, None, take, ap, refl, subst, sym}
use Rattle.std.specs.Prelude.{IfOk, Result, Ok, Err}
use Rattle.gcd_plan.specs.PlanView.{PlanView}
use Rattle.gcd_event.specs.declared.event.Event.{Event}
use Rattle.gcd_machine.specs.Stands.{StandsFor}
use Rattle.gcd_refinement.specs.MachineView.{MachineView}
use Rattle.gcd_history.specs.declared.state.State.{State}
use Rattle.gcd_commands.specs.End.{End, lawful_end, stop_end, unlawful_end}
use Rattle.gcd_commands.specs.Hands.{HandsCheck, HandsRun, IsJudgeOf, IsRunOf, found_of}
use Rattle.gcd_commands.specs.Hands.HandsCheck.{stopped as check_stopped}
use Rattle.gcd_commands.specs.Hands.HandsRun.{stopped as run_stopped}
use Rattle.gcd_commands.specs.Hands.IsJudgeOf.{lawful, barred}
use Rattle.gcd_commands.specs.Stories.{end_of}
use Rattle.gcd_commands.specs.declared.found.Found.TheVariants.{Run}
use Rattle.gcd_commands.specs.declared.stop.Stop.{Stop}
use Rattle.gcd_commands.specs.declared.story.Story.{Story}

-- a command that stops hands on the cause
pub stopped_run : {E : Type 0} (stops : Stop → Type 0) (declares : PlanView → Type 0) (stop : Stop) (r : Result Story E) → stops stop
    → IfOk r (λ s. stop_end stop ≡ Some (end_of s)) → IfOk r (λ s. s.found ≡ found_of stop)
    → IfOk r (λ s. HandsRun stops declares (end_of s) s.found)
stopped_run stops declares stop (Ok s) why told found = run_stopped (record { stop = stop; why = why; told = told; found_is = found })
stopped_run stops declares stop (Err e) why told found = tt

pub stopped_check : {E : Type 0} (stops : Stop → Type 0) (declares : PlanView → Type 0) (stop : Stop) (r : Result Story E) → stops stop
    → IfOk r (λ s. stop_end stop ≡ Some (end_of s)) → IfOk r (λ s. s.found ≡ found_of stop)
    → IfOk r (λ s. HandsCheck stops declares (end_of s) s.found)
stopped_check stops declares stop (Ok s) why told found = check_stopped (record { stop = stop; why = why; told = told; found_is = found })
stopped_check stops declares stop (Err e) why told found = tt

-- the machine of a run, said of the journal of the story that tells it
pub run_of : (plan : PlanView) (machine : MachineView) (h : List Event) (end : End) (s : Story) → end_of s ≡ end → end.journal ≡ h
    → StandsFor machine plan h → s.found ≡ Run plan machine → IsRunOf plan s.journal.items s.found
run_of plan machine h end s told journal_is stands found =
    let same : s.journal.items ≡ end.journal = ap (λ (e : End). e.journal) told in
    record {
      machine = machine;
      stands = subst (StandsFor machine plan) (sym same) (subst (StandsFor machine plan) (sym journal_is) stands);
      found_is = found;
    }

-- a machine that has taken events, said of the journal of the story that tells how they were judged
pub lawful_judge : {E : Type 0} (plan : PlanView) (machine : MachineView) (h : List Event) (state : State) (r : Result Story E)
    → StandsFor machine plan h → IfOk r (λ s. end_of s ≡ lawful_end h state) → IfOk r (λ s. s.found ≡ Run plan machine)
    → IfOk r (λ s. IsJudgeOf plan (end_of s) s.found)
lawful_judge plan machine h state (Ok s) stands told found =
    lawful (ap (λ (e : End). e.at) told) (run_of plan machine h (lawful_end h state) s told refl stands found)
lawful_judge plan machine h state (Err e) stands told found = tt

pub barred_judge : {E : Type 0} (plan : PlanView) (machine : MachineView) (h : List Event) (index : ℕ) (r : Result Story E)
    → StandsFor machine plan (take index h) → IfOk r (λ s. end_of s ≡ unlawful_end h index) → IfOk r (λ s. s.found ≡ Run plan machine)
    → IfOk r (λ s. IsJudgeOf plan (end_of s) s.found)
barred_judge plan machine h index (Ok s) stands told found =
    let same : s.journal.items ≡ h = ap (λ (e : End). e.journal) told in
    barred index (ap (λ (e : End). e.at) told)
    (record { machine = machine; stands = subst (λ (l : List Event). StandsFor machine plan (take index l)) (sym same) stands; found_is = found })
barred_judge plan machine h index (Err e) stands told found = tt
