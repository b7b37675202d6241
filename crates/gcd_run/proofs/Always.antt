-- What the call has to tell, by the way in which it ends.
use Rattle.std.proofs.Common.{◌≡◌, ◌≢◌, ◌⊎◌, ◌∙◌, ℕ, true, List, [], ◌∷◌, ◌++◌, Option, Some, None, ⊎_elim, reverse, ap, refl, sym, subst, inl, inr, arith}
use Rattle.std.specs.Prelude.{Ok, Err, Contains, IsTrue}
use Rattle.std.proofs.lemmas.Bool.{false≢true}
use Rattle.std.proofs.lemmas.List.{reverse-append, reverse-reverse}
use Rattle.std.proofs.lemmas.List.Elements.{Contains-append_right}
use Rattle.gcd_plan.specs.Limits.{max_events}
use Rattle.gcd_plan.specs.PlanView.{PlanView, IntakeView}
use Rattle.gcd_event.specs.declared.event.Event.{Event}
use Rattle.gcd_event.specs.declared.event.Event.TheVariants.{Halt}
use Rattle.gcd_history.specs.Ends.{HasState, ends_in_halt}
use Rattle.gcd_history.specs.Permitted as permitted
use Rattle.gcd_history.specs.declared.state.State.{State}
use Rattle.gcd_history.specs.declared.state.State.TheVariants.{Halted}
use Rattle.gcd_outer.specs.Outside.{Bytes, Seen, SinkState}
use Rattle.gcd_words.specs.Asked.{Asked, RunAsked, request_of, run, check, big, front}
use Rattle.gcd_run.specs.Always.{Always, Answers, ChecksText, Gives, HoldsScript, IsNoScript, MustStop, MustStopFront, NothingFailed, files_at}
use Rattle.gcd_run.specs.Always.MustStop.{at_script as must_at_script, at_file as must_at_file}
use Rattle.gcd_run.specs.Always.MustStopFront.{at_script as must_front_at_script, at_intake as must_at_intake, at_file as must_front_at_file}
use Rattle.gcd_commands.specs.Calls.{Calls, InputsSeen, Made, only_loads}
use Rattle.gcd_commands.specs.Checks.{CheckEnds}
use Rattle.gcd_commands.specs.End.{End, lawful_end, read_fault, stop_end, unlawful_end, usage_end}
use Rattle.gcd_run.specs.Ends.{AskedEnds, CallEnds, HasStatus, IsWritten, OutsideSeen}
use Rattle.gcd_run.specs.Ends.CallEnds.{reported, wanting}
use Rattle.gcd_run.specs.Ends.IsWritten.{whole, cut_off}
use Rattle.gcd_commands.specs.Fronts.{FrontEnds, StopsFront, front_workers}
use Rattle.gcd_commands.specs.Fronts.FrontEnds.{stopped as front_stopped, ran as front_ran}
use Rattle.gcd_commands.specs.Fronts.StopsFront.{at_script as front_at_script, at_intake, at_file as front_at_file, wanting as front_wanting}
use Rattle.gcd_commands.specs.Loads.{IsPlanOf, IsReady, StopsReady}
use Rattle.gcd_commands.specs.Loads.StopsReady.{at_script, at_file}
use Rattle.gcd_commands.specs.Runs.{BigEnds, Ran, RunEnds}
use Rattle.gcd_commands.specs.Runs.RunEnds.{stopped, ran}
use Rattle.gcd_commands.specs.Runs.StopsRun.{unready, at_listen, wanting as run_wanting}
use Rattle.gcd_commands.specs.StatusCodes.{status_code, status_of}
use Rattle.gcd_run.specs.Statuses.{Asks, Runs}
use Rattle.gcd_commands.specs.declared.status.Status.TheVariants.{Drained, JournalRefused}
use Rattle.gcd_commands.specs.declared.stop.Stop.{Stop}
use Rattle.gcd_run.specs.declared.ended.Ended.{Ended}
use Rattle.gcd_run.proofs.Judging.{Comes, check_bars, check_passes, check_stops, comes_by, is_judged, untold}
use Rattle.gcd_run.proofs.Statuses.{runs_beside, runs_large, runs_script}
use Rattle.gcd_run.proofs.Told.{Fate, fate_map, file_stops, files_held, no_both, no_plan, one_plan, one_stop, same_err, script_held, script_stops}

-- ## A halted journal has a Halt

is_the_halt : (e : Event) → permitted.is_halt e ≡ true → e ≡ Halt
is_the_halt Halt is = refl
is_the_halt e is = absurd (false≢true is)

halt_at_front : (back : List Event) → permitted.ends_in_halt back ≡ true → Contains (reverse back) Halt
halt_at_front [] is = absurd (false≢true is)
halt_at_front (e ∷ past) is =
    subst (λ (l : List Event). Contains l Halt) (sym (reverse-append (e ∷ []) past))
    (subst (λ (x : Event). Contains (reverse past ++ (x ∷ [])) Halt) (sym (is_the_halt e is))
    (Contains-append_right (reverse past) (Halt ∷ []) Halt (0, omega arith, refl)))

halted_has_halt : (h : List Event) → IsTrue (ends_in_halt h) → Contains h Halt
unfolding ends_in_halt
halted_has_halt h is = subst (λ (l : List Event). Contains l Halt) (reverse-reverse h) (halt_at_front (reverse h) is)

-- where the poller did not fail, no run is halted
unhalted : (outside : OutsideSeen) → NothingFailed outside → (plan : PlanView) (workers most : ℕ) (calls : List Event → Type 0)
    (h : List Event) (state : State) → Ran outside.inputs.poller outside.inputs.clock plan workers most calls h state → state ≢ Halted
unhalted outside works plan workers most calls h state r halted =
    works.poller_works (r.run.heard.faults.halts (halted_has_halt h (subst (HasState plan h) halted r.over.state_is)))

-- ## What is told of a run

module _ (seen : InputsSeen) (tells : seen.shelf.tells ≡ true) (name : Bytes) where
  -- a script that is ready has no cause to stop
  ready_goes_on : (plan : PlanView) (contents : List Bytes) (stop : Stop) → IsReady seen.shelf name plan contents
      → MustStop seen.shelf.before.content name stop → ⊥
  ready_goes_on plan contents stop ready (must_at_script no_script) =
      no_plan seen.shelf.before.content name plan stop (script_held seen.shelf tells name plan ready.plan_is.script) no_script
  ready_goes_on plan contents stop ready (must_at_file other held is) =
      let same : plan ≡ other = one_plan seen.shelf.before.content name plan other (script_held seen.shelf tells name plan ready.plan_is.script) held in
      let all : files_at seen.shelf.before.content other.files ≡ Ok contents =
      subst (λ (p : PlanView). files_at seen.shelf.before.content p.files ≡ Ok contents) same (files_held seen.shelf tells plan.files contents ready.loaded) in
      no_both all is

  -- why a script stops is one
  ready_stops : (n : ℕ) (stop found : Stop) → MustStop seen.shelf.before.content name stop → StopsReady seen.shelf name n found
      → Fate seen.shelf found (stop_end found ≡ stop_end stop)
  ready_stops n stop found (must_at_script no_script) (at_script why one) =
      fate_map seen.shelf found (λ is. one_stop seen.shelf.before.content name found stop is no_script) (script_stops seen.shelf tells name found why)
  ready_stops n stop found (must_at_script no_script) (at_file plan f plan_is stops two) =
      absurd (no_plan seen.shelf.before.content name plan stop (script_held seen.shelf tells name plan plan_is.script) no_script)
  ready_stops n stop found (must_at_file plan held is) (at_script why one) =
      fate_map seen.shelf found (λ no_script. absurd (no_plan seen.shelf.before.content name plan found held no_script)) (script_stops seen.shelf tells name found why)
  ready_stops n stop found (must_at_file plan held is) (at_file other f plan_is stops two) =
      let same : other ≡ plan = one_plan seen.shelf.before.content name other plan (script_held seen.shelf tells name other plan_is.script) held in
      fate_map seen.shelf found
      (λ at. ap stop_end (same_err (subst (λ (p : PlanView). files_at seen.shelf.before.content p.files ≡ Err found) same at) is))
      (file_stops seen.shelf tells other.files f found stops)

  -- a run that has to stop does
  run_stops : (asked : RunAsked) → asked.script ≡ name → (calls : Calls) (stop : Stop) (end expected : End)
      → MustStop seen.shelf.before.content name stop → stop_end stop ≡ Some expected → RunEnds seen asked calls end → Comes seen expected end
  run_stops asked same calls stop end expected must stop_is (stopped found (unready n why is) at) =
      comes_by seen stop found end expected at stop_is (ready_stops n stop found must (subst (λ s. StopsReady seen.shelf s n found) same why))
  run_stops asked same calls stop end expected must stop_is (stopped found (at_listen plan contents address ready listen failed found_is is) at) =
      absurd (ready_goes_on plan contents stop (subst (λ s. IsReady seen.shelf s plan contents) same ready) must)
  run_stops asked same calls stop end expected must stop_is (stopped found (run_wanting plan contents ready found_is is) at) =
      untold found end at found_is
  run_stops asked same calls stop end expected must stop_is (ran plan contents ready is t) =
      absurd (ready_goes_on plan contents stop (subst (λ s. IsReady seen.shelf s plan contents) same ready) must)

  -- the plan of a script that was read is the one that the shelf holds
  the_plan : (plan other : PlanView) → IsPlanOf seen.shelf name plan → HoldsScript seen.shelf.before.content name other → plan ≡ other
  the_plan plan other is held = one_plan seen.shelf.before.content name plan other (script_held seen.shelf tells name plan is.script) held

  -- a plan has an intake or none
  one_intake : {A : Type 0} (plan other : PlanView) (intake : IntakeView) → plan ≡ other → plan.intake ≡ Some intake → other.intake ≡ None → A
  one_intake plan other intake same some none =
      let no : plan.intake ≡ None = ap (λ (p : PlanView). p.intake) same ∙ none in absurd cc

  -- a script with an intake that is ready has no cause to stop `front`
  front_goes_on : (plan : PlanView) (contents : List Bytes) (intake : IntakeView) (stop : Stop) → IsReady seen.shelf name plan contents
      → plan.intake ≡ Some intake → MustStopFront seen.shelf.before.content name stop → ⊥
  front_goes_on plan contents intake stop ready some (must_front_at_script no_script) =
      ready_goes_on plan contents stop ready (must_at_script no_script)
  front_goes_on plan contents intake stop ready some (must_at_intake other held none is) =
      one_intake plan other intake (the_plan plan other ready.plan_is held) some none
  front_goes_on plan contents intake stop ready some (must_front_at_file other there held also is) =
      ready_goes_on plan contents stop ready (must_at_file other held is)

  -- why `front` stops is one
  front_stops_at : (n : ℕ) (stop found : Stop) → MustStopFront seen.shelf.before.content name stop → StopsFront seen.shelf name n found
      → Fate seen.shelf found (stop_end found ≡ stop_end stop)
  front_stops_at n stop found must (front_wanting plan contents ready memory many) = inr (inl memory)
  front_stops_at n stop found (must_front_at_script no_script) (front_at_script why one) =
      ready_stops n stop found (must_at_script no_script) (at_script why one)
  front_stops_at n stop found (must_front_at_script no_script) (at_intake plan plan_is none is one) =
      absurd (no_plan seen.shelf.before.content name plan stop (script_held seen.shelf tells name plan plan_is.script) no_script)
  front_stops_at n stop found (must_front_at_script no_script) (front_at_file plan intake f plan_is some stops two) =
      absurd (no_plan seen.shelf.before.content name plan stop (script_held seen.shelf tells name plan plan_is.script) no_script)
  front_stops_at n stop found (must_at_intake plan held none is) (front_at_script why one) =
      fate_map seen.shelf found (λ no_script. absurd (no_plan seen.shelf.before.content name plan found held no_script)) (script_stops seen.shelf tells name found why)
  front_stops_at n stop found (must_at_intake plan held none is) (at_intake other plan_is also found_is one) = inr (inr (ap stop_end (found_is ∙ sym is)))
  front_stops_at n stop found (must_at_intake plan held none is) (front_at_file other intake f plan_is some stops two) =
      one_intake other plan intake (the_plan other plan plan_is held) some none
  front_stops_at n stop found (must_front_at_file plan intake held some is) (front_at_script why one) =
      fate_map seen.shelf found (λ no_script. absurd (no_plan seen.shelf.before.content name plan found held no_script)) (script_stops seen.shelf tells name found why)
  front_stops_at n stop found (must_front_at_file plan intake held some is) (at_intake other plan_is none found_is one) =
      one_intake plan other intake (sym (the_plan other plan plan_is held)) some none
  front_stops_at n stop found (must_front_at_file plan intake held some is) (front_at_file other there f plan_is also stops two) =
      ready_stops n stop found (must_at_file plan held is) (at_file other f plan_is stops two)

  -- `front` that has to stop does
  front_stops : (senders n : ℕ) (stop : Stop) (end expected : End) → MustStopFront seen.shelf.before.content name stop
      → stop_end stop ≡ Some expected → FrontEnds seen name senders n end → Comes seen expected end
  front_stops senders n stop end expected must stop_is (front_stopped found why at) =
      comes_by seen stop found end expected at stop_is (front_stops_at n stop found must why)
  front_stops senders n stop end expected must stop_is (front_ran plan contents intake ready some many f) =
      absurd (front_goes_on plan contents intake stop ready some must)

-- ## The whole call

module _ (seen : InputsSeen) (sink : Seen SinkState) (words : List Bytes) (result : Ended) where
  -- what the call saw of the outside
  abbrev pub outside : OutsideSeen
  outside = record { inputs = seen; sink = sink }

  -- what came was written
  written_as : (expected end : End) → end ≡ expected → IsWritten sink end result → Gives sink result expected
  written_as expected end same written = inl (subst (λ (e : End). IsWritten sink e result) same written)

  comes_written : (expected end : End) → Comes seen expected end → IsWritten sink end result → Answers outside result expected
  comes_written expected end (inl same) written = inl (written_as expected end same written)
  comes_written expected end (inr failed) written = inr (failed.0, written_as read_fault end failed.1 written)

  -- what is told at words that ask for this
  told_as : (o : Option Asked) (calls : Calls) (end : End) → request_of words ≡ o → AskedEnds seen (request_of words) calls end
      → AskedEnds seen o calls end
  told_as o calls end asks ends = subst (λ (p : Option Asked). AskedEnds seen p calls end) asks ends

  -- a run to its end
  abbrev Ends : Type 0
  Ends = (state : State) × Runs outside words result state × HasStatus result (status_of state) × (state ≢ Halted)

  module _ (works : NothingFailed outside) where
    run_ended : seen.shelf.tells ≡ true → (asked : RunAsked) (plan : PlanView) (contents : List Bytes) → Asks words (run asked)
        → HoldsScript seen.shelf.before.content asked.script plan → files_at seen.shelf.before.content plan.files ≡ Ok contents → (calls : Calls)
        → Made seen calls → (end : End) → RunEnds seen asked calls end → IsWritten sink end result → Ends
    run_ended tells asked plan contents asks held all calls made end ends (cut_off took failed answers) = absurd (works.sink_works failed)
    run_ended tells asked plan contents asks held all calls made end (stopped found (unready n (at_script why one) is) at) (whole took answers) =
        none (script_stops seen.shelf tells asked.script found why)
      where
        none : Fate seen.shelf found (IsNoScript seen.shelf.before.content asked.script found) → Ends
        none (inl failed) = absurd (works.shelf_works failed.0)
        none (inr (inl memory)) = untold found end at memory
        none (inr (inr no_script)) = absurd (no_plan seen.shelf.before.content asked.script plan found held no_script)
    run_ended tells asked plan contents asks held all calls made end (stopped found (unready n (at_file other f plan_is stops two) is) at) (whole took answers) =
        none (file_stops seen.shelf tells other.files f found stops)
      where
        none : Fate seen.shelf found (files_at seen.shelf.before.content other.files ≡ Err found) → Ends
        none (inl failed) = absurd (works.shelf_works failed.0)
        none (inr (inl memory)) = untold found end at memory
        none (inr (inr is)) =
            let same : other ≡ plan =
            one_plan seen.shelf.before.content asked.script other plan (script_held seen.shelf tells asked.script other plan_is.script) held in
            absurd (no_both all (subst (λ (p : PlanView). files_at seen.shelf.before.content p.files ≡ Err found) same is))
    run_ended tells asked plan contents asks held all calls made end (stopped found (at_listen other those address ready listen failed stop_is is) at) (whole took answers) =
        absurd (works.poller_works failed)
    run_ended tells asked plan contents asks held all calls made end (stopped found (run_wanting other those ready stop_is is) at) (whole took answers) =
        untold found end at stop_is
    run_ended tells asked plan contents asks held all calls made end (ran other those ready is t) (whole took answers) = (
      t.state,
      inl (runs_script seen sink words result calls made asked other those end asks ready is t took answers),
      answers.status_is ∙ ap (λ (e : End). status_code e.status) t.end_is,
      unhalted outside works other asked.workers asked.most _ t.h t.state t.ran,
    )

    large_ended : (count workers : ℕ) → Asks words (big count workers) → (calls : Calls) → Made seen calls → (end : End)
        → calls ≡ only_loads 0 → BigEnds seen.poller seen.clock count workers end → IsWritten sink end result → Ends
    large_ended count workers asks calls made end is ends (cut_off took failed answers) = absurd (works.sink_works failed)
    large_ended count workers asks calls made end is ends (whole took answers) =
        let t = ends.tells in (
          t.state,
          inr (inl (runs_large seen sink words result calls made count workers end asks is ends took answers)),
          answers.status_is ∙ ap (λ (e : End). status_code e.status) t.end_is,
          unhalted outside works ends.plan workers max_events _ t.h t.state t.ran,
        )

    -- a run beside senders to its end
    front_ended : seen.shelf.tells ≡ true → (script : Bytes) (senders : ℕ) (plan : PlanView) (intake : IntakeView) (contents : List Bytes)
        → Asks words (front script senders) → HoldsScript seen.shelf.before.content script plan → plan.intake ≡ Some intake
        → files_at seen.shelf.before.content plan.files ≡ Ok contents → (calls : Calls) → Made seen calls → (n : ℕ) (end : End) → calls ≡ only_loads n
        → FrontEnds seen script senders n end → IsWritten sink end result → Ends
    front_ended tells script senders plan intake contents asks held some all calls made n end is ends (cut_off took failed answers) =
        absurd (works.sink_works failed)
    front_ended tells script senders plan intake contents asks held some all calls made n end is (front_stopped found (front_at_script why one) at) (whole took answers) =
        none (script_stops seen.shelf tells script found why)
      where
        none : Fate seen.shelf found (IsNoScript seen.shelf.before.content script found) → Ends
        none (inl failed) = absurd (works.shelf_works failed.0)
        none (inr (inl memory)) = untold found end at memory
        none (inr (inr no_script)) = absurd (no_plan seen.shelf.before.content script plan found held no_script)
    front_ended tells script senders plan intake contents asks held some all calls made n end is (front_stopped found (at_intake other plan_is none found_is one) at) (whole took answers) =
        one_intake seen tells script plan other intake (sym (the_plan seen tells script other plan plan_is held)) some none
    front_ended tells script senders plan intake contents asks held some all calls made n end is (front_stopped found (front_at_file other there f plan_is also stops two) at) (whole took answers) =
        none (file_stops seen.shelf tells other.files f found stops)
      where
        none : Fate seen.shelf found (files_at seen.shelf.before.content other.files ≡ Err found) → Ends
        none (inl failed) = absurd (works.shelf_works failed.0)
        none (inr (inl memory)) = untold found end at memory
        none (inr (inr is_file)) =
            absurd (no_both all (subst (λ (p : PlanView). files_at seen.shelf.before.content p.files ≡ Err found) (the_plan seen tells script other plan plan_is held) is_file))
    front_ended tells script senders plan intake contents asks held some all calls made n end is (front_stopped found (front_wanting other those ready stop_is many) at) (whole took answers) =
        untold found end at stop_is
    front_ended tells script senders plan intake contents asks held some all calls made n end is (front_ran other those there ready also many f) (whole took answers) =
        let t = f.tells in (
          t.state,
          inr (inr (runs_beside seen sink words result calls made script senders other those there end asks ready also (is ∙ ap only_loads many) f took answers)),
          answers.status_is ∙ ap (λ (e : End). status_code e.status) t.end_is,
          unhalted outside works other front_workers max_events _ t.h t.state t.ran,
        )

    -- a check to its end
    check_ended : seen.shelf.tells ≡ true → (c : ChecksText seen.shelf.before.content words) → (n : ℕ) (end : End)
        → CheckEnds seen.shelf c.script c.journal n end → IsWritten sink end result → HasStatus result Drained ⊎ HasStatus result JournalRefused
    check_ended tells c n end ends (cut_off took failed answers) = absurd (works.sink_works failed)
    check_ended tells c n end ends (whole took answers) =
        ⊎_elim
        (λ drained. inl (answers.status_is ∙ ap status_code drained))
        (λ refused. inr (answers.status_is ∙ ap status_code refused))
        (is_judged seen tells c.script c.journal works.shelf_works c.plan c.text c.declares c.holds n end ends)

  pub always : CallEnds outside words result → Always outside words result
  always (reported end calls made ends written) = record {
    usage = λ none.
        let usage : (calls ≡ only_loads 0) × (end ≡ usage_end) = told_as None calls end none ends in
        written_as usage_end end usage.1 written;
    run_stops = λ tells asked stop expected asks must stop_is. comes_written expected end
        (run_stops seen tells asked.script asked refl calls stop end expected must stop_is (told_as (Some (run asked)) calls end asks ends)) written;
    front_stops = λ tells script senders stop expected asks must stop_is.
        let only = told_as (Some (front script senders)) calls end asks ends in
        comes_written expected end (front_stops seen tells script senders only.loads stop end expected must stop_is only.ends) written;
    check_stops = λ tells script journal stop expected asks must stop_is.
        let only = told_as (Some (check script journal)) calls end asks ends in
        comes_written expected end (check_stops seen tells script journal only.loads stop end expected must stop_is only.ends) written;
    check_passes = λ tells plan h state c lawful.
        let only = told_as (Some (check c.script c.journal)) calls end c.asks ends in
        comes_written (lawful_end h state) end
        (check_passes seen tells c.script c.journal plan h c.declares c.holds state lawful only.loads end only.ends) written;
    check_bars = λ tells plan h index c barred.
        let only = told_as (Some (check c.script c.journal)) calls end c.asks ends in
        comes_written (unlawful_end h index) end
        (check_bars seen tells c.script c.journal plan h c.declares c.holds index barred only.loads end only.ends) written;
    check_ends = λ tells works c.
        let only = told_as (Some (check c.script c.journal)) calls end c.asks ends in
        inr (check_ended works tells c only.loads end only.ends written);
    run_ends = λ tells works asked plan contents asks held all.
        inr (run_ended works tells asked plan contents asks held all calls made end (told_as (Some (run asked)) calls end asks ends) written);
    large_ends = λ works count workers asks.
        let only = told_as (Some (big count workers)) calls end asks ends in
        inr (large_ended works count workers asks calls made end only.0 only.1 written);
    front_ends = λ tells works script senders plan intake contents asks held some all.
        let only = told_as (Some (front script senders)) calls end asks ends in
        inr (front_ended works tells script senders plan intake contents asks held some all calls made only.loads end only.calls_are only.ends written);
  }
  always (wanting calls made count is) = record {
    usage = λ none. inr is.status_is;
    run_stops = λ tells asked stop expected asks must stop_is. inl (inr is.status_is);
    front_stops = λ tells script senders stop expected asks must stop_is. inl (inr is.status_is);
    check_stops = λ tells script journal stop expected asks must stop_is. inl (inr is.status_is);
    check_passes = λ tells plan h state c lawful. inl (inr is.status_is);
    check_bars = λ tells plan h index c barred. inl (inr is.status_is);
    check_ends = λ tells works c. inl is.status_is;
    run_ends = λ tells works asked plan contents asks held all. inl is.status_is;
    large_ends = λ works count workers asks. inl is.status_is;
    front_ends = λ tells works script senders plan intake contents asks held some all. inl is.status_is;
  }
