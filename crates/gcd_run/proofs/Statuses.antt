-- What the answer's status says, by the way in which the call ends.
use Rattle.std.proofs.lemmas.Option.{same_Some}
use Rattle.std.proofs.Common.{◌≡◌, ◌∙◌, ◌+◌, ◌==◌, if◌then◌else◌, ℕ, List, [], Option, Some, None, length, ap, subst, refl, sym, inl, inr}
use Rattle.gcd_plan.specs.Limits.{max_events}
use Rattle.gcd_plan.specs.PlanView.{PlanView, IntakeView}
use Rattle.gcd_event.specs.declared.event.Event.{Event}
use Rattle.gcd_history.specs.Report.{front_text}
use Rattle.gcd_history.specs.declared.state.State.{State}
use Rattle.gcd_history.specs.declared.state.State.TheVariants.{Drained as RunDrained, Stuck as RunStuck, Misused as RunMisused, Halted as RunHalted, Live as RunLive}
use Rattle.gcd_outer.specs.Outside.{Bytes, Seen, SinkState, Took}
use Rattle.gcd_history.specs.Intake.{AcceptsOf, AcceptsNone}
use Rattle.gcd_words.specs.Asked.{Asked, RunAsked, request_of, run, check, big, front}
use Rattle.gcd_commands.specs.Calls.{Calls, InputsSeen, Made, only_loads, with_listen}
use Rattle.gcd_commands.specs.Checks.{CheckEnds, IsJournalAt, IsJudged}
use Rattle.gcd_commands.specs.Checks.CheckEnds.{stopped as check_stopped, judged}
use Rattle.gcd_commands.specs.Checks.IsJudged.{lawful, unlawful}
use Rattle.gcd_commands.specs.End.{End, read_fault, refused_end, no_journal_end, no_intake_end, run_text, large_text, lawful_text, stop_end}
use Rattle.gcd_run.specs.Ends.{AskedEnds, Answers, CallEnds, HasStatus, OutsideSeen}
use Rattle.gcd_run.specs.Ends.CallEnds.{reported, wanting}
use Rattle.gcd_run.specs.Ends.IsWritten.{whole, cut_off}
use Rattle.gcd_commands.specs.Fronts.{FrontEnds, HearsSenders, TellsFront, front_workers}
use Rattle.gcd_commands.specs.Fronts.FrontEnds.{stopped as front_stopped, ran as front_ran}
use Rattle.gcd_commands.specs.Loads.{IsPlanOf, IsReady}
use Rattle.gcd_commands.specs.Pages.{KeepsPages}
use Rattle.gcd_commands.specs.Runs.{BigEnds, Ran, TellsRun}
use Rattle.gcd_commands.specs.Runs.RunEnds.{stopped, ran}
use Rattle.gcd_commands.specs.StatusCodes.{status_code, status_of}
use Rattle.gcd_run.specs.Statuses.{Asks, IsLawfulTo, Judges, Runs, RunsBeside, RunsLarge, RunsScript, Says, Stopped, StopsAt}
use Rattle.gcd_run.specs.Statuses.StopsAt.{of_run, of_check, of_front}
use Rattle.gcd_commands.specs.declared.status.Status.{Status}
use Rattle.gcd_commands.specs.declared.status.Status.TheVariants.{Drained, Stuck, NoCommand, ScriptRefused, Misused, Unread, CutOff, NoMemory, Full, JournalRefused, NoIntake}
use Rattle.gcd_commands.specs.declared.stop.Stop.{Stop}
use Rattle.gcd_script.specs.Causes.{cause_code}
use Rattle.gcd_commands.specs.declared.stop.Stop.TheVariants.{Unread as CantRead, Script, Journal, NoIntake as LacksIntake, Memory}
use Rattle.gcd_run.specs.declared.ended.Ended.{Ended}
use Rattle.gcd_commands.proofs.Pages.{pages_kept}

-- the status of a code
abbrev status_named : ℕ → Option Status
status_named n =
    if n == 0 then Some Drained
    else (if n == 1 then Some Stuck
    else (if n == 2 then Some NoCommand
    else (if n == 3 then Some ScriptRefused
    else (if n == 4 then Some Misused
    else (if n == 5 then Some Unread
    else (if n == 6 then Some CutOff
    else (if n == 7 then Some NoMemory
    else (if n == 8 then Some Full
    else (if n == 9 then Some JournalRefused
    else (if n == 10 then Some NoIntake
    else None))))))))))

named_again : (s : Status) → status_named (status_code s) ≡ Some s
named_again Drained = refl
named_again Stuck = refl
named_again NoCommand = refl
named_again ScriptRefused = refl
named_again Misused = refl
named_again Unread = refl
named_again CutOff = refl
named_again NoMemory = refl
named_again Full = refl
named_again JournalRefused = refl
named_again NoIntake = refl

-- a code is that of one status
pub same_status : (s t : Status) → status_code s ≡ status_code t → s ≡ t
same_status s t e = same_Some s t (sym (named_again s) ∙ ap status_named e ∙ named_again t)

-- an end that is told is one
pub some_end : {a b : End} → Some a ≡ Some b → a ≡ b
some_end e = cc

module _ (seen : InputsSeen) (sink : Seen SinkState) (words : List Bytes) (result : Ended) where
  -- what the call saw of the outside
  abbrev pub outside : OutsideSeen
  outside = record { inputs = seen; sink = sink }

  -- the status that is answered is one
  pub one_status : (s t : Status) → HasStatus result s → HasStatus result t → s ≡ t
  one_status s t is has = same_status s t (sym is ∙ has)

  -- what a run says by its state
  says_run : (state : State) → Runs outside words result state → Says outside words result (status_of state)
  says_run RunDrained runs = inl runs
  says_run RunStuck runs = runs
  says_run RunMisused runs = runs
  says_run RunHalted runs = inl runs
  says_run RunLive runs = runs

  -- what is told and was written whole
  abbrev Written : End → Type 0
  Written end = Took sink end.text → Answers result end end.status → Says outside words result end.status

  module _ (calls : Calls) (made : Made seen calls) where
    stopped_by : (stop : Stop) (end : End) → end.journal ≡ [] → StopsAt seen words calls stop → Took sink end.text
        → Answers result end end.status → Stopped outside words result stop end
    stopped_by stop end none why took answers = record {
      calls = calls;
      made = made;
      why = why;
      written = took;
      journal_is = answers.journal_is ∙ none;
      at_is = answers.at_is;
    }

    -- a stop says why
    says_stop : (stop : Stop) (end : End) → StopsAt seen words calls stop → stop_end stop ≡ Some end → Written end
    says_stop (CantRead line) end why is =
        subst Written (some_end is) (λ took answers. inr (line, stopped_by (CantRead line) read_fault refl why took answers))
    says_stop (Script line cause) end why is =
        subst Written (some_end is)
        (λ took answers. (line, cause, stopped_by (Script line cause) (refused_end line (cause_code cause)) refl why took answers))
    says_stop (Journal line cause) end why is =
        subst Written (some_end is)
        (λ took answers. inl (line, cause, stopped_by (Journal line cause) (no_journal_end line) refl why took answers))
    says_stop LacksIntake end why is =
        subst Written (some_end is) (λ took answers. stopped_by LacksIntake no_intake_end refl why took answers)
    says_stop Memory end why is = absurd cc

    -- a run of a script, as it was told
    pub runs_script : (asked : RunAsked) (plan : PlanView) (contents : List Bytes) (end : End) → Asks words (run asked)
        → IsReady seen.shelf asked.script plan contents → calls ≡ with_listen (length plan.files + 1) asked.listen
        → (t : TellsRun seen.poller seen.clock plan asked.workers asked.most AcceptsNone (run_text asked.journal plan contents) end)
        → Took sink end.text → Answers result end end.status → RunsScript outside words result t.state
    runs_script asked plan contents end asks ready calls_are t took answers =
        let journal_is : result.journal.items ≡ t.h = answers.journal_is ∙ ap (λ (e : End). e.journal) t.end_is in
        record {
          asked = asked;
          plan = plan;
          contents = contents;
          asks = asks;
          ready = ready;
          made = subst (Made seen) calls_are made;
          ran = subst (λ h. Ran seen.poller seen.clock plan asked.workers asked.most AcceptsNone h t.state) (sym journal_is) t.ran;
          pages = subst (KeepsPages plan contents) (sym journal_is) (pages_kept plan contents t.h ready.plan_is.valid t.ran.run.lawful);
          at_is = answers.at_is ∙ ap (λ (e : End). e.at) t.end_is;
          written = subst (λ h. Took sink (run_text asked.journal plan contents t.state h)) (sym journal_is)
              (subst (λ (e : End). Took sink e.text) t.end_is took);
        }

    -- a run of the large script, as it was told
    pub runs_large : (count workers : ℕ) (end : End) → Asks words (big count workers) → calls ≡ only_loads 0
        → (ends : BigEnds seen.poller seen.clock count workers end) → Took sink end.text → Answers result end end.status
        → RunsLarge outside words result ends.tells.state
    runs_large count workers end asks calls_are ends took answers =
        let t = ends.tells in
        let journal_is : result.journal.items ≡ t.h = answers.journal_is ∙ ap (λ (e : End). e.journal) t.end_is in
        record {
          count = count;
          workers = workers;
          plan = ends.plan;
          contents = ends.contents;
          asks = asks;
          large = ends.large;
          made = subst (Made seen) calls_are made;
          ran = subst (λ h. Ran seen.poller seen.clock ends.plan workers max_events AcceptsNone h t.state) (sym journal_is) t.ran;
          at_is = answers.at_is ∙ ap (λ (e : End). e.at) t.end_is;
          written = subst (λ h. Took sink (large_text count ends.plan ends.contents t.state h)) (sym journal_is)
              (subst (λ (e : End). Took sink e.text) t.end_is took);
        }

    -- a run beside senders, as it was told
    pub runs_beside : (script : Bytes) (senders : ℕ) (plan : PlanView) (contents : List Bytes) (intake : IntakeView) (end : End)
        → Asks words (front script senders) → IsReady seen.shelf script plan contents → plan.intake ≡ Some intake
        → calls ≡ only_loads (length plan.files + 1) → (f : TellsFront seen.poller seen.clock plan intake senders end) → Took sink end.text
        → Answers result end end.status → RunsBeside outside words result f.tells.state
    runs_beside script senders plan contents intake end asks ready intake_is calls_are f took answers =
        let t = f.tells in
        let journal_is : result.journal.items ≡ t.h = answers.journal_is ∙ ap (λ (e : End). e.journal) t.end_is in
        record {
          script = script;
          senders = senders;
          plan = plan;
          contents = contents;
          intake = intake;
          value = f.value;
          asks = asks;
          ready = ready;
          intake_is = intake_is;
          made = subst (Made seen) calls_are made;
          ran = subst (λ h. Ran seen.poller seen.clock plan front_workers max_events (AcceptsOf senders) h t.state) (sym journal_is) t.ran;
          hears = subst (HearsSenders plan intake senders f.value) (sym journal_is) f.hears;
          pages = subst (KeepsPages plan contents) (sym journal_is) (pages_kept plan contents t.h ready.plan_is.valid t.ran.run.lawful);
          at_is = answers.at_is ∙ ap (λ (e : End). e.at) t.end_is;
          written = subst (λ h. Took sink (front_text plan senders f.value t.state h)) (sym journal_is)
              (subst (λ (e : End). Took sink e.text) t.end_is took);
        }

    -- a run of a script says its state
    says_script : (asked : RunAsked) (plan : PlanView) (contents : List Bytes) (end : End) → Asks words (run asked)
        → IsReady seen.shelf asked.script plan contents → calls ≡ with_listen (length plan.files + 1) asked.listen
        → TellsRun seen.poller seen.clock plan asked.workers asked.most AcceptsNone (run_text asked.journal plan contents) end → Written end
    says_script asked plan contents end asks ready calls_are t = λ took answers.
        subst (λ (e : End). Says outside words result e.status) (sym t.end_is)
        (says_run t.state (inl (runs_script asked plan contents end asks ready calls_are t took answers)))

    -- a run of the large script says its state
    says_large : (count workers : ℕ) (end : End) → Asks words (big count workers) → calls ≡ only_loads 0
        → BigEnds seen.poller seen.clock count workers end → Written end
    says_large count workers end asks calls_are ends = λ took answers.
        subst (λ (e : End). Says outside words result e.status) (sym ends.tells.end_is)
        (says_run ends.tells.state (inr (inl (runs_large count workers end asks calls_are ends took answers))))

    -- a run beside senders says its state
    says_beside : (script : Bytes) (senders n : ℕ) (end : End) → Asks words (front script senders) → calls ≡ only_loads n
        → FrontEnds seen script senders n end → Written end
    says_beside script senders n end asks calls_are (front_stopped stop why is) =
        says_stop stop end (of_front script senders n asks calls_are why) is
    says_beside script senders n end asks calls_are (front_ran plan contents intake ready intake_is many f) = λ took answers.
        subst (λ (e : End). Says outside words result e.status) (sym f.tells.end_is)
        (says_run f.tells.state (inr (inr (runs_beside script senders plan contents intake end asks ready intake_is
        (calls_are ∙ ap only_loads many) f took answers))))

    -- a journal that was judged says what was found
    judges_by : (script journal : Bytes) (plan : PlanView) (h : List Event) (claim : PlanView → List Event → Type 0) (at : Option (ℕ × ℕ))
        (text : Bytes) → Asks words (check script journal) → IsPlanOf seen.shelf script plan → IsJournalAt seen.shelf journal plan h
        → calls ≡ only_loads 2 → result.journal.items ≡ h → claim plan h → result.at ≡ at → Took sink text
        → Judges outside words result claim at text
    judges_by script journal plan h claim at text asks plan_is read calls_are same is at_is took = record {
      script = script;
      journal = journal;
      plan = plan;
      asks = asks;
      plan_is = plan_is;
      read = subst (IsJournalAt seen.shelf journal plan) (sym same) read;
      made = subst (Made seen) calls_are made;
      is = subst (claim plan) (sym same) is;
      at_is = at_is;
      written = took;
    }

    says_judged : (script journal : Bytes) (plan : PlanView) (h : List Event) (end : End) → Asks words (check script journal)
        → IsPlanOf seen.shelf script plan → IsJournalAt seen.shelf journal plan h → calls ≡ only_loads 2 → IsJudged plan h end → Written end
    says_judged script journal plan h end asks plan_is read calls_are (unlawful index barred is) =
        subst Written (sym is)
        (λ took answers. inr (index, judges_by script journal plan h _ _ _ asks plan_is read calls_are answers.journal_is barred answers.at_is took))
    says_judged script journal plan h end asks plan_is read calls_are (lawful state law state_is is) =
        subst Written (sym is)
        (λ took answers. inr (
          state,
          judges_by script journal plan h (IsLawfulTo state) None (lawful_text (length result.journal.items) state)
              asks plan_is read calls_are answers.journal_is (record { lawful = law; state_is = state_is }) answers.at_is
              (subst (λ (g : List Event). Took sink (lawful_text (length g) state)) (sym answers.journal_is) took),
        ))

    -- what is told of a request says its status
    says_asked : (o : Option Asked) (end : End) → request_of words ≡ o → AskedEnds seen o calls end → Written end
    says_asked None end asks ends =
        subst Written (sym ends.1)
        (λ took answers. record {
          no_command = asks;
          made = subst (Made seen) ends.0 made;
          written = took;
          journal_is = answers.journal_is;
          at_is = answers.at_is;
        })
    says_asked (Some (run asked)) end asks (stopped stop why is) = says_stop stop end (of_run asked asks why) is
    says_asked (Some (run asked)) end asks (ran plan contents ready calls_are t) = says_script asked plan contents end asks ready calls_are t
    says_asked (Some (check script journal)) end asks ends = says_check script journal ends.loads end asks ends.calls_are ends.ends
      where
        says_check : (script journal : Bytes) (n : ℕ) (end : End) → Asks words (check script journal) → calls ≡ only_loads n
            → CheckEnds seen.shelf script journal n end → Written end
        says_check script journal n end asks calls_are (check_stopped stop why is) =
            says_stop stop end (of_check script journal n asks calls_are why) is
        says_check script journal n end asks calls_are (judged plan h plan_is read judged_so two) =
            says_judged script journal plan h end asks plan_is read (calls_are ∙ ap only_loads two) judged_so
    says_asked (Some (big count workers)) end asks ends = says_large count workers end asks ends.0 ends.1
    says_asked (Some (front script senders)) end asks ends = says_beside script senders ends.loads end asks ends.calls_are ends.ends

  -- the status that the call answers says what it says
  pub says : CallEnds outside words result → (s : Status) → HasStatus result s → Says outside words result s
  says (reported end calls made ends (whole took answers)) s has =
      subst (Says outside words result) (one_status end.status s answers.status_is has)
      (says_asked calls made (request_of words) end refl ends took answers)
  says (reported end calls made ends (cut_off took failed answers)) s has =
      subst (Says outside words result) (one_status CutOff s answers.status_is has)
      (record {
        end = end;
        calls = calls;
        made = made;
        reported = ends;
        failed = failed;
        prefix = took;
        journal_is = answers.journal_is;
        at_is = answers.at_is;
      })
  says (wanting calls made count is) s has = subst (Says outside words result) (one_status NoMemory s is.status_is has) is
