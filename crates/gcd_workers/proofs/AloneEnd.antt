-- Worker 0 alone between two turns, and what it leaves at the end.
use Rattle.std.proofs.Common.{◌≡◌, ◌<◌, ◌∙◌, ◌++◌, ◌∷◌, ◌⊎◌, ℕ, Bool, true, false, not, List, [], length, map, Option, Some, refl, ap, sym, subst, arith, append-nil}
use Rattle.std.specs.Prelude.{slice_get}
use Rattle.std.specs.List.{list_any}
use Rattle.std.specs.Option.{option_map}
use Rattle.std.proofs.lemmas.Bool.{and_from}
use Rattle.std.proofs.lemmas.List.{length-map}
use Rattle.std.proofs.lemmas.Option.{slice_get-map}
use Rattle.std.proofs.lemmas.Slice.Zip.{AllZip-long}
use Rattle.gcd_plan.specs.PlanView.{PlanView}
use Rattle.gcd_plan.specs.Validity.{IsPlan}
use Rattle.gcd_plan.specs.declared.numbers.Blk.{Blk}
use Rattle.gcd_event.specs.declared.event.Event.{Event}
use Rattle.gcd_event.specs.declared.event.Event.TheVariants.{Accept, Shut}
use Rattle.gcd_history.specs.Ends.{HasState}
use Rattle.gcd_history.specs.Facts.{is_of_callers}
use Rattle.gcd_history.specs.History.{IsLawful, is_block_cancelled, is_ended, is_intake_open}
use Rattle.gcd_history.specs.Intake.{AcceptsOf, AllAccepted, accepts, blocks_of_sender, shuts}
use Rattle.gcd_front.specs.Fronts.{KnowsAll, LearnsMore, TakesNext, TookAll}
use Rattle.gcd_front.specs.Queue.{jobs_of, parcel}
use Rattle.gcd_front.specs.Views.{FrontView, IntakeView}
use Rattle.gcd_jobs.specs.BlockValues.{has_given}
use Rattle.gcd_machine.specs.declared.put.Put.{Put}
use Rattle.gcd_machine.specs.declared.put.Put.TheVariants.{Placed, Barred, Held, Full}
use Rattle.gcd_machine.proofs.Views.Calls.{lawful_stands, valid_stands}
use Rattle.gcd_outer.specs.Outside.{ClockState, Seen}
use Rattle.gcd_outer.specs.Tells.{PollerState}
use Rattle.gcd_loop.proofs.Follows.{workers_of_alone}
use Rattle.gcd_loop.proofs.Steps.{runs_plan}
use Rattle.gcd_loop.specs.Going.{IsRunOn}
use Rattle.gcd_loop.specs.Ran.{RunsPlan}
use Rattle.gcd_loop.specs.Recorded.{Says}
use Rattle.gcd_row.proofs.Accepted.{next_unaccepted}
use Rattle.gcd_pool.proofs.Accepting.{unshut}
use Rattle.gcd_workers.specs.AloneCalls.{ComesOf, HaveCalls, Stays}
use Rattle.gcd_workers.specs.CallersRuns.{AreGivenBeside, OfSender, RanFor, RunsFront}
use Rattle.gcd_workers.specs.JobsKept.{IsAcceptedAlone, IsAlone, IsJobsKept, WasPutAlone, jobs_sight}
use Rattle.gcd_workers.specs.JobStates.{ComesToNoMore, said}
use Rattle.gcd_workers.specs.declared.jobs_input.JobsInput.{JobsInput}
use Rattle.gcd_workers.specs.declared.job_state.JobState.{JobState}
use Rattle.gcd_workers.specs.declared.job_state.JobState.TheVariants.{Gave, Waits}
use Rattle.gcd_workers.specs.declared.jobs_kept.JobsGiven.{JobsGiven}
use Rattle.gcd_workers.specs.declared.jobs_kept.JobsKept.{JobsKept}
use Rattle.gcd_workers.specs.declared.ran.Ran.{Ran}
use Rattle.gcd_workers.proofs.AloneSteps.{stays_one, stays_same}
use Rattle.gcd_workers.proofs.Calls.{calls_accepted, calls_learnt, calls_on, calls_shut}
use Rattle.gcd_workers.proofs.Intake.{accepted_of_intake, accepted_within, never_cancelled, zip_accepted}

module _ {J X : Type 0} (gives : J → ℕ → ℕ → Type 0) (sent : X → ℕ → Type 0) (given : JobsGiven J) (f : FrontView) where
  -- ## Steps

  -- nothing of outside callers came
  pub alone_on : (old new : JobsKept J) (i : IntakeView X) → IsJobsKept gives given new
      → Stays gives old.journal.items new.journal.items old.states.items new.states.items → IsAlone gives sent given old f i → IsAlone gives sent given new f i
  alone_on old new i run stays is = record {
    run = run;
    few = is.few;
    of_front = is.of_front;
    calls = calls_on gives sent f given.plan.now i old.journal.items new.journal.items old.states.items new.states.items stays is.calls;
  }

  -- an event of poller or clock was put
  pub put_stays : (e : Event) (h k : List Event) (old new : List (JobState J)) (r : Put) → is_of_callers e ≡ false → WasPutAlone e h k r
      → ComesToNoMore gives old new → Stays gives h k old new
  put_stays e h k old new (Placed n) uncalled was fewer = stays_one gives h k e old new was uncalled fewer
  put_stays e h k old new (Barred at y) uncalled was fewer = stays_same gives h k old new was fewer
  put_stays e h k old new (Held by passed) uncalled was fewer = absurd was
  put_stays e h k old new Full uncalled was fewer = absurd was

  -- a Shut was put, for this reason
  pub shut_calls : (i : IntakeView X) (h k : List Event) (old new : List (JobState J)) (r : Put) → WasPutAlone Shut h k r → ComesToNoMore gives old new
      → AllAccepted given.plan.now h ⊎ (KnowsAll f i × TookAll i) → HaveCalls gives sent f i given.plan.now h old → HaveCalls gives sent f i given.plan.now k new
  shut_calls i h k old new (Placed n) was fewer reason have =
      let plan = given.plan.now in
      subst (λ (l : List Event). HaveCalls gives sent f i plan l new) (sym was)
      (calls_shut gives sent f plan i h new reason (calls_on gives sent f plan i h h old new (stays_same gives h h old new refl fewer) have))
  shut_calls i h k old new (Barred at y) was fewer reason have =
      calls_on gives sent f given.plan.now i h k old new (stays_same gives h k old new was fewer) have
  shut_calls i h k old new (Held by passed) was fewer reason have = absurd was
  shut_calls i h k old new Full was fewer reason have = absurd was

  -- a job was taken, and its Accept was put
  pub accepted_calls : (i j : IntakeView X) (b : Blk) (s n : ℕ) (sent_job : X) (job : J) (old new : JobsKept J) (r : Put)
      → TakesNext f i (parcel s n sent_job) j → list_any shuts old.journal.items ≡ false → ((value : ℕ) → gives job 0 value → sent sent_job value)
      → IsAcceptedAlone gives given.plan.now b s job old new r → HaveCalls gives sent f i given.plan.now old.journal.items old.states.items
      → HaveCalls gives sent f j given.plan.now new.journal.items new.states.items
  accepted_calls i j b s n sent_job job old new r took still_open that was have =
      let plan = given.plan.now in
      let mid = calls_on gives sent f plan i old.journal.items was.between old.states.items was.states was.stays have in
      let open_yet : list_any shuts was.between ≡ false = was.stays.calls.shut ∙ still_open in
      let done = calls_accepted gives sent f plan i j was.between b s n sent_job job was.states (ap (λ (x : IntakeView X). x.taken) took.taken)
      (unaccepted (list_any (accepts b.0) was.between) refl) that mid open_yet took.sender in
      subst (λ (l : List Event). HaveCalls gives sent f j plan l new.states.items) (sym was.is)
      (subst (λ (l : List (JobState J)). HaveCalls gives sent f j plan (was.between ++ Accept b s ∷ []) l) (sym was.laid) done)
    where
      unaccepted : (v : Bool) → list_any (accepts b.0) was.between ≡ v → list_any (accepts b.0) was.between ≡ false
      unaccepted true at = absurd (next_unaccepted given.plan.now was.between b was.next at)
      unaccepted false at = at

  -- what `accept` puts
  pub accepted_said : (b : Blk) (s : ℕ) (job : J) (old new : JobsKept J) (r : Put) → IsAcceptedAlone gives given.plan.now b s job old new r
      → Says given.most given.plan.now (Accept b s) old.journal.items new.journal.items r
  accepted_said b s job old new r was =
      subst (λ (x : Put). Says given.most given.plan.now (Accept b s) old.journal.items new.journal.items x) (sym was.placed)
      (record { front = was.between; grown = was.grows; is = was.is; place = refl })

  -- ## Worker 0 between two turns

  -- the intake learnt of shut mouths, while it is open
  pub learns_alone : (kept : JobsKept J) (i j : IntakeView X) → IsAlone gives sent given kept f i → is_intake_open given.plan.now kept.journal.items ≡ true → LearnsMore i j
      → IsAlone gives sent given kept f j
  learns_alone kept i j is opened more = record {
    run = is.run;
    few = is.few;
    of_front = more.front ∙ is.of_front;
    calls = calls_learnt gives sent f given.plan.now i j kept.journal.items kept.states.items (unshut given.plan.now kept.journal.items opened) more.taken is.calls;
  }

  -- a Shut was put
  pub shut_alone : (old new : JobsKept J) (i : IntakeView X) (r : Put) → IsAlone gives sent given old f i → IsJobsKept gives given new
      → WasPutAlone Shut old.journal.items new.journal.items r → ComesToNoMore gives old.states.items new.states.items
      → AllAccepted given.plan.now old.journal.items ⊎ (KnowsAll f i × TookAll i) → IsAlone gives sent given new f i
  shut_alone old new i r is run was fewer reason = record {
    run = run;
    few = is.few;
    of_front = is.of_front;
    calls = shut_calls i old.journal.items new.journal.items old.states.items new.states.items r was fewer reason is.calls;
  }

  -- a job was taken, and its Accept was put
  pub accepted_alone : (old new : JobsKept J) (i j : IntakeView X) (b : Blk) (s n : ℕ) (sent_job : X) (job : J) (r : Put) → IsAlone gives sent given old f i
      → is_intake_open given.plan.now old.journal.items ≡ true → TakesNext f i (parcel s n sent_job) j → ((value : ℕ) → gives job 0 value → sent sent_job value)
      → IsJobsKept gives given new → IsAcceptedAlone gives given.plan.now b s job old new r → IsAlone gives sent given new f j
  accepted_alone old new i j b s n sent_job job r is opened took that run was = record {
    run = run;
    few = is.few;
    of_front = ap (λ (x : IntakeView X). x.front) took.taken ∙ is.of_front;
    calls = accepted_calls i j b s n sent_job job old new r took (unshut given.plan.now old.journal.items opened) that was is.calls;
  }

  -- ## The end

  value_is : (states : List (JobState J)) (b : ℕ) (state : JobState J) → slice_get states b ≡ Some state → slice_get (map said states) b ≡ Some (said state)
  value_is states b state at = slice_get-map said states b ∙ ap (option_map said) at

  given_at : (kept : JobsKept J) (values : List (Option ℕ)) → IsJobsKept gives given kept → values ≡ map said kept.states.items
      → AreGivenBeside gives given.plan.now given.jobs.value.items kept.journal.items values
  given_at kept values run are =
      let plan = given.plan.now in let h = kept.journal.items in let states = kept.states.items in
      subst (λ (l : List (Option ℕ)). AreGivenBeside gives plan given.jobs.value.items h l) (sym are) (record {
        count = length-map states said ∙ run.states_are.count;
        ended = λ b low other gave.
            let is = run.states_are.gave b low gave in
            let own = run.own_jobs b is.0 other (record { state = Gave is.0; at = is.1; may = refl }) in
            record { job = own.0; value = is.0; job_of = own.1; value_of = value_is states b (Gave is.0) is.1; given = own.2 };
        others = λ b low none.
            let is = run.states_are.waits b low none in
            value_is states b (Waits is.0) is.1;
      })

  of_sender : (kept : JobsKept J) (i : IntakeView X) (s : ℕ) → IsAlone gives sent given kept f i
      → OfSender sent kept.journal.items (map said kept.states.items) (jobs_of s i.taken) s
  of_sender kept i s is =
      let plan = given.plan.now in let h = kept.journal.items in let states = kept.states.items in
      let valid : IsPlan plan = valid_stands kept.machine plan h is.run.stands in
      let lawful : IsLawful plan h = lawful_stands kept.machine plan h is.run.stands in
      record {
        front = jobs_of s i.taken;
        rest = [];
        split = sym (append-nil (jobs_of s i.taken));
        given = zip_accepted (ComesOf gives sent states) (RanFor sent h (map said states)) s h
            (λ k b at x comes ended.
            let of = accepted_of_intake plan h k b s lawful at in
            let live = ap not (never_cancelled plan h b.0 valid of) in
            let gave = run_gave b (accepted_within plan b valid of) (and_from (is_ended h b.0) (not (is_block_cancelled plan h b.0)) ended live) in
            (gave.0, value_is states b.0 (Gave gave.0) gave.1, comes gave.0 (record { state = Gave gave.0; at = gave.1; may = refl })))
            (jobs_of s i.taken) (is.calls.taken s);
      }
    where
      run_gave : (b : Blk) → b.0 < length given.plan.now.blocks → has_given given.plan.now kept.journal.items b.0 ≡ true
          → (value : ℕ) × (slice_get kept.states.items b.0 ≡ Some (Gave value))
      run_gave b low gave = is.run.states_are.gave b.0 low gave

  -- what it kept, and the intake, tell of the run of what was given
  pub alone_front : (kept : JobsKept J) (i : IntakeView X) (d : JobsInput J) (poller : Seen PollerState) (clock : Seen ClockState) (ran : Ran)
      → d.plan.now ≡ given.plan.now → d.most ≡ given.most → d.jobs ≡ given.jobs.value → d.workers ≡ 1 → IsAlone gives sent given kept f i
      → ran.journal ≡ kept.journal → ran.values.items ≡ map said kept.states.items → HasState given.plan.now kept.journal.items ran.state
      → ((s : ℕ) → poller.before.watched s ≡ false) → IsRunOn given.most given.plan.now [] kept.journal.items poller clock
      → RunsFront gives sent d f i poller clock ran
  alone_front kept i d poller clock ran plan_is most_is jobs_is one is journal values state unwatched on =
      let plan = given.plan.now in let h = kept.journal.items in
      let same : h ≡ ran.journal.items = ap (λ v. v.items) (sym journal) in
      let run = is.run in
      let calls = AcceptsOf f.senders in
      let runs : RunsPlan given.most plan 1 calls poller clock h = runs_plan given.most plan 1 calls h kept.machine poller clock (jobs_sight gives given kept run)
      (workers_of_alone 1 h (omega arith) run.alone) (λ alone. run.chosen) is.calls.senders unwatched on in
      let run_here : RunsPlan d.most d.plan.now d.workers calls poller clock h =
      subst (λ (m : ℕ). RunsPlan m d.plan.now d.workers calls poller clock h) (sym most_is)
      (subst (λ (k : PlanView). RunsPlan given.most k d.workers calls poller clock h) (sym plan_is)
      (subst (λ (n : ℕ). RunsPlan given.most plan n calls poller clock h) (sym one) runs)) in
      let by_plan : AreGivenBeside gives d.plan.now d.jobs.items h ran.values.items =
      subst (λ (k : PlanView). AreGivenBeside gives k d.jobs.items h ran.values.items) (sym plan_is)
      (subst (λ (l : List J). AreGivenBeside gives plan l h ran.values.items) (sym (ap (λ v. v.items) jobs_is)) (given_at kept ran.values.items run values)) in
      record {
        run = subst (RunsPlan d.most d.plan.now d.workers calls poller clock) same run_here;
        state_is = subst (λ (k : PlanView). HasState k ran.journal.items ran.state) (sym plan_is) (subst (λ (l : List Event). HasState plan l ran.state) same state);
        given = subst (λ (l : List Event). AreGivenBeside gives d.plan.now d.jobs.items l ran.values.items) same by_plan;
        callers = λ s.
            subst (λ (l : List Event). OfSender sent l ran.values.items (jobs_of s i.taken) s) same
            (subst (λ (v : List (Option ℕ)). OfSender sent h v (jobs_of s i.taken) s) (sym values) (of_sender kept i s is));
        all = λ shut s.
            subst (λ (l : List Event). length (blocks_of_sender l s) ≡ length (jobs_of s i.taken)) same
            (AllZip-long (ComesOf gives sent kept.states.items) (jobs_of s i.taken) (blocks_of_sender h s) (is.calls.taken s));
        why_shut = λ shut.
            subst (λ (k : PlanView). AllAccepted k ran.journal.items ⊎ (KnowsAll f i × TookAll i)) (sym plan_is)
            (subst (λ (l : List Event). AllAccepted plan l ⊎ (KnowsAll f i × TookAll i)) same
            (is.calls.why_shut (subst (λ (l : List Event). list_any shuts l ≡ true) (sym same) shut)));
      }

  -- poller, clock and intake are at the end as the last call left them
  pub alone_as : {P C : Type 0} (poller : P → PollerState) (clock : C → ClockState) (i : IntakeView X) (d : JobsInput J) (ran : Ran) (pt ct : Bool) (p q : P) (a e : C)
      {j : IntakeView X} {r : P} {t : C} → j ≡ i → r ≡ q → t ≡ e
      → RunsFront gives sent d f i (record { tells = pt; before = poller p; after = poller q }) (record { tells = ct; before = clock a; after = clock e }) ran
      → RunsFront gives sent d f j (record { tells = pt; before = poller p; after = poller r }) (record { tells = ct; before = clock a; after = clock t }) ran
  alone_as poller clock i d ran pt ct p q a e {j} {r} {t} same_intake same_poller same_clock runs =
      subst (λ x. RunsFront gives sent d f x (record { tells = pt; before = poller p; after = poller r }) (record { tells = ct; before = clock a; after = clock t }) ran) (sym same_intake)
      (subst (λ x. RunsFront gives sent d f i (record { tells = pt; before = poller p; after = poller x }) (record { tells = ct; before = clock a; after = clock t }) ran) (sym same_poller)
      (subst (λ x. RunsFront gives sent d f i (record { tells = pt; before = poller p; after = poller q }) (record { tells = ct; before = clock a; after = clock x }) ran) (sym same_clock) runs))
