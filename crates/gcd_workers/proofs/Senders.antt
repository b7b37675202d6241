-- What a run beside outside callers leaves.
use Rattle.std.proofs.Common.{◌≡◌, ◌<◌, ◌≤◌, ◌∙◌, ◌⊎◌, not, ℕ, true, false, List, [], map, Option, Some, ap, sym, subst, refl, arith, length, append-nil}
use Rattle.std.specs.List.{list_any}
use Rattle.std.specs.Prelude.{slice_index_or}
use Rattle.std.proofs.lemmas.Bool.{and_from, and_parts}
use Rattle.std.proofs.lemmas.Option.{same_Some, slice_get-map}
use Rattle.std.proofs.lemmas.Slice.Zip.{AllZip-long}
use Rattle.std.specs.Option.{option_map}
use Rattle.gcd_plan.specs.Made.{is_of_intake}
use Rattle.gcd_plan.specs.PlanView.{PlanView}
use Rattle.gcd_plan.specs.Validity.{IsPlan}
use Rattle.gcd_plan.proofs.Places.{slice_get_some}
use Rattle.gcd_event.specs.declared.event.Event.{Event}
use Rattle.gcd_history.specs.Ends.{HasState}
use Rattle.gcd_history.specs.History.{IsLawful, is_block_cancelled, is_ended}
use Rattle.gcd_history.specs.Intake.{AcceptsOf, AcceptsNone, AllAccepted, blocks_of_sender, shuts}
use Rattle.gcd_front.specs.Fronts.{KnowsAll, TookAll}
use Rattle.gcd_front.specs.Queue.{jobs_of}
use Rattle.gcd_front.specs.Views.{FrontView, IntakeView}
use Rattle.gcd_jobs.specs.BlockValues.{has_given}
use Rattle.gcd_jobs.specs.Jobs.{gives_or_zero}
use Rattle.gcd_jobs.specs.declared.tally.Tally.{Tally}
use Rattle.gcd_outer.specs.Outside.{ClockState, Rises, Seen}
use Rattle.gcd_outer.specs.Tells.{PollerState}
use Rattle.gcd_loop.specs.Ran.{RunsPlan}
use Rattle.gcd_machine.proofs.Views.Calls.{lawful_stands}
use Rattle.gcd_row.proofs.Jobs.{plain_job}
use Rattle.gcd_row.specs.Jobs.{placed_at, placed_jobs}
use Rattle.gcd_row.specs.Passes.{IsPassOf, machine_of, terms_of, view}
use Rattle.gcd_row.specs.Shapes.{Shape, gives_of}
use Rattle.gcd_row.specs.declared.board.RowBoard.{RowBoard}
use Rattle.gcd_row.specs.declared.cell.Cell.{Cell}
use Rattle.gcd_row.specs.declared.cell.Cell.TheVariants.{Body}
use Rattle.gcd_row.specs.declared.pass.RowPass.{RowPass}
use Rattle.gcd_row.specs.declared.view.Handed.{Handed}
use Rattle.gcd_row.specs.declared.view.Terms.{Terms}
use Rattle.gcd_row.specs.declared.view.View.{View}
use Rattle.gcd_row.proofs.Passing.{valid_plan}
use Rattle.gcd_pool.proofs.Admitting.{admitted_on}
use Rattle.gcd_pool.specs.Admitted.{Admitted, BeginWithTaken, IsTakenFor}
use Rattle.gcd_pool.specs.Each.{Each}
use Rattle.gcd_pool.specs.Hands.{Served}
use Rattle.gcd_pool.specs.declared.hand.Hand.{Hand}
use Rattle.gcd_pool.specs.declared.hand.Pool.{Pool}
use Rattle.gcd_workers.specs.CallersRuns.{AreGivenBeside, OfSender, RanFor, RunsFront}
use Rattle.gcd_workers.specs.JobsRuns.{AreGiven, AreLaid, AreOfJobs, IsGiven, RunsJobs, tally_shape}
use Rattle.gcd_workers.specs.declared.jobs_input.JobsInput.{JobsInput}
use Rattle.gcd_workers.specs.declared.ran.Ran.{Ran}
use Rattle.gcd_workers.proofs.Intake.{accepted_of_intake, accepted_within, ended_elsewhere, never_cancelled, none_of_any, zip_accepted}

-- ## Before the run, and after it

module _ {S X : Type 0} (gives : S → ℕ → Type 0) (sent : X → ℕ → Type 0) (f : FrontView) where
  -- a view that has seen and handed in the same says the same of what was taken
  pub admitted_same : (v w : View S) (i : IntakeView X) → w.terms ≡ v.terms → w.handed ≡ v.handed → w.seen ≡ v.seen → IsLawful w.terms.plan w.seen
      → Admitted gives sent f v i → Admitted gives sent f w i
  admitted_same v w i terms handed seen lawful old =
      admitted_on gives sent f v w i terms (ap (λ (n : Handed S). n.placed) handed) (record { rest = []; split = seen ∙ sym (append-nil v.seen); none = refl }) lawful old

  -- so does worker 0's pass once it has taken in the others
  pub admitted_after : (shape : S → Shape) (pool : Pool S) (old new : List (Hand S)) (p : RowPass S) (i : IntakeView X) (d : Hand S) → 0 < length old
      → Each (Served shape gives pool) old new → IsPassOf shape gives pool.board.now p → (view p).handed ≡ (view (slice_index_or new 0 d).pass).handed
      → (view p).seen ≡ (view (slice_index_or new 0 d).pass).seen → Admitted gives sent f (view (slice_index_or new 0 d).pass) i → Admitted gives sent f (view p) i
  admitted_after shape pool old new p i d some served pass handed seen was =
      admitted_same (view (slice_index_or new 0 d).pass) (view p) i (pass.terms ∙ sym (served 0 d some).serving.of.pass.terms) handed seen
      (lawful_stands (machine_of p) (view p).terms.plan (view p).seen pass.stands) was

  -- no sender of another number than the front's has an Accept
  pub called_of : (v : View S) (i : IntakeView X) → Admitted gives sent f v i → AcceptsOf f.senders v.seen
  called_of v i admitted = admitted.senders

-- a front without senders accepts nothing
pub calls_none : (senders : ℕ) (h : List Event) → senders ≡ 0 → AcceptsOf senders h → AcceptsNone h
calls_none senders h none of = none_of_any h (λ s. of s (omega (arith, none)))

-- ## The values

module _ {J X : Type 0} (gives : J → ℕ → ℕ → Type 0) (sent : X → ℕ → Type 0) where
  -- a block that is not of the intake ran its own job
  is_given : (v : View (Cell J Tally)) (jobs : List J) (values : List (Option ℕ)) (b : ℕ) → AreLaid jobs v.terms.cells
      → length jobs ≡ length v.terms.plan.blocks → AreOfJobs gives (placed_jobs v) v.seen values → b < length v.terms.plan.blocks
      → is_of_intake v.terms.plan b ≡ false → has_given v.terms.plan v.seen b ≡ true → IsGiven gives jobs values b
  is_given v jobs values b laid count are low other gave =
      let told = are.ended b low gave in
      let job = slice_get_some jobs b (omega (arith, count, low)) in
      record {
        job = job.0;
        value = told.0;
        job_of = job.1;
        value_of = told.1;
        given = told.2 (Body job.0) (plain_job v.terms (placed_at v.handed.placed) b other ∙ laid b job.0 job.1);
      }

  -- a block that was accepted of a sender ran the sender's job
  of_sender : (v : View (Cell J Tally)) (values : List (Option ℕ)) (jobs : List X) (s : ℕ) → IsPlan v.terms.plan → IsLawful v.terms.plan v.seen
      → AreOfJobs gives (placed_jobs v) v.seen values → BeginWithTaken (gives_of gives) sent v jobs s → OfSender sent v.seen values jobs s
  of_sender v values jobs s valid lawful are begun =
      let plan = v.terms.plan in
      let h = v.seen in
      record {
        front = begun.front;
        rest = begun.rest;
        split = begun.split;
        given = zip_accepted (IsTakenFor (gives_of gives) sent v) (RanFor sent h values) s h
            (λ i b at x taken ended.
            let of = accepted_of_intake plan h i b s lawful at in
            let live = ap not (never_cancelled plan h b.0 valid of) in
            let told = are.ended b.0 (accepted_within plan b valid of) (and_from (is_ended h b.0) (not (is_block_cancelled plan h b.0)) ended live) in
            (told.0, told.1, taken told.0 told.2))
            begun.front begun.taken;
      }

  -- what the pass at the end, the values of its board and the intake tell of the run of what was given
  pub runs_front : (mine board : RowBoard (Cell J Tally)) (p : RowPass (Cell J Tally)) (d : JobsInput J) (n : ℕ) (f : FrontView) (i : IntakeView X)
      (poller : Seen PollerState) (clock : Seen ClockState) (ran : Ran) → board ≡ mine → IsPassOf tally_shape (gives_of gives) board p
      → (terms_of mine).plan ≡ d.plan.now → (terms_of mine).limits.most ≡ d.most → n ≡ d.workers → ran.journal.items ≡ (view p).seen
      → AreLaid d.jobs.items (terms_of mine).cells → length d.jobs.items ≡ length d.plan.now.blocks
      → AreOfJobs gives (placed_jobs (view p)) (view p).seen ran.values.items → Admitted (gives_of gives) sent f (view p) i
      → RunsPlan (terms_of board).limits.most (terms_of board).plan n (AcceptsOf f.senders) poller clock (view p).seen
      → HasState (terms_of mine).plan (view p).seen ran.state → RunsFront gives sent d f i poller clock ran
  runs_front mine board p d n f i poller clock ran same pass plan_is most_is workers_is seen laid count are admitted run has =
      let v = view p in
      let values = ran.values.items in
      let terms : v.terms ≡ terms_of mine = pass.terms ∙ ap terms_of same in
      let own : v.terms.plan ≡ d.plan.now = ap (λ (t : Terms (Cell J Tally)). t.plan) terms ∙ plan_is in
      let board_plan : (terms_of board).plan ≡ d.plan.now = ap (λ (b : RowBoard (Cell J Tally)). (terms_of b).plan) same ∙ plan_is in
      let board_most : (terms_of board).limits.most ≡ d.most = ap (λ (b : RowBoard (Cell J Tally)). (terms_of b).limits.most) same ∙ most_is in
      let calls = AcceptsOf f.senders in
      let run_here : RunsPlan d.most d.plan.now d.workers calls poller clock v.seen =
      subst (λ (m : ℕ). RunsPlan m d.plan.now d.workers calls poller clock v.seen) board_most
      (subst (λ (k : PlanView). RunsPlan (terms_of board).limits.most k d.workers calls poller clock v.seen) board_plan
      (subst (λ (m : ℕ). RunsPlan (terms_of board).limits.most (terms_of board).plan m calls poller clock v.seen) workers_is run)) in
      let lawful : IsLawful v.terms.plan v.seen = subst (λ (k : PlanView). IsLawful k v.seen) (sym own) run_here.lawful in
      let laid_here = subst (λ (t : Terms (Cell J Tally)). AreLaid d.jobs.items t.cells) (sym terms) laid in
      let count_here = subst (λ (k : PlanView). length d.jobs.items ≡ length k.blocks) (sym own) count in
      let given : AreGivenBeside gives v.terms.plan d.jobs.items v.seen values = record {
        count = are.count;
        ended = λ b low other gave. is_given v d.jobs.items values b laid_here count_here are low other gave;
        others = are.others;
      } in
      record {
        run = subst (RunsPlan d.most d.plan.now d.workers calls poller clock) (sym seen) run_here;
        state_is = subst (λ (k : PlanView). HasState k ran.journal.items ran.state) plan_is
            (subst (λ (h : List Event). HasState (terms_of mine).plan h ran.state) (sym seen) has);
        given = subst (λ (k : PlanView). AreGivenBeside gives k d.jobs.items ran.journal.items values) own
            (subst (λ (h : List Event). AreGivenBeside gives v.terms.plan d.jobs.items h values) (sym seen) given);
        callers = λ s. subst (λ (h : List Event). OfSender sent h values (jobs_of s i.taken) s) (sym seen)
            (of_sender v values (jobs_of s i.taken) s (valid_plan tally_shape (gives_of gives) board p pass) lawful are (admitted.first s));
        all = λ shut s.
            subst (λ (h : List Event). length (blocks_of_sender h s) ≡ length (jobs_of s i.taken)) (sym seen)
            (AllZip-long (IsTakenFor (gives_of gives) sent v) (jobs_of s i.taken) (blocks_of_sender v.seen s)
            (admitted.shut (subst (λ (h : List Event). list_any shuts h ≡ true) seen shut) s));
        why_shut = λ shut.
            subst (λ (k : PlanView). AllAccepted k ran.journal.items ⊎ (KnowsAll f i × TookAll i)) own
            (subst (λ (h : List Event). AllAccepted v.terms.plan h ⊎ (KnowsAll f i × TookAll i)) (sym seen)
            (admitted.why_shut (subst (λ (h : List Event). list_any shuts h ≡ true) seen shut)));
      }

  -- beside a front without senders each block has its own job
  pub all_given : (d : JobsInput J) (f : FrontView) (i : IntakeView X) (poller : Seen PollerState) (clock : Seen ClockState) (ran : Ran)
      → IsPlan d.plan.now → f.senders ≡ 0 → RunsFront gives sent d f i poller clock ran
      → AreGiven gives d.plan.now d.jobs.items ran.journal.items ran.values.items
  all_given d f i poller clock ran valid nobody left =
      let h = ran.journal.items in
      let none = calls_none f.senders h nobody left.run.called in
      record {
        count = left.given.count;
        ended = λ b within gave.
            let ended = (and_parts (is_ended h b) (not (is_block_cancelled d.plan.now h b)) gave).0 in
            left.given.ended b within (ended_elsewhere d.plan.now h b valid left.run.lawful none ended) gave;
        others = left.given.others;
      }

  -- a run by fewer workers than were asked for
  pub runs_front_of_fewer : (d : JobsInput J) (n : ℕ) (f : FrontView) (i : IntakeView X) (poller : Seen PollerState) (clock : Seen ClockState) (ran : Ran)
      → 0 < n → n ≤ d.workers → RunsFront gives sent (record d { workers = n }) f i poller clock ran → RunsFront gives sent d f i poller clock ran
  runs_front_of_fewer d n f i poller clock ran some few left =
      let run = left.run in
      record {
        run = record {
          lawful = run.lawful;
          ended = run.ended;
          few = run.few;
          by = λ k e at. let by = run.by k e at in omega (arith, few, by);
          chosen = λ one. run.chosen (omega (arith, some, few, one));
          called = run.called;
          timely = run.timely;
          heard = run.heard;
        };
        state_is = left.state_is;
        given = left.given;
        callers = left.callers;
        all = left.all;
        why_shut = left.why_shut;
      }

module _ {J X : Type 0} (gives : J → ℕ → ℕ → Type 0) (sent : X → ℕ → Type 0) where
  -- a block whose job is one of these, and not none
  own_given : (jobs : List J) (values : List (Option ℕ)) (b : ℕ) → b < length jobs → IsGiven (gives_or_zero gives) (map Some jobs) values b → IsGiven gives jobs values b
  own_given jobs values b low is =
      let job = slice_get_some jobs b low in
      let same : Some job.0 ≡ is.job =
      same_Some (Some job.0) is.job (sym (slice_get-map Some jobs b ∙ ap (option_map Some) job.1) ∙ is.job_of) in
      record {
        job = job.0;
        value = is.value;
        job_of = job.1;
        value_of = is.value_of;
        given = subst (λ (j : Option J). gives_or_zero gives j 0 is.value) (sym same) is.given;
      }

  -- so such a run is one of jobs of any type, by no more than so many workers
  pub runs_jobs : (d : JobsInput (Option J)) (jobs : List J) (workers : ℕ) (f : FrontView) (i : IntakeView X) (poller : Seen PollerState)
      (clock : Seen ClockState) (ran : Ran) → IsPlan d.plan.now → d.jobs.items ≡ map Some jobs → length jobs ≡ length d.plan.now.blocks → f.senders ≡ 0
      → 0 < d.workers → d.workers ≤ workers → (Rises poller.before.faults poller.after.faults → ⊥) → RunsFront (gives_or_zero gives) sent d f i poller clock ran
      → RunsJobs gives d.most d.plan.now jobs workers ran
  runs_jobs d jobs workers f i poller clock ran valid some count nobody low more never left =
      let run = left.run in
      let h = ran.journal.items in
      let given = subst (λ (l : List (Option J)). AreGiven (gives_or_zero gives) d.plan.now l h ran.values.items) some
      (all_given (gives_or_zero gives) sent d f i poller clock ran valid nobody left) in
      record {
        lawful = run.lawful;
        ended = run.ended;
        state_is = left.state_is;
        few = run.few;
        by = λ k e at. let by = run.by k e at in omega (arith, more, by);
        chosen = λ one. run.chosen (omega (arith, low, more, one));
        uncalled = calls_none f.senders h nobody run.called;
        unhalted = λ has. never (run.heard.faults.halts has);
        given = record {
          count = given.count;
          ended = λ b within gave. own_given jobs ran.values.items b (omega (arith, count, within)) (given.ended b within gave);
          others = given.others;
        };
      }
