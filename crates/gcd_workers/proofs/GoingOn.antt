-- A run over files that went on from a history.
use Rattle.std.proofs.Common.{◌≡◌, ◌<◌, ◌≤◌, ◌∙◌, ℕ, Bool, false, List, [], length, map, Option, ap, sym, subst, arith}
use Rattle.std.specs.Prelude.{unwrap_or}
use Rattle.gcd_plan.specs.PlanView.{PlanView}
use Rattle.gcd_plan.specs.Validity.{IsPlan}
use Rattle.gcd_event.specs.declared.event.Event.{Event}
use Rattle.gcd_history.specs.Ends.{HasEnded, HasState}
use Rattle.gcd_history.specs.History.{IsLawful}
use Rattle.gcd_history.specs.Intake.{AcceptsNone}
use Rattle.gcd_history.specs.Team.{StartsWith}
use Rattle.gcd_jobs.specs.BlockValues.{AreValues}
use Rattle.gcd_jobs.specs.Contents.{contents}
use Rattle.gcd_jobs.specs.declared.file_job.FileJob.{FileJob}
use Rattle.gcd_jobs.specs.declared.tally.Tally.{Tally}
use Rattle.gcd_machine.specs.Stands.{StandsFor}
use Rattle.gcd_machine.proofs.Views.Calls.{plan_stands, valid_stands}
use Rattle.gcd_outer.specs.Outside.{ClockState}
use Rattle.gcd_outer.specs.Tells.{PollerState}
use Rattle.gcd_turn.specs.Outsides.{Faced}
use Rattle.gcd_loop.specs.Followed.{FollowsChoice, FollowsFrom, IsOfWorkers}
use Rattle.gcd_loop.specs.Going.{BeginsAt, GoesOn, GoesOnFrom, both, since}
use Rattle.gcd_loop.proofs.Follows.{follows_on, workers_of_alone}
use Rattle.gcd_loop.proofs.Steps.{goes_through, run_on, runs_plan}
use Rattle.gcd_row.specs.Jobs.{placed_jobs}
use Rattle.gcd_row.specs.Passes.{IsPassOf, terms_of, view}
use Rattle.gcd_row.specs.Shapes.{gives_of}
use Rattle.gcd_row.specs.declared.board.RowBoard.{RowBoard}
use Rattle.gcd_row.specs.declared.cell.Cell.{Cell}
use Rattle.gcd_row.specs.declared.pass.RowPass.{RowPass}
use Rattle.gcd_row.specs.declared.view.Terms.{Terms}
use Rattle.gcd_pool.specs.Leads.{Follows}
use Rattle.gcd_workers.specs.JobsRuns.{AreOfJobs, tally_shape}
use Rattle.gcd_workers.specs.ListRuns.{IsKept}
use Rattle.gcd_workers.specs.Opened.{AreCellsOf, file_gives}
use Rattle.gcd_workers.specs.Ran.{GoesOnOverFiles, HasLeft, RunsOverFiles, bounds_over}
use Rattle.gcd_workers.specs.Teams.{HasLed, bounds_on}
use Rattle.gcd_workers.specs.declared.list_run.Kept.{Kept}
use Rattle.gcd_workers.specs.declared.outcome.Outcome.{Outcome}
use Rattle.gcd_workers.specs.declared.over.Over.{Over}
use Rattle.gcd_workers.proofs.Opened.{values_after}
use Rattle.gcd_workers.proofs.Runs.{all_of_first}
use Rattle.gcd_workers.proofs.Wholes.{few_pass, lawful_pass}

-- what fewer workers promise more do
left_by_more : (over : Over) (m n : ℕ) (o : Outcome) → 0 < m → m ≤ n → HasLeft over m o → HasLeft over n o
left_by_more over m n o some more left = record {
  ended = left.ended;
  stands = left.stands;
  few = left.few;
  by = λ i e at. let low = left.by i e at in omega (arith, more, low);
  chosen = λ one. left.chosen (omega (arith, some, more, one));
  uncalled = left.uncalled;
  state_is = left.state_is;
  values = left.values;
}

pub went_by_more : (over : Over) (m n : ℕ) (h : List Event) (f : Faced) (o : Outcome) → 0 < m → m ≤ n → GoesOnOverFiles over m h f o → GoesOnOverFiles over n h f o
went_by_more over m n h f o some more went = record { going = went.going; left = left_by_more over m n o some more went.left }

-- two runs with one outside, one behind the other, are one
pub went_through : (over : Over) (n : ℕ) (h k : List Event) (f g : Faced) (o : Outcome) → GoesOnFrom f g → GoesOn (bounds_over over) h k f
    → GoesOnOverFiles over n k g o → GoesOnOverFiles over n h (both f g) o
went_through over n h k f g o from first went = record { going = goes_through (bounds_over over) h k o.journal.items f g from first went.going; left = went.left }

-- worker 0 alone, in its list
pub went_alone : (over : Over) (kept : Kept) (h : List Event) (f : Faced) (o : Outcome) → IsKept over kept → HasEnded over.most over.plan.now kept.journal.items
    → GoesOn (bounds_over over) h kept.journal.items f → o.journal ≡ kept.journal → o.values ≡ kept.values → o.machine ≡ kept.machine
    → HasState over.plan.now kept.journal.items o.state → GoesOnOverFiles over 1 h f o
went_alone over kept h f o run ended going journal values machine state =
    let plan = over.plan.now in let k = kept.journal.items in
    let same : k ≡ o.journal.items = ap (λ v. v.items) (sym journal) in
    record {
      going = subst (λ (l : List Event). GoesOn (bounds_over over) h l f) same going;
      left = record {
        ended = subst (HasEnded over.most plan) same ended;
        stands = subst (λ m. StandsFor m plan o.journal.items) (sym machine) (subst (StandsFor kept.machine plan) same run.stands);
        few = subst (λ (l : List Event). length l ≤ over.most) same run.few;
        by = subst (IsOfWorkers 1) same (workers_of_alone 1 k (omega arith) run.alone);
        chosen = λ one. subst (FollowsChoice plan) same run.chosen;
        uncalled = subst AcceptsNone same run.uncalled;
        state_is = subst (λ (l : List Event). HasState plan l o.state) same state;
        values = subst (λ (l : List Event). AreValues plan (contents over.files.now) l o.values.items) same
            (subst (AreValues plan (contents over.files.now) k) (ap (λ v. v.items) (sym values)) run.values);
      };
    }

-- a team, over a row that began with what a list has kept
pub went_by_team : (over : Over) (kept : Kept) (b : RowBoard (Cell FileJob Tally)) (p : RowPass (Cell FileJob Tally)) (n : ℕ) (f : Faced) (o : Outcome) (values : List (Option ℕ))
    → IsKept over kept → (terms_of b).plan ≡ over.plan.now → (terms_of b).limits.most ≡ over.most → AreCellsOf over kept (terms_of b).cells
    → IsPassOf tally_shape (gives_of file_gives) b p → HasLed n (view p) → AcceptsNone (view p).seen
    → StartsWith (view p).seen kept.journal.items → GoesOn (bounds_on b) kept.journal.items (view p).seen f → (n ≡ 1 → Follows (terms_of b).plan kept.journal.items (view p).seen)
    → AreOfJobs file_gives (placed_jobs (view p)) (view p).seen values
    → o.journal.items ≡ (view p).seen → o.values.items ≡ map (λ (v : Option ℕ). unwrap_or v 0) values
    → StandsFor o.machine (terms_of b).plan (view p).seen → HasState (terms_of b).plan (view p).seen o.state
    → GoesOnOverFiles over n kept.journal.items f o
went_by_team over kept b p n f o values run plan_is most_is cells pass led none grew going follows are journal values_are stands state =
    let plan = over.plan.now in let h = kept.journal.items in let k = (view p).seen in
    let files = contents over.files.now in
    let terms : (view p).terms ≡ terms_of b = pass.terms in
    let own : (view p).terms.plan ≡ plan = ap (λ (t : Terms (Cell FileJob Tally)). t.plan) terms ∙ plan_is in
    let valid : IsPlan plan = valid_stands kept.machine plan h run.stands in
    let lawful : IsLawful plan k = subst (λ (q : PlanView). IsLawful q k) plan_is (lawful_pass tally_shape (gives_of file_gives) b p pass) in
    let few : length k ≤ over.most = subst (λ (m : ℕ). length k ≤ m) most_is (few_pass tally_shape (gives_of file_gives) b p pass) in
    let ended : HasEnded over.most plan k =
    subst (λ (m : ℕ). HasEnded m plan k) most_is
    (subst (λ (q : PlanView). HasEnded (terms_of b).limits.most q k) plan_is
    (subst (λ (t : Terms (Cell FileJob Tally)). HasEnded t.limits.most t.plan k) terms led.ended)) in
    let goes : GoesOn (bounds_over over) h k f =
    subst (λ (m : ℕ). GoesOn (record { plan = plan; most = m }) h k f) most_is
    (subst (λ (q : PlanView). GoesOn (record { plan = q; most = (terms_of b).limits.most }) h k f) plan_is going) in
    let chosen : n ≡ 1 → FollowsChoice plan k = λ one.
    let from = subst (λ (q : PlanView). Follows q h k) plan_is (follows one) (all_of_first (length h) k (subst (λ (m : ℕ). IsOfWorkers m k) one led.by)) in
    subst (FollowsChoice plan) (sym grew.1) (follows_on plan h grew.0 run.chosen (subst (FollowsFrom (length h) plan) grew.1 from)) in
    let of : AreValues plan files k (map (λ (v : Option ℕ). unwrap_or v 0) values) =
    values_after over kept (view p) grew.0 values valid run own
    (subst (λ (t : Terms (Cell FileJob Tally)). AreCellsOf over kept t.cells) (sym terms) cells) grew.1 lawful none are in
    let same : k ≡ o.journal.items = sym journal in
    record {
      going = subst (λ (l : List Event). GoesOn (bounds_over over) h l f) same goes;
      left = record {
        ended = subst (HasEnded over.most plan) same ended;
        stands = subst (StandsFor o.machine plan) same (subst (λ (q : PlanView). StandsFor o.machine q k) plan_is stands);
        few = subst (λ (l : List Event). length l ≤ over.most) same few;
        by = subst (IsOfWorkers n) same led.by;
        chosen = λ one. subst (FollowsChoice plan) same (chosen one);
        uncalled = subst AcceptsNone same none;
        state_is = subst (λ (l : List Event). HasState plan l o.state) same (subst (λ (q : PlanView). HasState q k o.state) plan_is state);
        values = subst (λ (l : List Event). AreValues plan files l o.values.items) same (subst (AreValues plan files k) (sym values_are) of);
      };
    }

-- a run from the first event to its end
pub went_whole : (over : Over) (n : ℕ) (f : Faced) (o : Outcome) (early : ClockState) → BeginsAt early f → ((s : ℕ) → f.poller.before.watched s ≡ false)
    → GoesOnOverFiles over n [] f o → RunsOverFiles over n f.poller (since early f.clock) o
went_whole over n f o early begins unwatched went =
    let plan = over.plan.now in let h = o.journal.items in let left = went.left in
    record {
      run = runs_plan over.most plan n AcceptsNone h o.machine f.poller (since early f.clock)
          (record { own = plan_stands o.machine plan h left.stands; stands = left.stands; few = left.few })
          left.by left.chosen left.uncalled unwatched (run_on (bounds_over over) [] h f early begins left.ended went.going);
      state_is = left.state_is;
      values = left.values;
    }

-- the outside is at the end as the last call left it
pub ran_as : {P C : Type 0} (poller : P → PollerState) (clock : C → ClockState) (over : Over) (n : ℕ) (o : Outcome) (pt ct : Bool) (p q : P) (a d : C) {r : P} {e : C}
    → r ≡ q → e ≡ d → RunsOverFiles over n (record { tells = pt; before = poller p; after = poller q }) (record { tells = ct; before = clock a; after = clock d }) o
    → RunsOverFiles over n (record { tells = pt; before = poller p; after = poller r }) (record { tells = ct; before = clock a; after = clock e }) o
ran_as poller clock over n o pt ct p q a d {r} {e} same_poller same_clock ran =
    subst (λ x. RunsOverFiles over n (record { tells = pt; before = poller p; after = poller x }) (record { tells = ct; before = clock a; after = clock e }) o) (sym same_poller)
    (subst (λ x. RunsOverFiles over n (record { tells = pt; before = poller p; after = poller q }) (record { tells = ct; before = clock a; after = clock x }) o) (sym same_clock) ran)
