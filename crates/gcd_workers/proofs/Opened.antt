-- A row that begins with what a list has kept: it may begin so, and the values at its end are those of the works.
use Rattle.std.proofs.Common.{◌≡◌, ◌≢◌, ◌<◌, ◌+◌, ◌++◌, ◌∙◌, ◌&&◌, ℕ, zero, suc, Bool, true, false, cond, not, List, [], ◌∷◌, length, map, filter, Option, Some, None, refl, ap, sym, subst, arith}
use Rattle.std.specs.Prelude.{slice_index_or, unwrap_or}
use Rattle.std.specs.List.{list_any}
use Rattle.std.proofs.lemmas.Bool.{and_from, and_parts, both_ways, eqb-true}
use Rattle.std.proofs.lemmas.List.{length-map}
use Rattle.std.proofs.lemmas.Option.{same_Some}
use mathlib.Core.Option.{some, some-injective, some-ne-none}
use lib.ListN.{get_elem?}
use Rattle.gcd_plan.specs.Made.{is_of_intake}
use Rattle.gcd_plan.specs.PlanView.{IsRun, PlanView}
use Rattle.gcd_plan.specs.Validity.{IsPlan}
use Rattle.gcd_plan.specs.declared.numbers.Run.{Run}
use Rattle.gcd_plan.specs.declared.numbers.Run.TheVariants.{Block, Source}
use Rattle.gcd_plan.proofs.Places.{slice_get_some}
use Rattle.gcd_event.specs.declared.event.Event.{Event}
use Rattle.gcd_history.specs.Choice.{worker_of}
use Rattle.gcd_history.specs.Held.{is_of, taken}
use Rattle.gcd_history.specs.History.{IsLawful, is_block_cancelled, is_ended, why}
use Rattle.gcd_history.specs.Intake.{AcceptsNone, accepts}
use Rattle.gcd_history.specs.Team.{held_by, of_worker}
use Rattle.gcd_history.proofs.Blocks.CancelledStays.{begun_where_ended, cancelled_kept_on}
use Rattle.gcd_history.proofs.Public.TeamLaws.{nothing_is_held_first, takings_find_nobody}
use Rattle.gcd_jobs.specs.BlockValues.{AreValues, has_given}
use Rattle.gcd_jobs.specs.Contents.{contents}
use Rattle.gcd_jobs.specs.declared.file_job.FileJob.{FileJob}
use Rattle.gcd_jobs.specs.declared.tally.Tally.{Tally}
use Rattle.gcd_history.specs.Values.{value_of}
use Rattle.gcd_loop.specs.Followed.{IsAllWorker0}
use Rattle.gcd_machine.proofs.Views.Calls.{lawful_stands}
use Rattle.gcd_row.specs.Jobs.{May, jobs_of, placed_at, placed_jobs}
use Rattle.gcd_row.specs.Lying.{BodyLies, Lies, slot_of}
use Rattle.gcd_row.specs.Opening.{Opens, terms_with}
use Rattle.gcd_row.specs.Shapes.{done, gives_of}
use Rattle.gcd_row.specs.declared.cell.Cell.{Cell}
use Rattle.gcd_row.specs.declared.view.Limits.{Limits}
use Rattle.gcd_row.specs.declared.view.Terms.{Terms}
use Rattle.gcd_row.specs.declared.view.View.{View}
use Rattle.gcd_row.proofs.Beginning.{may_itself}
use Rattle.gcd_row.proofs.Jobs.{plain_job}
use Rattle.gcd_workers.specs.JobsRuns.{AreOfJobs, tally_shape}
use Rattle.gcd_workers.specs.ListRuns.{IsKept}
use Rattle.gcd_workers.specs.Opened.{AreCellsOf, IsBlockCell, IsCellOf, IsStopped, file_gives}
use Rattle.gcd_workers.specs.Teams.{EachFrom}
use Rattle.gcd_workers.specs.declared.list_run.Kept.{Kept}
use Rattle.gcd_workers.specs.declared.over.Over.{Over}
use Rattle.gcd_workers.proofs.Intake.{ended_elsewhere, none_accepted_in}
use Rattle.gcd_workers.proofs.Tellings.{elem_of, ended_inside}
use Rattle.gcd_workers.proofs.Valued.{or_0_at}

-- what lies at a place of a list
pub lies_at : {X : Type 0} (xs : List X) (k : ℕ) (x d : X) → get_elem? xs k ≡ some x → slice_index_or xs k d ≡ x
lies_at [] k x d at = absurd (some-ne-none x (sym at))
lies_at (y ∷ ys) zero x d at = some-injective y x at
lies_at (y ∷ ys) (suc k) x d at = lies_at ys k x d at

pub each_at : {X : Type 0} (P : ℕ → X → Type 0) (xs : List X) → EachFrom P 0 xs → (k : ℕ) (x : X) → get_elem? xs k ≡ some x → k < length xs → P k x
each_at P xs each k x at low =
    let same : 0 + k ≡ k = omega arith in
    subst (λ (n : ℕ). P n x) same (subst (P (0 + k)) (lies_at xs k x x at) (each k x low))

-- where each event is worker 0's, no other worker has any
pub none_of_others : (h : List Event) (w : ℕ) → IsAllWorker0 h → w ≢ 0 → of_worker w h ≡ []
unfolding of_worker
none_of_others [] w alone other = refl
none_of_others (e ∷ h) w alone other = by_owner (is_of w e) refl (none_of_others h w (λ i f at. alone (suc i) f at) other)
  where
    by_owner : (b : Bool) → is_of w e ≡ b → filter (is_of w) h ≡ [] → cond b (e ∷ filter (is_of w) h) (filter (is_of w) h) ≡ []
    by_owner true is rest = absurd (other (sym (eqb-true (worker_of e) w is) ∙ alone zero e refl))
    by_owner false is rest = rest

module _ (plan : PlanView) (files : List (List ℕ)) (h : List Event) (given : List ℕ) where
  -- what lies in the slot of a block
  block_lies : (t : Terms (Cell FileJob Tally)) (b : ℕ) (c : Cell FileJob Tally) → t.plan ≡ plan → b < length plan.blocks → get_elem? t.cells b ≡ some c
      → AreValues plan files h given → IsBlockCell plan files h given b c
      → BodyLies tally_shape (gives_of file_gives) (May (gives_of file_gives) (jobs_of t (λ k. None)) b) (is_ended h b) (is_block_cancelled plan h b) c
  block_lies t b c own low at are of = by_end (is_ended h b) (is_block_cancelled plan h b) refl refl
    where
      may : (v : ℕ) → gives_of file_gives c v → May (gives_of file_gives) (jobs_of t (λ k. None)) b v
      may = may_itself tally_shape (gives_of file_gives) t b c at

      by_end : (ended cancelled : Bool) → is_ended h b ≡ ended → is_block_cancelled plan h b ≡ cancelled
          → BodyLies tally_shape (gives_of file_gives) (May (gives_of file_gives) (jobs_of t (λ k. None)) b) ended cancelled c
      by_end false cancelled ended is = let it = of.other ended in (ap tally_shape it.1, may)
      by_end true false ended is = let it = of.ended ended in (it.0, ap tally_shape it.2, may it.0 (subst (λ (x : Cell FileJob Tally). gives_of file_gives x it.0) (sym it.2) refl))
      by_end true true ended is =
          let it = of.ended ended in
          let none : has_given plan h b ≡ false = ap (λ (x : Bool). x && not (is_block_cancelled plan h b)) ended ∙ ap not is in
          let zero_is : it.0 ≡ 0 = same_Some it.0 0 (sym it.1 ∙ are.others b low none) in
          ap tally_shape it.2 ∙ ap done zero_is

-- a row may begin with what the list has kept
pub opens_kept : (over : Over) (kept : Kept) (cells : List (Cell FileJob Tally)) (limits : Limits) → IsKept over kept → limits.most ≡ over.most
    → IsStopped over.plan.now kept.journal.items → AreCellsOf over kept cells
    → Opens tally_shape (gives_of file_gives) (terms_with over.plan.now cells limits (length kept.journal.items)) kept.journal.items
opens_kept over kept cells limits run most stopped are =
    let plan = over.plan.now in let files = contents over.files.now in let h = kept.journal.items in let given = kept.values.items in
    let few = run.few in
    record {
      lawful = lawful_stands kept.machine plan h run.stands;
      room = omega (arith, few, most);
      others = λ w other. none_of_others h w run.alone other;
      holds_none = stopped;
      accepts_none = λ b. none_accepted_in h b run.uncalled;
      cells = record {
        width = are.count;
        lie = λ r c known free at. lie (terms_with plan cells limits (length h)) r c known at;
        job = λ b _ is. absurd (both_ways (list_any (accepts b) h) (none_accepted_in h b run.uncalled) is);
      };
    }
  where
    lie : (t : Terms (Cell FileJob Tally)) (r : Run) (c : Cell FileJob Tally) → IsRun over.plan.now r → get_elem? cells (slot_of over.plan.now r) ≡ some c
        → Lies tally_shape (gives_of file_gives) (jobs_of (terms_with over.plan.now cells limits (length kept.journal.items)) (λ b. None)) kept.journal.items r c
    lie t (Block b) c known at =
        let plan = over.plan.now in let files = contents over.files.now in let h = kept.journal.items in let given = kept.values.items in
        let count = are.count in
        let low : b.0 < length cells = omega (arith, known, count) in
        let of : IsCellOf plan files h given b.0 c = each_at (IsCellOf plan files h given) cells are.each b.0 c at low in
        block_lies plan files h given (terms_with plan cells limits (length h)) b.0 c refl known at run.values (of.block known)
    lie t (Source s) c known at =
        let plan = over.plan.now in let files = contents over.files.now in let h = kept.journal.items in let given = kept.values.items in
        let slot = length plan.blocks + s.0 in
        let count = are.count in
        let low : slot < length cells = omega (arith, known, count) in
        let of : IsCellOf plan files h given slot c = each_at (IsCellOf plan files h given) cells are.each slot c at low in
        of.object s.0 refl

-- ## The values at the end

-- a value that the cell of a block may come to, which has given one at the end, is that of its work
gives_work : (plan : PlanView) (files : List (List ℕ)) (h rest : List Event) (given : List ℕ) (b v : ℕ) (c : Cell FileJob Tally) → IsLawful plan h
    → AreValues plan files h given → IsBlockCell plan files h given b c → has_given plan (h ++ rest) b ≡ true → gives_of file_gives c v → v ≡ value_of plan files b
gives_work plan files h rest given b v c lawful are of gave may = by_end (is_ended h b) refl
  where
    by_end : (ended : Bool) → is_ended h b ≡ ended → v ≡ value_of plan files b
    by_end false ended = let it = of.other ended in subst (λ (x : Cell FileJob Tally). gives_of file_gives x v) it.1 may ∙ it.2
    by_end true ended =
        let it = of.ended ended in
        let live_at_end = (and_parts (is_ended (h ++ rest) b) (not (is_block_cancelled plan (h ++ rest) b)) gave).1 in
        let live : not (is_block_cancelled plan h b) ≡ true = ap not (sym (cancelled_kept_on plan h rest b (begun_where_ended plan h b lawful ended))) ∙ live_at_end in
        let own = are.values b (and_from (is_ended h b) (not (is_block_cancelled plan h b)) ended live) in
        let same : it.0 ≡ v = subst (λ (x : Cell FileJob Tally). gives_of file_gives x v) it.2 may in
        sym same ∙ same_Some it.0 (value_of plan files b) (sym it.1 ∙ own)

-- what the cells tell at the end of a row that began with what the list has kept
pub values_after : (over : Over) (kept : Kept) (v : View (Cell FileJob Tally)) (rest : List Event) (values : List (Option ℕ)) → IsPlan over.plan.now → IsKept over kept
    → v.terms.plan ≡ over.plan.now → AreCellsOf over kept v.terms.cells
    → v.seen ≡ kept.journal.items ++ rest → IsLawful over.plan.now v.seen → AcceptsNone v.seen → AreOfJobs file_gives (placed_jobs v) v.seen values
    → AreValues over.plan.now (contents over.files.now) v.seen (map (λ (o : Option ℕ). unwrap_or o 0) values)
values_after over kept v rest values valid run own cells split lawful none are =
    let count = cells.count in
    let plan = over.plan.now in let files = contents over.files.now in let h = kept.journal.items in let given = kept.values.items in
    let told : AreOfJobs file_gives (record { plan = plan; job = (placed_jobs v).job }) v.seen values =
    subst (λ (p : PlanView). AreOfJobs file_gives (record { plan = p; job = (placed_jobs v).job }) v.seen values) own are in
    record {
      count = length-map values (λ (o : Option ℕ). unwrap_or o 0) ∙ told.count;
      values = λ b gave.
          let ended = (and_parts (is_ended v.seen b) (not (is_block_cancelled plan v.seen b)) gave).0 in
          let low = ended_inside plan v.seen b lawful ended in
          let it = told.ended b low gave in
          let cell = slice_get_some v.terms.cells b (omega (arith, count, low)) in
          let job : (placed_jobs v).job b ≡ Some cell.0 =
          plain_job v.terms (placed_at v.handed.placed) b (subst (λ (p : PlanView). is_of_intake p b ≡ false) (sym own) (ended_elsewhere plan v.seen b valid lawful none ended)) ∙ cell.1 in
          let of : IsCellOf plan files h given b cell.0 = each_at (IsCellOf plan files h given) v.terms.cells cells.each b cell.0 (elem_of v.terms.cells b cell.0 cell.1) (omega (arith, count, low)) in
          let is : it.0 ≡ value_of plan files b =
          gives_work plan files h rest given b it.0 cell.0 (lawful_stands kept.machine plan h run.stands) run.values (of.block low)
          (subst (λ (l : List Event). has_given plan l b ≡ true) split gave) (it.2 cell.0 job) in
          or_0_at values b (Some it.0) it.1 ∙ ap Some is;
      others = λ b low not_yet. or_0_at values b None (told.others b low not_yet);
    }

-- ## Before the row

-- worker 0 holds nothing where it may take a run
pub stops_at_start : (plan : PlanView) (h : List Event) (e : Event) → IsLawful plan h → (r : Run) × (taken e ≡ Some r) → why plan h e ≡ None → worker_of e ≡ 0
    → IsStopped plan h
stops_at_start plan h e lawful takes may own =
    subst (λ (w : ℕ). held_by plan h w ≡ None) own (takings_find_nobody plan h lawful e takes.0 takes.1 may).idle

-- nor before the first event
pub stops_at_first : (plan : PlanView) (h : List Event) → h ≡ [] → IsStopped plan h
stops_at_first plan h first = subst (IsStopped plan) (sym first) (nothing_is_held_first plan 0)
