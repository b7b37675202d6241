-- What the cells of a board of jobs tell at its end.
use Rattle.std.proofs.Common.{◌≡◌, ◌<◌, ◌≤◌, ◌+◌, ◌∙◌, ℕ, Bool, true, false, not, List, [], ◌∷◌, ◌++◌, length, Option, Some, None, ap, sym, subst, arith, ⊎_elim}
use Rattle.std.specs.Prelude.{slice_get}
use Rattle.std.proofs.lemmas.Bool.{and_parts, cases_lt, not-true}
use Rattle.std.proofs.lemmas.List.{length_push}
use Rattle.gcd_plan.specs.PlanView.{PlanView}
use Rattle.gcd_plan.specs.declared.numbers.Blk.{Blk}
use Rattle.gcd_plan.specs.declared.numbers.Run.TheVariants.{Block}
use Rattle.gcd_plan.proofs.Places.{slice_get_some, slice_get-append_left, slice_get-append_seam}
use Rattle.gcd_event.specs.declared.event.Event.{Event}
use Rattle.gcd_history.specs.History.{IsLawful, is_block_cancelled, is_ended}
use Rattle.gcd_machine.proofs.Views.Calls.{lawful_stands, plan_stands}
use Rattle.gcd_machine.specs.Stands.{StandsFor}
use Rattle.gcd_refinement.specs.MachineView.{MachineView}
use Rattle.gcd_jobs.specs.BlockValues.{has_given}
use Rattle.gcd_jobs.specs.declared.tally.Tally.{Tally}
use Rattle.gcd_row.specs.Jobs.{Jobs, May, placed_jobs}
use Rattle.gcd_row.specs.Lying.{BodyLies}
use Rattle.gcd_row.specs.Opening.{first_cells, object_cells}
use Rattle.gcd_row.specs.Passes.{AtRest, view}
use Rattle.gcd_row.specs.Shapes.{MayGive, done, gives_of}
use Rattle.gcd_row.specs.declared.cell.Cell.{Cell}
use Rattle.gcd_row.specs.declared.cell.Cell.TheVariants.{Body, Done, Handler, Away}
use Rattle.gcd_row.specs.declared.pass.RowPass.{RowPass}
use Rattle.gcd_workers.specs.JobsRuns.{AreLaid, AreOfJobs, AreTaken, tally_shape}
use Rattle.gcd_workers.proofs.Jobs.{body_at}
use Rattle.gcd_workers.proofs.Tellings.{elem_of, ended_is_nobodys}

module _ {J : Type 0} where
  -- the jobs are the first cells of a new board
  pub jobs_laid : (plan : PlanView) (jobs : List J) (tallies : List Tally) → AreLaid jobs (first_cells plan jobs tallies)
  jobs_laid plan jobs tallies b job at = body_at jobs (object_cells plan.objects tallies) b job at

  -- the value of one block more
  pub taken_push : (plan : PlanView) (h : List Event) (cells : List (Cell J Tally)) (n : ℕ) (values : List (Option ℕ)) (cell : Cell J Tally) (v : Option ℕ) (t : Bool)
      → t ≡ has_given plan h n → slice_get cells n ≡ Some cell → ((x : ℕ) → t ≡ true → cell ≡ Done x → v ≡ Some x) → (t ≡ false → v ≡ None)
      → AreTaken plan h cells n values → AreTaken plan h cells (n + 1) (values ++ v ∷ [])
  taken_push plan h cells n values cell v t test at gave lacks taken =
      let count = taken.count in
      let long = length_push values v in
      let seam : slice_get (values ++ v ∷ []) (length values) ≡ Some v = slice_get-append_seam values v [] in
      let here : slice_get (values ++ v ∷ []) n ≡ Some v = subst (λ (k : ℕ). slice_get (values ++ v ∷ []) k ≡ Some v) count seam in
      record {
        count = omega (arith, count, long);
        ended = λ b x low ended lies.
            ⊎_elim
            (λ (early : b < n). slice_get-append_left values (v ∷ []) b (omega (arith, count, early)) ∙ taken.ended b x early ended lies)
            (λ (late : n ≤ b).
            let same : n ≡ b = omega (arith, low, late) in
            let own : has_given plan h n ≡ true = ap (has_given plan h) same ∙ ended in
            let cell_is : Some cell ≡ Some (Done x) = sym at ∙ ap (slice_get cells) same ∙ lies in
            let done_is : cell ≡ Done x = cc in
            subst (λ (k : ℕ). slice_get (values ++ v ∷ []) k ≡ Some (Some x)) same (here ∙ ap Some (gave x (test ∙ own) done_is)))
            (cases_lt b n);
        others = λ b low not_yet.
            ⊎_elim
            (λ (early : b < n). slice_get-append_left values (v ∷ []) b (omega (arith, count, early)) ∙ taken.others b early not_yet)
            (λ (late : n ≤ b).
            let same : n ≡ b = omega (arith, low, late) in
            let own : has_given plan h n ≡ false = ap (has_given plan h) same ∙ not_yet in
            subst (λ (k : ℕ). slice_get (values ++ v ∷ []) k ≡ Some None) same (here ∙ ap Some (lacks (test ∙ own))))
            (cases_lt b n);
      }

  is_done : (cell : Cell J Tally) (v : ℕ) → tally_shape cell ≡ done v → cell ≡ Done v
  is_done (Body job) v is = absurd (cc)
  is_done (Done x) v is = ap Done (cc)
  is_done (Handler t) v is = absurd (cc)
  is_done Away v is = absurd (cc)

  module _ (gives : J → ℕ → ℕ → Type 0) where
    -- a value that its job may give lies in the slot of a block that has given one
    told_at : (t : Jobs (Cell J Tally)) (h : List Event) (cells : List (Cell J Tally)) (values : List (Option ℕ)) (b : ℕ)
        → IsLawful t.plan h → AtRest tally_shape (gives_of gives) t h cells → AreTaken t.plan h cells (length t.plan.blocks) values
        → b < length t.plan.blocks → has_given t.plan h b ≡ true → (value : ℕ) × (slice_get values b ≡ Some (Some value)) × MayGive gives t b value
    told_at t h cells values b lawful rest taken low gave =
        let parts = and_parts (is_ended h b) (not (is_block_cancelled t.plan h b)) gave in
        let ended : is_ended h b ≡ true = parts.0 in
        let live : is_block_cancelled t.plan h b ≡ false = not-true (is_block_cancelled t.plan h b) parts.1 in
        let width = rest.width in
        let blk : Blk = record { 0 = b } in
        let may : ℕ → Type 0 = May (gives_of gives) t b in
        let here = slice_get_some cells b (omega (arith, width, low)) in
        let lies = rest.lie (Block blk) here.0 low (ended_is_nobodys t.plan h blk lawful ended) (elem_of cells b here.0 here.1) in
        let is : BodyLies tally_shape (gives_of gives) may true false here.0 =
        subst (λ (m : Bool). BodyLies tally_shape (gives_of gives) may true m here.0) live
        (subst (λ (e : Bool). BodyLies tally_shape (gives_of gives) may e (is_block_cancelled t.plan h b) here.0) ended lies) in
        (is.0, taken.ended b is.0 low gave (here.1 ∙ ap Some (is_done here.0 is.0 is.1)), is.2)

    -- there is a cell for each block of the machine's plan
    pub cells_for : (p : RowPass (Cell J Tally)) (m : MachineView) (cells : List (Cell J Tally))
        → AtRest tally_shape (gives_of gives) (placed_jobs (view p)) (view p).seen cells → StandsFor m (view p).terms.plan (view p).seen
        → length m.plan.blocks ≤ length cells
    cells_for p m cells rest stands =
        let width = rest.width in
        let own = plan_stands m (view p).terms.plan (view p).seen stands in
        let wide : length (view p).terms.plan.blocks ≤ length cells = omega (arith, width) in
        subst (λ (k : PlanView). length k.blocks ≤ length cells) (sym own) wide

    -- of a board that is closed: the values are those of its blocks' jobs, as worker 0's pass knows them
    pub told_at_end : (p : RowPass (Cell J Tally)) (m : MachineView) (cells : List (Cell J Tally)) (values : List (Option ℕ))
        → StandsFor m (view p).terms.plan (view p).seen → AtRest tally_shape (gives_of gives) (placed_jobs (view p)) (view p).seen cells
        → AreTaken (view p).terms.plan (view p).seen cells (length m.plan.blocks) values
        → AreOfJobs gives (placed_jobs (view p)) (view p).seen values
    told_at_end p m cells values stands rest taken_by =
        let plan = (view p).terms.plan in
        let seen = (view p).seen in
        let taken = subst (λ (k : PlanView). AreTaken plan seen cells (length k.blocks) values) (plan_stands m plan seen stands) taken_by in
        record {
          count = taken.count;
          ended = λ b low gave. told_at (placed_jobs (view p)) seen cells values b (lawful_stands m plan seen stands) rest taken low gave;
          others = taken.others;
        }
