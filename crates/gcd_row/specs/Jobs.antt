-- Which job each block has (this project's own rule).
use Rattle.std.specs.Prelude.{◌≡◌, ℕ, ◌==◌, cond, List, [], ◌∷◌, Option, Some, None, slice_get, if◌then◌else◌}
use Rattle.gcd_plan.specs.PlanView.{PlanView}
use Rattle.gcd_plan.specs.Made.{is_of_intake}
use Rattle.gcd_row.specs.declared.view.Terms.{Terms}
use Rattle.gcd_row.specs.declared.view.View.{View}

-- the job of each block of a plan, by number, as the cell that has it
pub record Jobs (S : Type 0) : Type 0 where
  pub plan : PlanView
  pub job : ℕ → Option S

module _ {S : Type 0} where
  -- the values that the job of block b may come to
  abbrev pub May : (gives : S → ℕ → Type 0) → Jobs S → (b v : ℕ) → Type 0
  May gives t b v = (job : S) → t.job b ≡ Some job → gives job v

  -- what was placed for block b last; the last of all comes first
  abbrev pub placed_at : List (ℕ × S) → ℕ → Option S
  placed_at [] b = None
  placed_at (x ∷ xs) b = cond (x.0 == b) (Some x.1) (placed_at xs b)

  -- the job of block b: of a block of the intake this one, and of another the one that the board was made with
  unfoldable pub job_of : Terms S → (of_intake : ℕ → Option S) → ℕ → Option S
  job_of t of_intake b = if is_of_intake t.plan b then of_intake b else slice_get t.cells b

  abbrev pub jobs_of : Terms S → (of_intake : ℕ → Option S) → Jobs S
  jobs_of t of_intake = record { plan = t.plan; job = job_of t of_intake }

  -- the jobs as worker 0's pass knows them: of a block of the intake what lay in its slot at its Accept
  abbrev pub placed_jobs : View S → Jobs S
  placed_jobs v = jobs_of v.terms (placed_at v.handed.placed)

  -- the job of the block that a pass holds, as it knows that: of a block of the intake what lay in its slot at its Start
  abbrev pub held_jobs : View S → Jobs S
  held_jobs v = jobs_of v.terms (λ b. v.first)
