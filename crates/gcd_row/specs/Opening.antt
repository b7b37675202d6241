-- What lies in the slots of a board at first, and what its row may begin with.
use Rattle.std.specs.Prelude.{◌≡◌, ◌≢◌, ◌≤◌, ℕ, false, None, List, [], ◌∷◌, ◌++◌, length, map, filter, drop, if◌then◌else◌, All}
use Rattle.std.specs.List.{list_any}
use mathlib.Core.Option.{some}
use lib.ListN.{get_elem?}
use Rattle.gcd_plan.specs.PlanView.{PlanView, ObjView, IsRun}
use Rattle.gcd_plan.specs.Kinds.{is_source_kind}
use Rattle.gcd_plan.specs.declared.kind.Kind.{Kind}
use Rattle.gcd_plan.specs.declared.numbers.Run.{Run}
use Rattle.gcd_plan.specs.declared.numbers.Run.TheVariants.{Block, Source}
use Rattle.gcd_event.specs.declared.event.Event.{Event}
use Rattle.gcd_history.specs.History.{IsLawful}
use Rattle.gcd_history.specs.Intake.{accepts}
use Rattle.gcd_history.specs.Team.{held_by, of_worker}
use Rattle.gcd_jobs.specs.declared.tally.Tally.{Tally}
use Rattle.gcd_row.specs.Shapes.{Shape, body}
use Rattle.gcd_row.specs.Jobs.{jobs_of}
use Rattle.gcd_row.specs.Lying.{slots_of, slot_of, source_shape}
use Rattle.gcd_row.specs.Passes.{AtRest}
use Rattle.gcd_row.specs.declared.cell.Cell.{Cell}
use Rattle.gcd_row.specs.declared.cell.Cell.TheVariants.{Body, Handler, Away}
use Rattle.gcd_row.specs.declared.view.Limits.{Limits}
use Rattle.gcd_row.specs.declared.view.Terms.{Terms}

-- one handler for each source, by number, of its kind, which has not been called yet
pub record AreHandlersOf {H : Type 0} (kind : H → Kind) (times total : H → ℕ) (plan : PlanView) (handlers : List H) : Type 0 where
  pub kinds : map kind handlers ≡ filter is_source_kind (map (λ o. o.kind) plan.objects)
  pub fresh : All (λ h. (times h ≡ 0) × (total h ≡ 0)) handlers

module _ {J H : Type 0} where
  -- the cell of the next handler
  abbrev pub next_cell : List H → Cell J H
  next_cell [] = Away
  next_cell (h ∷ handlers) = Handler h

  -- the cells of objects: a source's handler, and for another object nothing
  abbrev pub object_cells : List ObjView → List H → List (Cell J H)
  object_cells [] handlers = []
  object_cells (o ∷ objects) handlers =
      if is_source_kind o.kind then next_cell handlers ∷ object_cells objects (drop 1 handlers) else Away ∷ object_cells objects handlers

  -- the cells of a board, in the order of their slots
  abbrev pub first_cells : PlanView → List J → List H → List (Cell J H)
  first_cells plan jobs handlers = map (λ job. Body job) jobs ++ object_cells plan.objects handlers

-- a tally for a source of this kind, and none for another object
abbrev pub tallies_for : Kind → List Tally
tallies_for kind = if is_source_kind kind then record { kind = kind; times = 0; total = 0 } ∷ [] else []

-- what lies in the slot of a run before the first event
abbrev pub first_shape : PlanView → Run → Shape
first_shape plan (Block b) = body
first_shape plan (Source s) = source_shape plan [] s.0

-- the cells are those of a new board: each block's body, and each source's handler, which has not been called yet
pub record AreFirst {S : Type 0} (shape : S → Shape) (plan : PlanView) (cells : List S) : Type 0 where
  pub width : length cells ≡ slots_of plan
  pub first : (r : Run) → IsRun plan r → (c : S) × (get_elem? cells (slot_of plan r) ≡ some c) × (shape c ≡ first_shape plan r)

-- the terms of a board of this plan, these cells and these limits, whose row begins with so many events
abbrev pub terms_with : {S : Type 0} → PlanView → List S → Limits → ℕ → Terms S
terms_with plan cells limits n = record { plan = plan; cells = cells; limits = limits; opened = n }

-- the row may begin with this history: its events are worker 0's or of the outside, worker 0 holds no run, no block of the intake was
-- accepted, and in each slot lies what lies there after them
pub record Opens {S : Type 0} (shape : S → Shape) (gives : S → ℕ → Type 0) (t : Terms S) (h : List Event) : Type 0 where
  pub lawful : IsLawful t.plan h
  pub room : length h ≤ t.limits.most
  pub others : (w : ℕ) → w ≢ 0 → of_worker w h ≡ []
  pub holds_none : held_by t.plan h 0 ≡ None
  pub accepts_none : (b : ℕ) → list_any (accepts b) h ≡ false
  pub cells : AtRest shape gives (jobs_of t (λ b. None)) h t.cells
