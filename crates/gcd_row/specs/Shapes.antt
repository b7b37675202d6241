-- What lies in a slot, and what a cell of jobs and handlers is of that.
use Rattle.std.specs.Prelude.{◌≡◌, ℕ}
use Rattle.gcd_plan.specs.declared.kind.Kind.{Kind}
use Rattle.gcd_row.specs.Jobs.{Jobs, May}
use Rattle.gcd_row.specs.declared.cell.Cell.{Cell}
use Rattle.gcd_row.specs.declared.cell.Cell.TheVariants.{Body, Done, Handler, Away}

-- a block's body; the value that it gave; a source's handler, with its kind, how often it was called and its total; or nothing
pub data Shape : Type 0 where
  body : Shape
  done : ℕ → Shape
  handler : Kind → ℕ → ℕ → Shape
  away : Shape

abbrev pub shape_of : {J H : Type 0} → (H → Kind) → (H → ℕ) → (H → ℕ) → Cell J H → Shape
shape_of kind times total (Body job) = body
shape_of kind times total (Done value) = done value
shape_of kind times total (Handler h) = handler (kind h) (times h) (total h)
shape_of kind times total Away = away

-- the values that the cell may come to: those that its job may give at 0, or the one that it gave
abbrev pub gives_of : {J H : Type 0} → (J → ℕ → ℕ → Type 0) → Cell J H → ℕ → Type 0
gives_of gives (Body job) v = gives job 0 v
gives_of gives (Done value) v = value ≡ v
gives_of gives (Handler h) v = ⊥
gives_of gives Away v = ⊥

-- the job of block b may give the value at 0
abbrev pub MayGive : {J H : Type 0} → (J → ℕ → ℕ → Type 0) → Jobs (Cell J H) → (b v : ℕ) → Type 0
MayGive gives t b v = May (gives_of gives) t b v
