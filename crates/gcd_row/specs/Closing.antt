-- What the closing of a board tells of its row.
use Rattle.std.specs.Prelude.{◌≡◌, ℕ, List}
use mathlib.Core.Option.{some}
use lib.ListN.{get_elem?}
use Rattle.atomic_table.specs.Table.{State}
use Rattle.gcd_event.specs.declared.event.Event.{Event}
use Rattle.gcd_row.specs.Shapes.{Shape}
use Rattle.gcd_row.specs.Rule.{Holds}
use Rattle.gcd_row.specs.Passes.{view}
use Rattle.gcd_row.specs.declared.board.RowBoard.{RowBoard}
use Rattle.gcd_row.specs.declared.pass.RowPass.{RowPass}
use Rattle.gcd_row.specs.declared.view.View.{View}

module _ {S : Type 0} where
  -- in each state that the rule of the row allows and in which the pass knows what it knows, the row is this history
  unfoldable pub IsWholeRow : (S → Shape) → (S → ℕ → Type 0) → RowBoard S → RowPass S → List Event → Type 0
  IsWholeRow shape gives b p h = (s : State S (View S)) (k : Holds shape gives b.table.shared.key s) → get_elem? s.views p.seat.id ≡ some (view p) → k.history ≡ h
