-- The slot of a source's run, as the machine gives it.
use Rattle.std.proofs.Common.{◌≡◌, ℕ, [], ◌∷◌, sym, ap, ◌∙◌}
use Rattle.gcd_plan.specs.PlanView.{PlanView}
use Rattle.gcd_plan.specs.declared.numbers.Run.{Run}
use Rattle.gcd_machine.proofs.Views.Calls.{plan_stands}
use Rattle.gcd_row.specs.Shapes.{Shape}
use Rattle.gcd_row.specs.Lying.{slot_of}
use Rattle.gcd_row.specs.Passes.{IsPassOf, view, slots}
use Rattle.gcd_row.specs.declared.board.RowBoard.{RowBoard}
use Rattle.gcd_row.specs.declared.pass.RowPass.{RowPass}

pub slot_here : {S : Type 0} (shape : S → Shape) (gives : S → ℕ → Type 0) (b : RowBoard S) (p : RowPass S) (r : Run) (k : ℕ) (c : S) → IsPassOf shape gives b p → k ≡ slot_of p.machine.plan r → slots p ≡ (slot_of (view p).terms.plan r, c) ∷ [] → slots p ≡ (k, c) ∷ []
slot_here shape gives b p r k c is at here = here ∙ ap (λ (n : ℕ). (n, c) ∷ []) (sym (at ∙ ap (λ (q : PlanView). slot_of q r) (plan_stands p.machine (view p).terms.plan (view p).seen is.stands)))
