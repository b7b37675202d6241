-- What comes of an event that is put until no passed word holds it.
use Rattle.std.specs.Prelude.{◌≡◌, ℕ}
use Rattle.gcd_event.specs.declared.event.Event.{Event}
use Rattle.gcd_row.specs.Shapes.{Shape}
use Rattle.gcd_row.specs.Views.{knowing}
use Rattle.gcd_row.specs.Passes.{Ahead, IsPassOf, Says, SaysSlots, slots, view}
use Rattle.gcd_row.specs.declared.board.RowBoard.{RowBoard}
use Rattle.gcd_row.specs.declared.pass.RowPass.{RowPass}
use Rattle.gcd_machine.specs.declared.put.Put.{Put}
use Rattle.gcd_machine.specs.declared.put.Put.TheVariants.{Placed, Barred, Held, Full}

module _ {S : Type 0} where
  -- nothing of its own has come, and it has the slots that it had
  pub record HasWaited (p q : RowPass S) : Type 0 where
    pub is : view q ≡ knowing (view p) (view q).seen (view q).marks
    pub ahead : Ahead (view p) (view q).seen
    pub same : slots q ≡ slots p

  -- after it had waited, the last put gave this answer
  pub record WasPut (shape : S → Shape) (gives : S → ℕ → Type 0) (board : RowBoard S) (e : Event) (p q : RowPass S) (said : Put) : Type 0 where
    pub last : RowPass S
    pub of : IsPassOf shape gives board last
    pub waited : HasWaited p last
    pub says : Says e (view last) (view q) said
    pub slots_say : SaysSlots shape gives e (slots last) (slots q) (view q) said

  -- a passed word held the event at the last put, and nothing of its own has come since
  pub record WasHeld (shape : S → Shape) (gives : S → ℕ → Type 0) (board : RowBoard S) (e : Event) (p q : RowPass S) (by passed : ℕ) : Type 0 where
    pub held : RowPass S
    pub put : WasPut shape gives board e p held (Held by passed)
    pub since : HasWaited held q

  -- what the answer of the last put says: `Held` if the team was stopped then
  abbrev pub SaysThrough : (S → Shape) → (S → ℕ → Type 0) → RowBoard S → Event → RowPass S → RowPass S → Put → Type 0
  SaysThrough shape gives board e p q (Placed n) = WasPut shape gives board e p q (Placed n)
  SaysThrough shape gives board e p q (Barred at y) = WasPut shape gives board e p q (Barred at y)
  SaysThrough shape gives board e p q (Held by passed) = WasHeld shape gives board e p q by passed
  SaysThrough shape gives board e p q Full = WasPut shape gives board e p q Full
