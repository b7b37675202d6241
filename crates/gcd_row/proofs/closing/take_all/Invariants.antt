use Rattle.std.proofs.Common.{◌≡◌, ℕ, ◌<◌, false, get_or, take}
use Rattle.std.specs.Prelude.{vec_capacity}
use Rattle.std.specs.Mem.Slots.{slots_items, slots_filled, slots_len}
use Rattle.std.specs.Mem.Slots.Ownership.{Filled}
use Rattle.gcd_row.proofs.closing.take_all.Given as goal

abbrev pub invariant-loop-k : goal.invariant-loop-k
invariant-loop-k g l = record {
  full : Filled (slots_filled l.closed.slots) l.k (slots_len l.closed.slots);
  none : (j : ℕ) → j < l.k → get_or (slots_filled l.closed.slots) j false ≡ false;
  same : (slots_items l.closed.slots ≡ slots_items l.fn.closed.slots) × (slots_len l.closed.slots ≡ slots_len l.fn.closed.slots);
  taken : l.cells.items ≡ take l.k (slots_items l.fn.closed.slots);
  room : vec_capacity l.cells ≡ vec_capacity l.initial.cells;
}
