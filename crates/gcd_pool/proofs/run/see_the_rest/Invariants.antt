use Rattle.std.specs.Prelude.{◌≡◌, ◌<◌, ◌≤◌, ℕ, slice_index_or}
use Rattle.gcd_pool.specs.Hands.{Served}
use Rattle.gcd_pool.specs.declared.hand.Hand.{Hand}
use Rattle.gcd_pool.proofs.run.see_the_rest.Given as goal

abbrev pub invariant-loop-k : goal.invariant-loop-k
invariant-loop-k g l =
    ((j : ℕ) (d : Hand g.row.S.Denot) → l.k ≤ j → slice_index_or l.hands j d ≡ slice_index_or l.initial.hands j d)
    × ((j : ℕ) (d : Hand g.row.S.Denot) → 1 ≤ j → j < l.k → Served g.S.Slot.shape g.S.Slot.gives l.pool (slice_index_or l.initial.hands j d) (slice_index_or l.hands j d))
    × ((d : Hand g.row.S.Denot) → slice_index_or l.hands 0 d ≡ slice_index_or l.initial.hands 0 d)
