-- What a turn of a worker comes to.
use Rattle.std.specs.Prelude.{◌≡◌, ◌⊎◌, ℕ, List}
use Rattle.gcd_history.specs.Ends.{HasEnded}
use Rattle.gcd_row.specs.Shapes.{Shape}
use Rattle.gcd_row.specs.declared.view.View.{View}
use Rattle.gcd_steal.specs.Places.{Misses, Since}
use Rattle.gcd_steal.specs.Racks.{sight_of}
use Rattle.gcd_steal.specs.declared.bench.Bench.{Bench}
use Rattle.gcd_steal.specs.declared.drain.Drain.{Drain}
use Rattle.gcd_steal.specs.declared.places.Sight.{Sight}
use Rattle.gcd_pool.specs.Found.{HasFound, HasFoundNone, IsLaidDown}
use Rattle.gcd_pool.specs.Hands.{IsFresh}
use Rattle.gcd_pool.specs.declared.turn.Turn.{Turn}
use Rattle.gcd_pool.specs.declared.turn.Turn.TheVariants.{Left, Placed, Ended, Out, Waited, Rested, Stopped}

-- a worker that leaves has seen that the run has ended; of one that was stopped nothing is said; else the run that it holds is as it
-- was taken
abbrev pub AfterTurn : {S : Type 0} → (S → Shape) → Turn → View S → List (ℕ × S) → Type 0
AfterTurn shape Left v cells = HasEnded v.terms.limits.most v.terms.plan v.seen
AfterTurn shape Placed v cells = IsFresh shape v cells
AfterTurn shape Ended v cells = IsFresh shape v cells
AfterTurn shape (Out node) v cells = IsFresh shape v cells
AfterTurn shape Waited v cells = IsFresh shape v cells
AfterTurn shape Rested v cells = IsFresh shape v cells
AfterTurn shape Stopped v cells = Unit {0}

-- a call that answers that a node's Drain is out has written to that node's place, after all that the bench had seen, and the
-- Drain did not sleep there then
unfoldable pub SaysOut : Turn → Bench → Bench → Type 0
SaysOut Left b c = Unit {0}
SaysOut Placed b c = Unit {0}
SaysOut Ended b c = Unit {0}
SaysOut (Out node) b c = (v : Sight) × Since v.seen (sight_of b).seen × Misses node.0 v (sight_of c)
SaysOut Waited b c = Unit {0}
SaysOut Rested b c = Unit {0}
SaysOut Stopped b c = Unit {0}

-- one Drain was found, and that one was laid down
pub record HasLaidDown (b c : Bench) : Type 0 where
  pub found : Bench
  pub drain : Drain
  pub took : HasFound b drain found
  pub laid : IsLaidDown found drain c

-- none was found, nor pushed: the answer tells that the node's Drain is out
abbrev pub FoundNone : Bench → Bench → Turn → Type 0
FoundNone b c Left = ⊥
FoundNone b c Placed = ⊥
FoundNone b c Ended = ⊥
FoundNone b c (Out node) = (tries : ℕ) × HasFoundNone tries b c
FoundNone b c Waited = ⊥
FoundNone b c Rested = ⊥
FoundNone b c Stopped = ⊥

-- a call that looks for a Drain leaves none in hand
abbrev pub LaysFoundDown : Bench → Bench → Turn → Type 0
LaysFoundDown b c turn = HasLaidDown b c ⊎ FoundNone b c turn

-- nor does one that may do something else, for which it does not use its bench
abbrev pub LaysDown : Bench → Bench → Turn → Type 0
LaysDown b c turn = (c ≡ b) ⊎ LaysFoundDown b c turn
