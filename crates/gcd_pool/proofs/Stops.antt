-- What is said of a turn after which the worker leaves, since memory was refused to worker 0's journal.
use Rattle.gcd_row.specs.declared.view.View.{View}
use Rattle.gcd_steal.specs.declared.bench.Bench.{Bench}
use Rattle.gcd_pool.specs.Placing.{HasPlacedNone, SaysPlaced, SaysRested}
use Rattle.gcd_pool.specs.Turns.{SaysOut}
use Rattle.gcd_pool.specs.declared.turn.Turn.TheVariants.{Stopped}

module _ {S : Type 0} where
  pub stops_placed : (v w : View S) → HasPlacedNone v w → SaysPlaced Stopped v w
  unfolding SaysPlaced
  stops_placed v w none = none

  pub stops_rested : (v : View S) → SaysRested Stopped v
  unfolding SaysRested
  stops_rested v = tt

pub stops_out : (b c : Bench) → SaysOut Stopped b c
unfolding SaysOut
stops_out b c = tt
