-- What a run met outside: poller and clock.
use Rattle.gcd_outer.specs.Outside.{ClockState, Seen, seen}
use Rattle.gcd_outer.specs.Tells.{PollerState}
use Rattle.gcd_outer.specs.declared.clock.Clock.{Ghosts as ClockGhosts}
use Rattle.gcd_outer.specs.declared.poller.Poller.{Ghosts as PollerGhosts}

-- what a run saw of poller and clock
pub record Met : Type 0 where
  pub poller : Seen PollerState
  pub clock : Seen ClockState

-- what a run saw of them, from the ghost members of each, and its values before and after the run
abbrev pub met : {P C : Type 0} → PollerGhosts P → (poller later_poller : P) → ClockGhosts C → (clock later_clock : C) → Met
met of_poller poller later_poller of_clock clock later_clock = record {
  poller = seen of_poller.tells of_poller.state poller later_poller;
  clock = seen of_clock.tells of_clock.state clock later_clock;
}
