-- What a call saw of the outside, and how many calls it made on it.
use Rattle.std.specs.Prelude.{◌≡◌, ◌++◌, ℕ, zero, suc, true, List, [], Option, length, option_to_list}
use Rattle.gcd_outer.specs.Outside.{Bytes, ClockState, Rises, Seen, ShelfState, next_count, seen}
use Rattle.gcd_outer.specs.Tells.{PollerState}
use Rattle.gcd_outer.specs.declared.clock.Clock.{Ghosts as ClockGhosts}
use Rattle.gcd_outer.specs.declared.poller.Poller.{Ghosts as PollerGhosts}
use Rattle.gcd_outer.specs.declared.shelf.Shelf.{Ghosts as ShelfGhosts}

-- what all inputs were seen to be
pub record InputsSeen : Type 0 where
  pub shelf : Seen ShelfState
  pub poller : Seen PollerState
  pub clock : Seen ClockState

-- what calls saw of shelf, poller and clock, from the ghost members of each, and its values before and after the calls
abbrev pub inputs : {S P C : Type 0} → ShelfGhosts S → (shelf later_shelf : S) → PollerGhosts P → (poller later_poller : P)
    → ClockGhosts C → (clock later_clock : C) → InputsSeen
inputs of_shelf shelf later_shelf of_poller poller later_poller of_clock clock later_clock = record {
  shelf = seen of_shelf.tells of_shelf.state shelf later_shelf;
  poller = seen of_poller.tells of_poller.state poller later_poller;
  clock = seen of_clock.tells of_clock.state clock later_clock;
}

-- the poller failed in the call
abbrev pub PollerFailed : Seen PollerState → Type 0
PollerFailed poller = Rises poller.before.faults poller.after.faults

-- a count that has gone up n times; it stops at its last number
abbrev pub count_after : ℕ → ℕ → ℕ
count_after zero count = count
count_after (suc n) count = next_count (count_after n count)

-- so many loads were made in the call, if the shelf tells
abbrev pub MadeLoads : Seen ShelfState → ℕ → Type 0
MadeLoads shelf n = shelf.tells ≡ true → shelf.after.loads ≡ count_after n shelf.before.loads

-- calls on the outside: loads, listens, and the address of each listen that succeeded
pub record Calls : Type 0 where
  pub loads : ℕ
  pub listens : ℕ
  pub addresses : List Bytes

-- so many loads and no listen
abbrev pub only_loads : ℕ → Calls
only_loads n = record { loads = n; listens = 0; addresses = [] }

-- so many loads, and a listen that failed
abbrev pub failed_listen : ℕ → Calls
failed_listen n = record { loads = n; listens = 1; addresses = [] }

-- so many loads, and a listen at the address that is asked for, if one is
abbrev pub with_listen : ℕ → Option Bytes → Calls
with_listen n address = record { loads = n; listens = length (option_to_list address); addresses = option_to_list address }

-- so many listens were made, and these addresses are those that succeeded, if the poller tells
pub record Listening (poller : Seen PollerState) (n : ℕ) (addresses : List Bytes) : Type 0 where
  pub listens : poller.tells ≡ true → poller.after.listens ≡ count_after n poller.before.listens
  pub added : poller.tells ≡ true → poller.after.addresses ≡ poller.before.addresses ++ addresses

-- these calls were made, where shelf and poller tell
pub record Made (seen : InputsSeen) (calls : Calls) : Type 0 where
  pub loads : MadeLoads seen.shelf calls.loads
  pub listens : Listening seen.poller calls.listens calls.addresses

-- calls were made of which this holds
pub record SomeCalls (seen : InputsSeen) (holds : Calls → Type 0) : Type 0 where
  pub calls : Calls
  pub made : Made seen calls
  pub is : holds calls
