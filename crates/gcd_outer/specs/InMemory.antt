-- What the constructors and setters of the things in memory determine.
use Rattle.std.specs.Prelude.{◌≡◌, ◌<◌, ◌+◌, ℕ, Bool, List, length, map, min}
use Rattle.gcd_outer.specs.Feeds.{watched_in, ended_in, watched_at_in}
use Rattle.gcd_outer.specs.Outside.{ClockState, ShelfState, SinkState}
use Rattle.gcd_outer.specs.Pages.{content_of}
use Rattle.gcd_outer.specs.Tells.{PollerState}
use Rattle.gcd_outer.specs.Texts.{bytes_of}
use Rattle.gcd_outer.specs.declared.jump_clock.JumpClock.{JumpClock}
use Rattle.gcd_outer.specs.declared.list_poller.ListPoller.{ListPoller}
use Rattle.gcd_outer.specs.declared.map_shelf.MapShelf.{MapShelf}
use Rattle.gcd_outer.specs.declared.tell.Tell.{Tell}
use Rattle.gcd_outer.specs.declared.vec_sink.VecSink.{VecSink}

-- what a shelf holds under each name, the number of loads, and how often it has failed
abbrev pub shelf_state : MapShelf → ShelfState
shelf_state shelf = record { content = content_of shelf.pages; loads = shelf.loads.made; faults = shelf.faults }

-- the loads, counted from 0, that are to fail
abbrev pub failing_loads : MapShelf → List ℕ
failing_loads shelf = shelf.loads.failing

-- what a sink took, and how often it has failed
abbrev pub sink_state : VecSink → SinkState
sink_state sink = record { taken = sink.bytes.items; faults = sink.faults }

-- the writes, counted from 0, that are to fail
abbrev pub failing_writes : VecSink → List ℕ
failing_writes sink = sink.writes.failing

-- how many writes to a sink there were
abbrev pub writes_of : VecSink → ℕ
writes_of sink = sink.writes.made

-- how many bytes a sink has room for
abbrev pub room_of : VecSink → ℕ
room_of sink = sink.room

-- how many bytes a sink takes at a write, at most
abbrev pub most_of : VecSink → ℕ
most_of sink = sink.most

-- a write of so many bytes would pass the room of a sink
abbrev pub IsPastRoom : VecSink → ℕ → Type 0
IsPastRoom sink bytes = room_of sink < length (sink_state sink).taken + min bytes (most_of sink)

-- by how many milliseconds an answer moves a clock on
abbrev pub step_of : JumpClock → ℕ
step_of clock = clock.step

-- the present of a clock, and the greatest moment that was waited for
abbrev pub clock_state : JumpClock → ClockState
clock_state clock = record { present = clock.present; waited = clock.waited }

-- the answers that a poller has still to give
abbrev pub left_of : ListPoller → List (List Tell)
left_of poller = poller.answers.left

-- how many watches a poller has room for
abbrev pub watch_room_of : ListPoller → ℕ
watch_room_of poller = poller.paths.text_room

-- how many bytes of addresses and paths a poller has room for
abbrev pub byte_room_of : ListPoller → ℕ
byte_room_of poller = poller.paths.byte_room

-- the listens, counted from 0, that are to fail
abbrev pub failing_listens : ListPoller → List ℕ
failing_listens poller = poller.listens.failing

-- the watches, counted from 0, that are to fail
abbrev pub failing_watches : ListPoller → List ℕ
failing_watches poller = poller.watches.failing

-- the polls, counted from 0, that are to fail
abbrev pub failing_polls : ListPoller → List ℕ
failing_polls poller = poller.polls.failing

-- the answers that a poller has given
abbrev pub answers_of : ListPoller → List (List Tell)
answers_of poller = poller.answers.given

-- how many answers there were at the watch of a feed
abbrev pub watched_at_of : ListPoller → ℕ → ℕ
watched_at_of poller = watched_at_in poller.feeds.items

-- the feed and the path of each watch that succeeded
abbrev pub watches_of : ListPoller → List (ℕ × List ℕ)
watches_of poller = poller.paths.texts

-- how many listens there were
abbrev pub listens_of : ListPoller → ℕ
listens_of poller = poller.listens.made

-- the address of each listen that succeeded
abbrev pub addresses_of : ListPoller → List (List ℕ)
addresses_of poller = map (λ address. address.1) poller.addresses.texts

-- whether a feed is watched
abbrev pub watched_of : ListPoller → ℕ → Bool
watched_of poller = watched_in poller.feeds.items

-- whether a feed has ended
abbrev pub ended_of : ListPoller → ℕ → Bool
ended_of poller = ended_in poller.feeds.items

-- how often a poller has failed
abbrev pub faults_of : ListPoller → ℕ
faults_of poller = poller.faults

-- what a poller in memory has told, what it watches, and how often it has failed
abbrev pub state_of : ListPoller → PollerState
state_of poller = record {
  answers = answers_of poller;
  watched_at = watched_at_of poller;
  watches = watches_of poller;
  listens = listens_of poller;
  addresses = addresses_of poller;
  watched = watched_of poller;
  ended = ended_of poller;
  faults = faults_of poller;
}

-- how many polls of a poller there were, and how many watches, those that failed among them
abbrev pub polls_of : ListPoller → ℕ
polls_of poller = poller.polls.made

abbrev pub watch_calls_of : ListPoller → ℕ
watch_calls_of poller = poller.watches.made

-- how many bytes of a poller's room its addresses and paths take
abbrev pub used_of : ListPoller → ℕ
used_of poller = bytes_of poller.paths.texts + bytes_of poller.addresses.texts

-- a poller before and after a call: what is to fail, and the room, are the same
pub record IsSamePlan (old new : ListPoller) : Type 0 where
  pub listens : failing_listens new ≡ failing_listens old
  pub watches : failing_watches new ≡ failing_watches old
  pub polls : failing_polls new ≡ failing_polls old
  pub watch_room : watch_room_of new ≡ watch_room_of old
  pub byte_room : byte_room_of new ≡ byte_room_of old

-- a poller before and after a change of what is to fail alone
pub record IsSamePoller (old new : ListPoller) : Type 0 where
  pub answers : new.answers ≡ old.answers
  pub feeds : new.feeds.items ≡ old.feeds.items
  pub paths : new.paths ≡ old.paths
  pub addresses : new.addresses ≡ old.addresses
  pub listens : new.listens.made ≡ old.listens.made
  pub watches : new.watches.made ≡ old.watches.made
  pub polls : new.polls.made ≡ old.polls.made
  pub faults : new.faults ≡ old.faults
