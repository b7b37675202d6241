-- The feeds of the poller over the system, by number.
use Rattle.std.specs.Prelude.{◌≡◌, ◌≤◌, ℕ, Bool, true, false, List, [], Option, Some, None, length}
use Rattle.std.specs.List.{slice_get}
use Rattle.std.specs.Option.{option_map_or}
use Rattle.gcd_outer.specs.declared.limits.TheConstants.{MAX_TELLS, MAX_TELL_BYTES}
use Rattle.gcd_system.specs.declared.slot.Source.{Source}
use Rattle.gcd_system.specs.declared.slot.Source.TheVariants.{Absent, Waiting, Stream, Regular}
use Rattle.gcd_system.specs.declared.slot.Slot.{Slot}
use Rattle.gcd_outer.specs.declared.tell.Tell.{Tell}
use Rattle.gcd_outer.specs.Tells.{AreTells, PollerState, ended_by}

-- whether something stands there
abbrev pub is_there : Source → Bool
is_there Absent = false
is_there (Waiting place) = true
is_there (Stream stream) = true
is_there (Regular file) = true

-- whether the feed of this number is watched
abbrev pub watched_slot : List Slot → ℕ → Bool
watched_slot slots feed = option_map_or (λ s. is_there s.source) (slice_get slots feed) false

-- whether the feed of this number has ended
abbrev pub ended_slot : List Slot → ℕ → Bool
ended_slot slots feed = option_map_or (λ s. s.ended) (slice_get slots feed) false

-- what a read of one slot told: nothing, or of a watched feed that had not ended
abbrev pub SlotTells : ℕ → Slot → Slot → Option Tell → Type 0
SlotTells feed old new None = new.ended ≡ old.ended
SlotTells feed old new (Some t) =
    (t.feed ≡ feed) × (is_there old.source ≡ true) × (old.ended ≡ false) × (t.bytes ≤ MAX_TELL_BYTES) × (new.ended ≡ t.ended)

-- what a reading of the feeds told: watched feeds that had not ended, and those that have ended since
pub record ReadTells (old new : List Slot) (told : List Tell) : Type 0 where
  pub few : length told ≤ MAX_TELLS
  pub tells : AreTells (watched_slot old) (ended_slot old) told
  pub watched : (feed : ℕ) → watched_slot new feed ≡ watched_slot old feed
  pub ended : (feed : ℕ) → ended_slot new feed ≡ ended_by (ended_slot old) told feed

-- the state of a poller that tells nothing
abbrev pub silent_state : List Slot → (faults : ℕ) → PollerState
silent_state slots faults = record {
  answers = [];
  watched_at = λ _. 0;
  watches = [];
  listens = 0;
  addresses = [];
  watched = watched_slot slots;
  ended = ended_slot slots;
  faults = faults;
}
