-- The rule of the sleeping places, and what each step on them tells.
use Rattle.std.specs.Prelude.{◌≡◌, ◌≢◌, ℕ, ◌+◌, ◌<◌, ◌≤◌, ◌==◌, ◌++◌, Bool, true, false, if◌then◌else◌, List, [], ◌∷◌, length, map, slice_index}
use mathlib.Core.Option.{Option, some}
use lib.ListN.{get_elem?}
use Rattle.atomic_table.specs.Table.{State, Me, Step}
use Rattle.atomic_table.specs.Seated.{TableId}
use Rattle.atomic_table.specs.declared.shared.Seat.{Seat}
use Rattle.gcd_steal.specs.declared.places.Change.{Change}
use Rattle.gcd_steal.specs.declared.places.Sight.{Sight}
use Rattle.gcd_steal.specs.Tokens.{Token, IsTokenOf}

-- a history of the places: each write to the word of a node, and whether its Drain sleeps from then on, the newest first
abbrev pub History : Type 0
History = List Change

abbrev pub change : ℕ → Bool → Change
change node asleep = record { node = node; asleep = asleep }

-- whether the Drain of the node sleeps after the history; at the start each does
abbrev pub sleeps_after : History → ℕ → Bool
sleeps_after [] node = true
sleeps_after (c ∷ history) node = if c.node == node then c.asleep else sleeps_after history node

-- the history goes on from an earlier one
abbrev pub Since : History → History → Type 0
Since history earlier = (more : History) × (history ≡ more ++ earlier)

abbrev pub sight : Token → History → ℕ → Sight
sight tokens seen did = record { tokens = tokens; seen = seen; did = did }

-- a new seat has seen what the one that it was split off has, and made no write
abbrev pub newcomer : Sight → Sight
newcomer v = sight v.tokens v.seen 0

-- the writes in their order, the newest first, each with the number of the seat that made it
abbrev pub Log : Type 0
Log = List (ℕ × Change)

abbrev pub changes_of : Log → History
changes_of log = map (λ e. e.1) log

-- how many of the writes this seat made
abbrev pub made_by : ℕ → Log → ℕ
made_by seat [] = 0
made_by seat (e ∷ log) = (if e.0 == seat then 1 else 0) + made_by seat log

-- the word of a place: 1 where its Drain sleeps
abbrev pub flag : Bool → ℕ
flag asleep = if asleep then 1 else 0

-- the slot of the node is at home, with the token of the node in it
abbrev pub HasToken : Token → List (Option Token) → ℕ → Type 0
HasToken tokens homes node = (t : Token) × (get_elem? homes node ≡ some (some t)) × IsTokenOf tokens.table_id node t

-- the seat has seen how the log began, and made none of the writes since
abbrev pub SawBegin : Log → ℕ → History → Type 0
SawBegin log seat seen =
    (later : Log) × (earlier : Log) × (log ≡ later ++ earlier) × (changes_of earlier ≡ seen) × (made_by seat later ≡ 0)

-- what a seat knows is true: the history up to its own newest write, and how many writes it made
pub record Knows (key : Token) (log : Log) (seat : ℕ) (v : Sight) : Type 0 where
  pub tokens : v.tokens ≡ key
  pub seen : SawBegin log seat v.seen
  pub did : v.did ≡ made_by seat log

-- The rule of the places: the words say which Drains sleep, the token of each of those lies in its slot, and what seats know
-- is true. So what seats know leaves one history: the seat of the newest write has seen all of it.
pub record Rests (key : Token) (s : State Token Sight) : Type 0 where
  pub log : Log
  pub size : length s.words ≡ length s.homes + 8
  pub words : (node : ℕ) → node < length s.homes
      → slice_index s.words (node + 8) ≡ flag (sleeps_after (changes_of log) node)
  pub tokens : (node : ℕ) → node < length s.homes
      → sleeps_after (changes_of log) node ≡ true → HasToken key s.homes node
  pub knows : (seat : ℕ) (v : Sight) → get_elem? s.views seat ≡ some v → Knows key log seat v
  pub seated : (seat : ℕ) → length s.views ≤ seat → made_by seat log ≡ 0

-- the seat wrote that the node's place is empty from now on: that is the newest write of the history, which began with all
-- that the seat had seen, and after which the node's Drain slept
abbrev pub Takes : ℕ → Sight → Sight → Type 0
Takes node v w =
    (history : History) × (w ≡ sight v.tokens (change node false ∷ history) (v.did + 1))
    × Since history v.seen × (sleeps_after history node ≡ true)

-- the same where the node's Drain did not sleep
abbrev pub Misses : ℕ → Sight → Sight → Type 0
Misses node v w =
    (history : History) × (w ≡ sight v.tokens (change node false ∷ history) (v.did + 1))
    × Since history v.seen × (sleeps_after history node ≡ false)

-- the seat wrote that the node's Drain sleeps from now on: that is the newest write of the history, which began with all
-- that it had seen
abbrev pub Gives : ℕ → Sight → Sight → Type 0
Gives node v w =
    (history : History) × (w ≡ sight v.tokens (change node true ∷ history) (v.did + 1)) × Since history v.seen

abbrev pub Mine : Type 0
Mine = Me Token Sight

-- a seat of this table of places, which has 8 spare words and then a word for each slot
pub record IsSeatOf (table : TableId) (seat : Seat Token Sight) : Type 0 where
  pub table_is : seat.table_id ≡ table
  pub size : table.words ≡ table.slots + 8

-- the slot of the node alone is out with the seat, and the token of the node lies in it
abbrev pub HoldsSlot : Token → ℕ → List (ℕ × Token) → Type 0
HoldsSlot tokens node slots =
    (t : Token) × (slots ≡ (node, t) ∷ []) × IsTokenOf tokens.table_id node t

-- what a swap of a node's word tells: where it found 1 the seat has the node's slot, with the token of the node
abbrev pub WakingTells : Step Token → Mine → ℕ → Mine → Type 0
WakingTells st m found n =
    (node : ℕ) → st.word ≡ node + 8
    → (found ≡ 1 → Takes node m.0 n.0 × HoldsSlot m.0.tokens node n.1)
    × (found ≢ 1 → Misses node m.0 n.0 × (n.1 ≡ []))

-- what a store to a node's word tells
abbrev pub LayingTells : Step Token → Mine → ℕ → Mine → Type 0
LayingTells st m stored n = (node : ℕ) → st.word ≡ node + 8 → Gives node m.0 n.0 × (n.1 ≡ [])
