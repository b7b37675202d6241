-- The rule of the notes, by which a mouth that is shut hands its account to the intake (this project's own rule). Sender s has the
-- word s + 1 and the slot s. The word is 0 before its mouth is made, 1 while that is open, 2 while its note lies in the slot, and 3
-- after the intake took it.
use Rattle.std.specs.Prelude.{◌≡◌, ◌≢◌, ℕ, ◌+◌, ◌<◌, ◌≤◌, ◌⊎◌, Bool, true, false, List, [], ◌∷◌, ◌++◌, length, Option, Some, None, slice_index}
use mathlib.Core.Option.{some}
use mathlib.Core.Option as maybe
use lib.ListN.{get_elem?}
use Rattle.atomic_table.specs.Table.{State, Me, Step}
use Rattle.atomic_table.specs.Seated.{TableId}
use Rattle.crossbeam_queue.specs.Passes.{Pass, view}
use Rattle.gcd_front.specs.declared.ledger.Parcel.{Parcel}
use Rattle.gcd_front.specs.declared.ledger.Ledger.{Ledger}
use Rattle.gcd_front.specs.declared.notes.Sight.{Sight}
use Rattle.gcd_front.specs.Queue.{told, account_of}

abbrev pub Note : Type 0 → Type 0
Note S = Pass (Parcel S) (Ledger S)

-- a seat of the notes, and what it has
abbrev pub Mine : Type 0 → Type 0
Mine S = Me (Option (Note S)) (Sight S)

module _ {S : Type 0} where
  abbrev pub sight : Note S → Bool → (next heard : ℕ) → List ℕ → Option ℕ → Sight S
  sight queue listens next heard opens sender =
      record { queue = queue; listens = listens; next = next; heard = heard; opens = opens; sender = sender }

  -- what the intake's seat knows: of which queue the notes are, how many senders were made, of how many it took the note, the
  -- senders whose mouths it found open, in the order of its looks, and whose slot it has, while it makes one
  abbrev pub listening : Note S → (next heard : ℕ) → List ℕ → Option ℕ → Sight S
  listening queue next heard opens sender = sight queue true next heard opens sender

  -- what the seat of an open mouth knows
  abbrev pub open_mouth : Note S → ℕ → Sight S
  open_mouth queue sender = sight queue false 0 0 [] (Some sender)

  -- a sender was made, and its slot is handed over: what its mouth knows, and what the intake knows
  abbrev pub handed_over : Sight S → Sight S
  handed_over v = sight v.queue false 0 0 [] v.sender

  abbrev pub relieved : Sight S → Sight S
  relieved v = sight v.queue v.listens v.next v.heard v.opens None

  -- the note of the next sender was taken
  abbrev pub hearing_next : Sight S → Sight S
  hearing_next v = sight v.queue v.listens v.next (v.heard + 1) v.opens v.sender

  -- the mouth of sender s was found open
  abbrev pub finding_open : ℕ → Sight S → Sight S
  finding_open s v = sight v.queue v.listens v.next v.heard (v.opens ++ s ∷ []) v.sender

  -- the note of sender s: a pass of the queue with that table, which was told of the sender's account and nothing else
  pub record IsNote (queue : TableId) (s : ℕ) (note : Note S) : Type 0 where
    pub table : note.table_id ≡ queue
    pub idle : note.me.1 ≡ []
    pub sent : List S
    pub told_of : view note ≡ told (account_of (Some s) sent)

  -- the note of sender s lies in its slot
  abbrev pub HasNote : TableId → List (maybe.Option (Option (Note S))) → ℕ → Type 0
  HasNote queue homes s = (note : Note S) × (get_elem? homes s ≡ some (some (Some note))) × IsNote queue s note

  -- some seat is that of the open mouth of sender s
  abbrev pub HasMouth : List (Sight S) → ℕ → Type 0
  HasMouth views s = (seat : ℕ) × (v : Sight S) × (get_elem? views seat ≡ some v) × (v.sender ≡ Some s)

  -- what a seat knows is true
  pub record KnowsNotes (queue : TableId) (listener next heard seat : ℕ) (v : Sight S) : Type 0 where
    pub queue_is : v.queue.table_id ≡ queue
    pub listens : v.listens ≡ true → (seat ≡ listener) × (v.next ≡ next) × (v.heard ≡ heard)
    pub sender : (s : ℕ) → v.sender ≡ Some s → s < next

  -- the rule
  pub record AtNotes (queue : TableId) (st : State (Option (Note S)) (Sight S)) : Type 0 where
    pub listener : ℕ
    pub next : ℕ
    pub heard : ℕ
    pub size : length st.words ≡ length st.homes + 1
    pub unmade : (s : ℕ) → next ≤ s → s < length st.homes
        → (slice_index st.words (s + 1) ≡ 0) × (get_elem? st.homes s ≡ some (some None))
    pub unheard : (s : ℕ) → heard ≤ s → s < next
        → (slice_index st.words (s + 1) ≡ 1) ⊎ (slice_index st.words (s + 1) ≡ 2)
    pub notes : (s : ℕ) → slice_index st.words (s + 1) ≡ 2 → HasNote queue st.homes s
    pub mouths : (s : ℕ) → slice_index st.words (s + 1) ≡ 1 → HasMouth st.views s
    pub knows : (seat : ℕ) (v : Sight S) → get_elem? st.views seat ≡ some v → KnowsNotes queue listener next heard seat v

  -- what making a sender tells: the seat has its slot, which is empty
  abbrev pub MakingTells : Step (Option (Note S)) → Mine S → ℕ → Mine S → Type 0
  MakingTells st m found n =
      (s : ℕ) → st.word ≡ s + 1
      → (n.0 ≡ sight m.0.queue m.0.listens (s + 1) m.0.heard m.0.opens (Some s)) × (n.1 ≡ (s, None) ∷ m.1)

  -- what laying a note down tells: the slot is given back, and the seat is no longer that of an open mouth
  abbrev pub LayingTells : Step (Option (Note S)) → Mine S → ℕ → Mine S → Type 0
  LayingTells st m found n = (n.0 ≡ relieved m.0) × (n.1 ≡ [])

  -- what looking for the next note tells: where the word was 2 the seat has the slot with the note; else it was 1, and the
  -- seat has noted that
  abbrev pub LookingTells : Step (Option (Note S)) → Mine S → ℕ → Mine S → Type 0
  LookingTells st m found n =
      (s : ℕ) → st.word ≡ s + 1
      → (found ≡ 2 → (n.0 ≡ hearing_next m.0)
      × ((note : Note S) × (n.1 ≡ (s, Some note) ∷ m.1) × IsNote m.0.queue.table_id s note))
      × (found ≢ 2 → (found ≡ 1) × (n.0 ≡ finding_open s m.0) × (n.1 ≡ m.1))
