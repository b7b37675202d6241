-- What each step tells: of the step, the seat before, the number found and the seat after.
use Rattle.std.specs.Prelude.{◌≡◌, ◌≢◌, ℕ, suc, ◌+◌, ◌%◌, ◌<◌, ◌≤◌, nat_lt, true, false, map, slice_index, is_some, if◌then◌else◌, List, [], ◌∷◌, ◌++◌, length, Option, Some, None}
use Rattle.atomic_table.specs.Table.{Me, Step, rest}
use Rattle.gcd_plan.specs.declared.numbers.Blk.{Blk}
use Rattle.gcd_plan.specs.declared.numbers.Run.{Run}
use Rattle.gcd_event.specs.declared.event.Event.{Event}
use Rattle.gcd_event.specs.Fits.{IsFitting}
use Rattle.gcd_event.specs.Words.{word_of}
use Rattle.gcd_history.specs.Choice.{worker_of}
use Rattle.gcd_history.specs.History.{why, next_of_intake}
use Rattle.gcd_history.specs.Intake.{accepted}
use Rattle.gcd_history.specs.Held.{taken, given}
use Rattle.gcd_history.specs.Team.{of_worker, StartsWith}
use Rattle.gcd_row.specs.Ring.{is_news, lap, passed_words, ring, under}
use Rattle.gcd_row.specs.Shapes.{Shape, body}
use Rattle.gcd_row.specs.Jobs.{Jobs, held_jobs}
use Rattle.gcd_row.specs.Lying.{slot_of, Lies}
use Rattle.gcd_row.specs.Views.{standing_of, saw, knowing, noting, turning, asked, looking, passing}
use Rattle.gcd_row.specs.declared.view.Handed.{Handed}
use Rattle.gcd_row.specs.declared.view.Next.{Next}
use Rattle.gcd_row.specs.declared.view.Next.TheVariants.{First, Out, Laid}
use Rattle.gcd_row.specs.declared.view.View.{View}

module _ {S : Type 0} where
  -- the next event was seen. It is another's, and was permitted after what had been seen
  pub record SeesMore (v : View S) (e : Event) (w : View S) : Type 0 where
    pub view : w ≡ saw v e
    pub may : why v.terms.plan v.seen e ≡ None
    pub other : worker_of e ≢ v.worker
    pub own : of_worker v.worker w.seen ≡ of_worker v.worker v.seen

  -- what worker 0's pass knows of numbers that were never given out: no event is theirs
  abbrev pub KnowsFresh : View S → Type 0
  KnowsFresh v = v.worker ≡ 0 → (w : ℕ) → w ≢ 0 → standing_of v.hands w ≡ None → of_worker w v.seen ≡ []

  -- the row is what the pass has seen, so it begins with what was relayed to the pass; the pass counts that it was told so
  pub record EndsHere (v w : View S) : Type 0 where
    pub view : w ≡ knowing v v.seen (looking v.marks (length v.seen))
    pub relayed : StartsWith v.seen v.relayed
    pub fresh : KnowsFresh v

  abbrev pub Found : View S → ℕ → View S → Type 0
  Found v n w = (e : Event) × IsFitting e × (n ≡ word_of e + lap (length v.seen)) × SeesMore v e w

  -- the shorter of what was seen and what was relayed begins the longer, which has no more events of the pass's worker
  pub record Compares (v : View S) : Type 0 where
    pub relayed_first : length v.relayed ≤ length v.seen → StartsWith v.seen v.relayed
    pub seen_first : length v.seen ≤ length v.relayed → StartsWith v.relayed v.seen × (of_worker v.worker v.relayed ≡ of_worker v.worker v.seen)

  -- what a pass has after its own event: the slot of the run that it took, with what lay there; none where it gave a run back
  pub record Turned (shape : S → Shape) (gives : S → ℕ → Type 0) (t : Jobs S) (h : List Event) (e : Event) (c d : List (ℕ × S)) : Type 0 where
    pub took : (r : Run) → taken e ≡ Some r → (y : S) × (d ≡ (slot_of t.plan r, y) ∷ c) × Lies shape gives t h r y
    pub gave : (r : Run) → given t.plan e ≡ Some r → d ≡ rest c
    pub same : taken e ≡ None → given t.plan e ≡ None → d ≡ c

  -- the cell that was taken last
  abbrev pub front_cell : List (ℕ × S) → Option S
  front_cell [] = None
  front_cell (x ∷ xs) = Some x.1

  -- what a pass found in the slot of the run that it took last, after its own event: where that takes a run, what lay there
  abbrev pub first_after : Event → Option S → (slots : List (ℕ × S)) → Option S
  first_after e first slots = if is_some (taken e) then front_cell slots else first

  -- where worker 0 laid something into the slot of the next block, this is what it laid there last
  abbrev pub IsLaid : Next S → S → Type 0
  IsLaid First c = Unit {0}
  IsLaid Out c = ⊥
  IsLaid (Laid last) c = c ≡ last

  -- what worker 0 has handed in after its own event: with an Accept what lies in the block's slot is placed, and with another event
  -- nothing
  abbrev pub HandsOn : (accepted : Option Blk) → (before after : Handed S) → Type 0
  HandsOn None n m = m ≡ n
  HandsOn (Some b) n m = (c : S) × (m ≡ record { placed = (b.0, c) ∷ n.placed; next = First }) × IsLaid n.next c

  -- what a pass knows and has after its own event
  pub record Wins (shape : S → Shape) (gives : S → ℕ → Type 0) (e : Event) (v : View S) (c : List (ℕ × S)) (w : View S) (d : List (ℕ × S)) : Type 0 where
    pub view : w ≡ noting (saw v e) w.first w.handed
    pub first : w.first ≡ first_after e v.first d
    pub handed : HandsOn (accepted e) v.handed w.handed
    pub turned : Turned shape gives (held_jobs w) v.seen e c d

  -- before an event that gives a run back the pass has its slot, with what may lie there after the event
  abbrev pub LaysBack : (S → Shape) → (S → ℕ → Type 0) → Event → Me S (View S) → Type 0
  LaysBack shape gives e m =
      (r : Run) → given m.0.terms.plan e ≡ Some r → (c : S) × (m.1 ≡ (slot_of m.0.terms.plan r, c) ∷ []) × Lies shape gives (held_jobs m.0) (m.0.seen ++ e ∷ []) r c

  -- a load of the cell of the next event: it is there, or the row is what the pass has seen and n is the word of the event a lap ago
  abbrev pub Looked : Step S → Me S (View S) → ℕ → Me S (View S) → Type 0
  Looked st m n k = (k.1 ≡ m.1) × (is_news (length m.0.seen) n ≡ true → Found m.0 n k.0)
      × (is_news (length m.0.seen) n ≡ false → EndsHere m.0 k.0 × (n ≡ under (map word_of m.0.seen)))

  -- an exchange of that cell from that word, which places each event that has the new word where it wins
  abbrev pub Tried : (S → Shape) → (S → ℕ → Type 0) → Step S → Me S (View S) → ℕ → Me S (View S) → Type 0
  Tried shape gives st m n k =
      (n ≡ st.first → (e : Event) → IsFitting e → st.second ≡ word_of e + lap (length m.0.seen) → Wins shape gives e m.0 m.1 k.0 k.1)
      × (n ≢ st.first → (k.1 ≡ m.1) × Found m.0 n k.0)

  -- what a load of worker k's passed word tells: the row is at most a lap longer, and where it is a lap longer the pass has seen it all
  pub record Asks (v : View S) (k x : ℕ) (w : View S) : Type 0 where
    pub view : w ≡ knowing v v.seen (asked v.terms.limits v.marks k x (nat_lt (length v.seen) (x + ring)))
    pub slow : length v.seen ≤ x + ring
    pub ends : x + ring ≤ length v.seen → StartsWith v.seen v.relayed × KnowsFresh v
    pub mine : k ≡ v.worker → x ≡ v.marks.passed

  -- a load of a passed word
  abbrev pub Asked : Step S → Me S (View S) → ℕ → Me S (View S) → Type 0
  Asked st m n k = (k.1 ≡ m.1) × ((j : ℕ) → st.word ≡ passed_words + j → Asks m.0 j n k.0)

  -- a store of one's own passed word
  abbrev pub PassedOn : Step S → Me S (View S) → ℕ → Me S (View S) → Type 0
  PassedOn st m n k = (k.1 ≡ m.1) × (k.0 ≡ knowing m.0 m.0.seen (passing m.0.marks n))

  -- a load again of the cell of an event that was seen and not passed
  abbrev pub Reread : Step S → Me S (View S) → ℕ → Me S (View S) → Type 0
  Reread st m n k = (k ≡ m) × ((i : ℕ) → m.0.marks.passed ≤ i → i < length m.0.seen → st.word ≡ suc (i % ring) → n ≡ slice_index (map word_of m.0.seen) i + lap i)

  -- any load, by a pass that has seen as many events as there can be
  abbrev pub Ended : Step S → Me S (View S) → ℕ → Me S (View S) → Type 0
  Ended st m n k = (k.1 ≡ m.1) × EndsHere m.0 k.0

  -- any load, of a pass to which another relayed what it has seen
  abbrev pub Compared : Step S → Me S (View S) → ℕ → Me S (View S) → Type 0
  Compared st m n k = (k ≡ m) × Compares m.0

  -- any load, by worker 0's pass
  abbrev pub Unused : Step S → Me S (View S) → ℕ → Me S (View S) → Type 0
  Unused st m n k = (k ≡ m) × KnowsFresh m.0

  -- any load, by a pass that puts down what it has
  abbrev pub PutDown : Step S → Me S (View S) → ℕ → Me S (View S) → Type 0
  PutDown st m n k = (k.0 ≡ m.0) × (k.1 ≡ rest m.1)

  -- any load, by worker 0's pass, which takes the slot of the next block: there lies a body, and where worker 0 laid one there the last
  abbrev pub Reached : (S → Shape) → Step S → Me S (View S) → ℕ → Me S (View S) → Type 0
  Reached shape st m n k = (b : Blk) → next_of_intake m.0.terms.plan m.0.seen ≡ Some b
      → (c : S) × (k ≡ (turning m.0 Out, (b.0, c) ∷ m.1)) × (shape c ≡ body) × IsLaid m.0.handed.next c

  -- any load, by worker 0's pass, which lays down what it has of the next block
  abbrev pub LaidThere : Step S → Me S (View S) → ℕ → Me S (View S) → Type 0
  LaidThere st m n k = (b : ℕ) (c : S) (others : List (ℕ × S)) → m.1 ≡ (b, c) ∷ others → k ≡ (turning m.0 (Laid c), others)
