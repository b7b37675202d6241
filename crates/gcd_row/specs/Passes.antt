-- What the calls of a board ask of a pass, and what they do to it.
use Rattle.std.specs.Prelude.{◌≡◌, ◌≢◌, ◌<◌, ◌≤◌, ◌+◌, ℕ, Option, false, List, [], ◌∷◌, ◌++◌, map, length, take, Some, None, IfSome, true}
use Rattle.std.specs.List.{list_any}
use mathlib.Core.Option.{some}
use lib.ListN.{get_elem?}
use Rattle.gcd_plan.specs.PlanView.{IsRun}
use Rattle.gcd_plan.specs.Made.{is_of_intake}
use Rattle.gcd_plan.specs.declared.numbers.Run.{Run}
use Rattle.gcd_event.specs.declared.event.Event.{Event}
use Rattle.gcd_event.specs.Words.{word_of}
use Rattle.gcd_history.specs.Choice.{worker_of}
use Rattle.gcd_history.specs.History.{why}
use Rattle.gcd_history.specs.Intake.{accepts, accepted}
use Rattle.gcd_refinement.specs.MachineView.{MachineView}
use Rattle.gcd_machine.specs.Stands.{StandsFor}
use Rattle.gcd_history.specs.Held.{taken}
use Rattle.gcd_history.specs.Team.{of_worker, StartsWith}
use Rattle.gcd_history.specs.TeamFacts.{IsNobodys}
use Rattle.gcd_row.specs.Ring.{ring, under}
use Rattle.gcd_row.specs.Shapes.{Shape}
use Rattle.gcd_row.specs.Jobs.{Jobs, held_jobs}
use Rattle.gcd_row.specs.Lying.{slots_of, slot_of, Lies, HasSlots}
use Rattle.gcd_row.specs.Views.{IsBack, given_terms, held_run, knowing, known, noting, seeing, hearing, merging}
use Rattle.gcd_row.specs.Plays.{KnowsFresh, HandsOn, Turned, front_cell}
use Rattle.gcd_row.specs.declared.view.PassMarks.{PassMarks}
use Rattle.gcd_row.specs.declared.view.Terms.{Terms}
use Rattle.gcd_row.specs.declared.view.View.{View}
use Rattle.gcd_row.specs.declared.pass.RowPass.{RowPass}
use Rattle.gcd_row.specs.declared.board.RowBoard.{RowBoard}
use Rattle.gcd_machine.specs.declared.put.Put.{Put}
use Rattle.gcd_machine.specs.declared.put.Put.TheVariants.{Placed, Barred, Held, Full}

-- a pass that may read cells: it is not spent, its number is below 64, and its passed word is not gone
pub record MayRead {S : Type 0} (v : View S) : Type 0 where
  pub unspent : v.spent ≡ false
  pub number : v.worker < 64
  pub passed : v.marks.passed ≤ length v.seen

-- a pass that has loaded no fewer words since
pub record IsLater (m n : PassMarks) : Type 0 where
  pub loads : m.loads ≤ n.loads
  pub looks : m.looks ≤ n.looks

module _ {S : Type 0} where
  -- what a pass knows
  abbrev pub view : RowPass S → View S
  view p = p.seat.me.0

  -- its machine, and the number of its worker
  abbrev pub machine_of : RowPass S → MachineView
  machine_of p = p.machine

  abbrev pub worker_number : RowPass S → ℕ
  worker_number p = p.number

  -- the slots that it has, each with its cell
  abbrev pub slots : RowPass S → List (ℕ × S)
  slots p = p.seat.me.1

  -- the plan and the cells that a board was made of
  abbrev pub terms_of : RowBoard S → Terms S
  terms_of b = given_terms b.table.shared.key

  -- a pass of the board, which is not spent: it has the slot of the run that its worker holds and no other, and its machine
  -- stands for what it has seen
  pub record IsPassOf (shape : S → Shape) (gives : S → ℕ → Type 0) (b : RowBoard S) (p : RowPass S) : Type 0 where
    pub table : p.seat.table_id ≡ b.table.shared.table_id
    pub terms : (view p).terms ≡ terms_of b
    pub may_read : MayRead (view p)
    pub number : worker_number p ≡ (view p).worker
    pub passed : p.passed ≡ (view p).marks.passed
    pub floor : p.floor ≡ (view p).marks.floor
    pub upto : p.upto ≡ (view p).marks.upto
    pub beneath : IfSome p.beneath (λ x. x ≡ under (map word_of (view p).seen))
    pub few : length (view p).seen ≤ (view p).terms.limits.most
    pub began : (view p).terms.opened ≤ length (view p).seen
    pub has : HasSlots shape gives (held_jobs (view p)) (view p).seen (held_run (view p)) (slots p)
    pub back : IsBack (view p).handed.next
    pub stands : StandsFor (machine_of p) (view p).terms.plan (view p).seen

  -- it has seen no less, and nothing more of its own
  pub record Ahead (v : View S) (h : List Event) : Type 0 where
    pub more : StartsWith h v.seen
    pub own : of_worker v.worker h ≡ of_worker v.worker v.seen

  -- it has seen the next event, which is another's and was permitted
  pub record Learnt (v w : View S) : Type 0 where
    pub event : Event
    pub is : w ≡ seeing v (v.seen ++ event ∷ [])
    pub ahead : Ahead v w.seen
    pub may : why v.terms.plan v.seen event ≡ None
    pub other : worker_of event ≢ v.worker

  -- it has seen the row as it was at some moment: no less than it had seen or than was relayed to it before, nothing more of its own, and
  -- nothing of a number that was never given out
  pub record Sees (v w : View S) : Type 0 where
    pub is : w ≡ knowing v w.seen (known v w)
    pub ahead : Ahead v w.seen
    pub relayed : StartsWith w.seen v.relayed
    pub fresh : KnowsFresh w

  -- it has seen the row as it was at a load in the call, which told that the row was what the pass has seen now
  pub record Looks (v w : View S) : Type 0 where
    pub sees : Sees v w
    pub told : v.marks.looks < w.marks.looks
    pub here : w.marks.looked ≡ length w.seen

  -- its event stands behind the history h, which is longer only by others' events
  pub record IsPlaced (e : Event) (v w : View S) (n : ℕ) : Type 0 where
    pub history : List Event
    pub ahead : Ahead v history
    pub place : n ≡ length history
    pub room : n < v.terms.limits.most
    pub may : why v.terms.plan history e ≡ None
    pub is : w ≡ noting (knowing v (history ++ e ∷ []) (known v w)) w.first w.handed
    pub first : taken e ≡ None → w.first ≡ v.first
    pub handed : HandsOn (accepted e) v.handed w.handed
    pub own : of_worker v.worker w.seen ≡ of_worker v.worker v.seen ++ e ∷ []

  -- it knows something else of the passed words and of its loads, and nothing more
  pub record Knew (v w : View S) : Type 0 where
    pub is : w ≡ knowing v v.seen (known v w)
    pub later : IsLater v.marks w.marks

  -- the passed word that it loaded last is that of worker `by`, and it has loaded one since v: it is `passed`, a lap ago, and those of
  -- lower numbers let the next event be written
  pub record IsHolder (v w : View S) (by passed : ℕ) : Type 0 where
    pub worker : by < v.terms.limits.workers
    pub lap_ago : passed + ring ≡ length w.seen
    pub loaded : v.marks.loads < w.marks.loads
    pub held : w.marks.held ≡ Some (by, passed)
    pub below : w.marks.upto ≡ by
    pub lowest : by ≢ 0 → length w.seen < w.marks.floor + ring
    pub mine : by ≡ v.worker → passed ≡ v.marks.passed

  -- a passed word does not let the next event be written, and the row was what the pass has seen when it was loaded
  pub record IsHeldAt (v w : View S) (by passed : ℕ) : Type 0 where
    pub knew : Knew v w
    pub relayed : StartsWith v.seen v.relayed
    pub fresh : KnowsFresh v
    pub holder : IsHolder v w by passed

  -- the same, as `put` answers it
  pub record IsHeld (v w : View S) (by passed : ℕ) : Type 0 where
    pub sees : Sees v w
    pub room : length w.seen < v.terms.limits.most
    pub holder : IsHolder v w by passed

  -- what the answer of `put` says
  abbrev pub Says : Event → View S → View S → Put → Type 0
  Says e v w (Placed n) = IsPlaced e v w n
  Says e v w (Barred at y) = Looks v w × (at ≡ length w.seen) × (at < v.terms.limits.most) × (why v.terms.plan w.seen e ≡ Some y)
  Says e v w (Held by passed) = IsHeld v w by passed × (why v.terms.plan w.seen e ≡ None)
  Says e v w Full = (w ≡ knowing v w.seen (known v w)) × Ahead v w.seen × (length w.seen ≡ v.terms.limits.most)

  -- the slots that a pass has after `put`: with the event the run's slot comes or goes, and with no other answer. Where it comes the
  -- pass notes what lay there
  abbrev pub SaysSlots : (S → Shape) → (S → ℕ → Type 0) → Event → List (ℕ × S) → List (ℕ × S) → View S → Put → Type 0
  SaysSlots shape gives e c d w (Placed n) = (h : List Event) × (w.seen ≡ h ++ e ∷ []) × Turned shape gives (held_jobs w) h e c d × ((r : Run) → taken e ≡ Some r → w.first ≡ front_cell d)
  SaysSlots shape gives e c d w (Barred at y) = d ≡ c
  SaysSlots shape gives e c d w (Held by passed) = d ≡ c
  SaysSlots shape gives e c d w Full = d ≡ c

  -- worker 0's pass has taken in another: it has seen the longer of the two histories, which the shorter begins, and no event
  -- more of either worker
  pub record Merges (v u w : View S) : Type 0 where
    pub is : w ≡ merging (hearing v u) u
    pub mine : Ahead v w.seen
    pub theirs : Ahead u w.seen

  -- at the end, the cells of the runs that nobody holds are as they lie after the history, and each accepted block of the intake has
  -- a job
  pub record AtRest (shape : S → Shape) (gives : S → ℕ → Type 0) (t : Jobs S) (h : List Event) (cells : List S) : Type 0 where
    pub width : length cells ≡ slots_of t.plan
    pub lie : (r : Run) (c : S) → IsRun t.plan r → IsNobodys t.plan h r → get_elem? cells (slot_of t.plan r) ≡ some c → Lies shape gives t h r c
    pub job : (b : ℕ) → is_of_intake t.plan b ≡ true → list_any (accepts b) h ≡ true → (c : S) × (t.job b ≡ Some c)

  -- it has the same number and passed word, and the same numbers are out
  pub record HasSameNumbers (v w : View S) : Type 0 where
    pub worker : w.worker ≡ v.worker
    pub hands : w.hands ≡ v.hands
    pub passed : w.marks.passed ≡ v.marks.passed

  -- the journal is what worker 0's pass has seen up to its passed word
  abbrev pub IsGathered : View S → List Event → Type 0
  IsGathered v journal = journal ≡ take v.marks.passed v.seen

  -- it has seen one event more, which is another's; what it knows of the passed words may have changed
  pub record LearntOn (v w : View S) : Type 0 where
    pub event : Event
    pub is : w ≡ knowing v (v.seen ++ event ∷ []) (known v w)
    pub later : IsLater v.marks w.marks
    pub ahead : Ahead v w.seen
    pub may : why v.terms.plan v.seen event ≡ None
    pub other : worker_of event ≢ v.worker

  -- one turn of `put`: an answer, or one event more was seen
  abbrev pub Turns : Event → View S → View S → Option Put → Type 0
  Turns e v w None = LearntOn v w
  Turns e v w (Some r) = Says e v w r

  -- the slots after a turn
  abbrev pub TurnsSlots : (S → Shape) → (S → ℕ → Type 0) → Event → List (ℕ × S) → List (ℕ × S) → View S → Option Put → Type 0
  TurnsSlots shape gives e c d w None = d ≡ c
  TurnsSlots shape gives e c d w (Some r) = SaysSlots shape gives e c d w r
