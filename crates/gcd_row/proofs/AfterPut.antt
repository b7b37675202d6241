-- What a caller has after its event was placed, and what it shows before one that gives a run back.
use Rattle.std.proofs.Common.{◌≡◌, ℕ, Bool, false, cond, List, [], ◌∷◌, ◌++◌, Some, None, Option, sym, refl, ap, ◌∙◌, subst, eq-eqb}
use Rattle.std.proofs.lemmas.Option.{same_Some}
use Rattle.gcd_plan.specs.PlanView.{PlanView}
use Rattle.gcd_plan.specs.declared.kind.Kind.{Kind}
use Rattle.gcd_plan.specs.declared.numbers.Blk.{Blk}
use Rattle.gcd_plan.specs.declared.numbers.Run.{Run}
use Rattle.gcd_plan.specs.declared.numbers.Run.TheVariants.{Block}
use Rattle.gcd_event.specs.declared.event.Event.{Event}
use Rattle.gcd_event.specs.declared.event.Event.TheVariants.{Act as Acted, End}
use Rattle.gcd_history.specs.Choice.{worker_of}
use Rattle.gcd_history.specs.History.{IsLawful, is_ended, parks, is_block_cancelled}
use Rattle.gcd_history.specs.Held.{taken, given}
use Rattle.gcd_history.specs.Team.{held_by}
use Rattle.gcd_history.proofs.HeldRuns.Cells.{cells_stay, held_cells_wait}
use Rattle.gcd_history.proofs.HeldRuns.OwnEvents.{own_events_tell_what_is_held}
use Rattle.gcd_history.proofs.HeldRuns.Holders.{what_is_held_after}
use Rattle.gcd_row.specs.Shapes.{Shape, body, done, shape_of}
use Rattle.gcd_row.specs.Jobs.{Jobs, May, held_jobs}
use Rattle.gcd_row.specs.Lying.{slot_of, BodyLies, Lies, HasSlot, HasSlots, IsReadyBody, IsReadyFor, GivesBack}
use Rattle.gcd_row.specs.Views.{held_run, knowing, known}
use Rattle.gcd_row.specs.Plays.{front_cell, HandsOn}
use Rattle.gcd_row.specs.Passes.{IsPassOf, Ahead, IsPlaced, Says, SaysSlots, HasSameNumbers, view, slots}
use Rattle.gcd_machine.specs.declared.put.Put.{Put}
use Rattle.gcd_row.specs.declared.view.Handed.{Handed}
use Rattle.gcd_row.specs.declared.board.RowBoard.{RowBoard}
use Rattle.gcd_row.specs.declared.cell.Cell.{Cell}
use Rattle.gcd_row.specs.declared.cell.Cell.TheVariants.{Body, Done, Handler, Away}
use Rattle.gcd_row.specs.declared.pass.RowPass.{RowPass}
use Rattle.gcd_machine.specs.declared.put.Put.TheVariants.{Placed, Barred, Held, Full}
use Rattle.gcd_row.specs.declared.view.Terms.{Terms}
use Rattle.gcd_row.specs.declared.view.View.{View}
use Rattle.gcd_row.proofs.Holding.{head_of}
use Rattle.gcd_row.proofs.Passing.{lawful_seen}
use Rattle.gcd_row.proofs.Running.{taken_not_given, none_some}

-- ## Before an event

module _ {S : Type 0} (shape : S → Shape) where
  -- an event that gives no run back asks nothing
  pub nothing_back : (t : Terms S) (h : List Event) (e : Event) (c : List (ℕ × S)) → given t.plan e ≡ None → GivesBack shape t h e c
  nothing_back t h e c none r is = absurd (none_some (given t.plan e) r none is)

  -- one that does asks the cell of its run
  pub its_back : (t : Terms S) (h : List Event) (e : Event) (c : List (ℕ × S)) (r : Run) (x : S) → given t.plan e ≡ Some r → c ≡ (slot_of t.plan r, x) ∷ [] → IsReadyFor shape t.plan h e r x → GivesBack shape t h e c
  its_back t h e c r x gives here ready q is =
      subst (λ (z : Run). (y : S) × (c ≡ (slot_of t.plan z, y) ∷ []) × IsReadyFor shape t.plan h e z y) (same_Some r q (sym gives ∙ is)) (x, here, ready)

-- the value at an End
pub ready_at_end : {S : Type 0} (shape : S → Shape) (plan : PlanView) (h : List Event) (w : ℕ) (b : Blk) (x : S) (v : ℕ) → shape x ≡ done v → IsReadyFor shape plan h (End w b) (Block b) x
ready_at_end shape plan h w b x v is = subst (λ (n : Bool). IsReadyBody shape n x) (sym (eq-eqb b.0 b.0 refl)) (v, is)

-- ## After it

-- what an answer says leaves the numbers as they were
pub same_numbers : {S : Type 0} (e : Event) (v w : View S) (r : Put) → Says e v w r → HasSameNumbers v w
same_numbers {S} e v w (Placed n) says = record { worker = ap (λ (x : View S). x.worker) says.is; hands = ap (λ (x : View S). x.hands) says.is; passed = ap (λ (x : View S). x.marks.passed) says.is }
same_numbers {S} e v w (Barred at y) says = record { worker = ap (λ (x : View S). x.worker) says.0.sees.is; hands = ap (λ (x : View S). x.hands) says.0.sees.is; passed = ap (λ (x : View S). x.marks.passed) says.0.sees.is }
same_numbers {S} e v w (Held by passed) says = record { worker = ap (λ (x : View S). x.worker) says.0.sees.is; hands = ap (λ (x : View S). x.hands) says.0.sees.is; passed = ap (λ (x : View S). x.marks.passed) says.0.sees.is }
same_numbers {S} e v w Full says = record { worker = ap (λ (x : View S). x.worker) says.0; hands = ap (λ (x : View S). x.hands) says.0; passed = ap (λ (x : View S). x.marks.passed) says.0 }

-- and with every other answer worker 0 has handed in what it had
pub handed_by : {S : Type 0} (o : Option Blk) (n m : Handed S) → o ≡ None → HandsOn o n m → m ≡ n
handed_by None n m is same = same
handed_by (Some b) n m is on = absurd (cc)

head_same : {S : Type 0} (k n : ℕ) (x y : S) (c : List (ℕ × S)) → ◌≡◌ {A = List (ℕ × S)} ((k, x) ∷ []) ((n, y) ∷ c) → x ≡ y
head_same {S} k n x y c same = ap (λ (l : List (ℕ × S)). (head_of k x l).1) same

module _ {S : Type 0} (shape : S → Shape) (gives : S → ℕ → Type 0) (b : RowBoard S) where
  -- the pass has the run that its event took, with the cell that lay at home
  pub record Took (p q : RowPass S) (e : Event) (r : Run) : Type 0 where
    pub held : held_run (view q) ≡ Some r
    pub before : List Event
    pub seen : (view q).seen ≡ before ++ e ∷ []
    pub cell : S
    pub here : slots q ≡ (slot_of (view q).terms.plan r, cell) ∷ []
    pub lay : Lies shape gives (held_jobs (view q)) before r cell
    pub noted : (view q).first ≡ Some cell

  pub took : (p q : RowPass S) (e : Event) (r : Run) (n : ℕ) → IsPassOf shape gives b q → worker_of e ≡ (view p).worker → taken e ≡ Some r → IsPlaced e (view p) (view q) n → SaysSlots shape gives e (slots p) (slots q) (view q) (Placed n) → Took p q e r
  took p q e r n of mine is placed says =
      let turned = says.2 in
      let t = (view q).terms in
      let worker : (view q).worker ≡ worker_of e = ap (λ (x : View S). x.worker) placed.is ∙ sym mine in
      let held : held_run (view q) ≡ Some r = ap (λ (h : List Event). held_by t.plan h (view q).worker) says.1 ∙ ap (held_by t.plan (says.0 ++ e ∷ [])) worker ∙ (what_is_held_after t.plan says.0 e).took r is in
      let jobs : Jobs S = held_jobs (view q) in
      let has : HasSlot shape gives jobs (view q).seen r (slots q) = subst (λ (o : Option Run). HasSlots shape gives jobs (view q).seen o (slots q)) held of.has in
      let y = turned.took r is in
      let same : y.0 ≡ has.cell = sym (head_same (slot_of t.plan r) (slot_of t.plan r) has.cell y.0 (slots p) (sym has.here ∙ y.1)) in
      record { held = held; before = says.0; seen = says.1; cell = has.cell; here = has.here; lay = subst (Lies shape gives jobs says.0 r) same y.2; noted = says.3 r is ∙ ap front_cell has.here }

  -- a Start and a Wake find the block's body
  pub found_body : (p q : RowPass S) (e : Event) (blk : Blk) → IsPassOf shape gives b q → taken e ≡ Some (Block blk) → (k : Took p q e (Block blk)) → shape k.cell ≡ body
  found_body p q e blk of is k =
      let t = (view q).terms in
      let lawful : IsLawful t.plan (k.before ++ e ∷ []) = subst (IsLawful t.plan) k.seen (lawful_seen shape gives b q of) in
      let held : held_by t.plan (k.before ++ e ∷ []) (view q).worker ≡ Some (Block blk) = sym (ap (λ (h : List Event). held_by t.plan h (view q).worker) k.seen) ∙ k.held in
      let now : is_ended (k.before ++ e ∷ []) blk.0 ≡ false = (held_cells_wait t.plan (k.before ++ e ∷ []) lawful).bodies (view q).worker blk held in
      let kept : is_ended (k.before ++ e ∷ []) blk.0 ≡ is_ended k.before blk.0 = (cells_stay t.plan k.before e).bodies blk (λ gave. none_some (given t.plan e) (Block blk) (taken_not_given t.plan e (Block blk) is) gave) in
      (subst (λ (x : Bool). BodyLies shape gives (May gives (held_jobs (view q)) blk.0) x (is_block_cancelled t.plan k.before blk.0) k.cell) (sym kept ∙ now) k.lay).0

  -- where its event neither takes a run nor gives one back, the pass has what it had
  pub record Kept (p q : RowPass S) : Type 0 where
    pub held : held_run (view q) ≡ held_run (view p)
    pub same : slots q ≡ slots p

  pub kept_ahead : (p q : RowPass S) → view q ≡ knowing (view p) (view q).seen (known (view p) (view q)) → Ahead (view p) (view q).seen → slots q ≡ slots p → Kept p q
  kept_ahead p q is ahead same = record {
    held = (λ i. held_by (is i).terms.plan (view q).seen (is i).worker) ∙ own_events_tell_what_is_held (view p).terms.plan (view q).seen (view p).seen (view p).worker ahead.own;
    same = same;
  }

  pub kept_placed : (p q : RowPass S) (e : Event) (n : ℕ) → taken e ≡ None → given (view p).terms.plan e ≡ None → IsPlaced e (view p) (view q) n → SaysSlots shape gives e (slots p) (slots q) (view q) (Placed n) → Kept p q
  kept_placed p q e n none nothing placed says =
      let v = view p in
      let plan : (view q).terms.plan ≡ v.terms.plan = ap (λ (x : View S). x.terms.plan) placed.is in
      record {
        held = (λ i. held_run (placed.is i)) ∙ (what_is_held_after v.terms.plan placed.history e).same none nothing v.worker
            ∙ own_events_tell_what_is_held v.terms.plan placed.history v.seen v.worker placed.ahead.own;
        same = says.2.same none (ap (λ (x : PlanView). given x e) plan ∙ nothing);
      }

  pub kept : (p q : RowPass S) (e : Event) (r : Put) → taken e ≡ None → given (view p).terms.plan e ≡ None → Says e (view p) (view q) r → SaysSlots shape gives e (slots p) (slots q) (view q) r → Kept p q
  kept p q e (Placed n) none nothing says says_slots = kept_placed p q e n none nothing says says_slots
  kept p q e (Barred at y) none nothing says says_slots = kept_ahead p q says.0.sees.is says.0.sees.ahead says_slots
  kept p q e (Held by passed) none nothing says says_slots = kept_ahead p q says.0.sees.is says.0.sees.ahead says_slots
  kept p q e Full none nothing says says_slots = kept_ahead p q says.0 says.1 says_slots

-- an act that does not park gives no run back
pub unparked : (plan : PlanView) (w i : ℕ) (r : Run) → parks plan (Acted w r i) ≡ false → given plan (Acted w r i) ≡ None
unfolding parks
unparked plan w i r no_park = ap (λ (b : Bool). cond b (Some r) None) no_park

-- a cell with a body's shape is a body
pub body_of_cell : {J H : Type 0} (kind : H → Kind) (times total : H → ℕ) (c : Cell J H) → shape_of kind times total c ≡ body → (j : J) × (c ≡ Body j)
body_of_cell kind times total (Body j) is = (j, refl)
body_of_cell kind times total (Done v) is = absurd (cc)
body_of_cell kind times total (Handler h) is = absurd (cc)
body_of_cell kind times total Away is = absurd (cc)
