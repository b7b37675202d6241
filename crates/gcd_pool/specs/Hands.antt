-- What a worker of a pool has, and what serving comes to.
use Rattle.std.specs.Prelude.{◌≡◌, ◌≤◌, ℕ, List, ◌∷◌, [], length, Some}
use Rattle.gcd_plan.specs.PlanView.{PlanView}
use Rattle.gcd_plan.specs.declared.kind.Kind.{Kind}
use Rattle.gcd_plan.specs.declared.numbers.Run.{Run}
use Rattle.gcd_plan.specs.declared.numbers.Run.TheVariants.{Block, Source}
use Rattle.gcd_event.specs.declared.event.Event.{Event}
use Rattle.gcd_event.specs.Owners.{ended}
use Rattle.gcd_history.specs.Ends.{HasEnded}
use Rattle.gcd_history.specs.Team.{StartsWith, held_by}
use Rattle.gcd_row.specs.Shapes.{Shape, body, handler}
use Rattle.gcd_row.specs.Lying.{slot_of, IsUntaken, IsReadyFor}
use Rattle.gcd_row.specs.Views.{held_run, knowing, noting}
use Rattle.gcd_row.specs.Passes.{IsGathered, IsPassOf, slots, terms_of, view}
use Rattle.gcd_row.specs.declared.view.View.{View}
use Rattle.gcd_steal.specs.Racks.{IsBenchOf, number_of, plan_of}
use Rattle.gcd_pool.specs.declared.hand.Hand.{Hand}
use Rattle.gcd_pool.specs.declared.hand.Pool.{Pool}

-- a handler of source s that was not called since the last Deliver
pub record IsUncalled (plan : PlanView) (h : List Event) (s : ℕ) (x : Shape) : Type 0 where
  pub kind : Kind
  pub times : ℕ
  pub total : ℕ
  pub is : x ≡ handler kind times total
  pub untaken : IsUntaken plan h s times total

module _ {S : Type 0} (shape : S → Shape) where
  -- the cell of a run is as it was taken: a block's body that did not run, or a source's handler that was not called yet
  abbrev pub IsFreshCell : PlanView → List Event → Run → S → Type 0
  IsFreshCell plan h (Block b) c = shape c ≡ body
  IsFreshCell plan h (Source s) c = IsUncalled plan h s.0 (shape c)

  -- so is the cell of the run that worker w holds, if it holds one
  abbrev pub IsFreshAt : PlanView → List Event → (w : ℕ) → List (ℕ × S) → Type 0
  IsFreshAt plan h w cells = (r : Run) (c : S) → held_by plan h w ≡ Some r → cells ≡ (slot_of plan r, c) ∷ [] → IsFreshCell plan h r c

  -- the same of a pass
  abbrev pub IsFresh : View S → List (ℕ × S) → Type 0
  IsFresh v cells = IsFreshAt v.terms.plan v.seen v.worker cells

  -- the cell of the run that a pass holds is ready for the event, which ends that run
  pub record IsSettled (v : View S) (e : Event) (cells : List (ℕ × S)) : Type 0 where
    pub run : Run
    pub held : held_run v ≡ Some run
    pub ends : ended e ≡ Some run
    pub cell : S
    pub here : cells ≡ (slot_of v.terms.plan run, cell) ∷ []
    pub ready : IsReadyFor shape v.terms.plan v.seen e run cell

-- what the workers of a pool share is of one plan, with a cell for each block
pub record IsPool {S : Type 0} (pool : Pool S) : Type 0 where
  pub rack : plan_of pool.rack.now ≡ (terms_of pool.board.now).plan
  pub plan : pool.plan.now ≡ (terms_of pool.board.now).plan
  pub cells : length (terms_of pool.board.now).plan.blocks ≤ length (terms_of pool.board.now).cells

-- two pools of the same board, rack and plan
pub record IsSamePool {S : Type 0} (p q : Pool S) : Type 0 where
  pub board : q.board.now ≡ p.board.now
  pub rack : q.rack.now ≡ p.rack.now
  pub plan : q.plan.now ≡ p.plan.now

-- what calls leave of what a pass knows: it has seen no less, may know other passed words, its own among them, and may have noted what it
-- found in a slot and what it has handed in; the rest is as it was
pub record GoesOn {S : Type 0} (v w : View S) : Type 0 where
  pub is : w ≡ noting (knowing v w.seen w.marks) w.first w.handed
  pub more : StartsWith w.seen v.seen

-- the journal of worker 0 is what its pass has seen up to its passed word
abbrev pub IsGatheredBy : {S : Type 0} → View S → List Event → Type 0
IsGatheredBy v journal = v.worker ≡ 0 → IsGathered v journal

module _ {S : Type 0} (shape : S → Shape) (gives : S → ℕ → Type 0) where
  -- a hand of the pool: a pass of its board and a bench of its rack, which are of one plan, with a cell for each block; worker 0's has
  -- for its journal what its pass has seen up to its passed word
  pub record IsHandOf (pool : Pool S) (hand : Hand S) : Type 0 where
    pub pass : IsPassOf shape gives pool.board.now hand.pass
    pub bench : IsBenchOf pool.rack.now hand.bench
    pub rack : plan_of pool.rack.now ≡ (view hand.pass).terms.plan
    pub plan : pool.plan.now ≡ (view hand.pass).terms.plan
    pub cells : length (view hand.pass).terms.plan.blocks ≤ length (view hand.pass).terms.cells
    pub gathered : IsGatheredBy (view hand.pass) hand.journal.items

  -- a hand between two turns
  pub record IsReady (pool : Pool S) (hand : Hand S) : Type 0 where
    pub of : IsHandOf pool hand
    pub fresh : IsFresh shape (view hand.pass) (slots hand.pass)

  -- what a turn leaves of a hand
  pub record Serving (pool : Pool S) (old new : Hand S) : Type 0 where
    pub of : IsHandOf pool new
    pub view : GoesOn (view old.pass) (view new.pass)
    pub number : number_of new.bench ≡ number_of old.bench

  -- what serving to the end comes to: it is a hand of the pool still, of the same worker and with the same bench, has seen no
  -- less, and has seen that the run has ended
  pub record Served (pool : Pool S) (old new : Hand S) : Type 0 where
    pub serving : Serving pool old new
    pub ended : HasEnded (Rattle.gcd_row.specs.Passes.view new.pass).terms.limits.most (Rattle.gcd_row.specs.Passes.view new.pass).terms.plan (Rattle.gcd_row.specs.Passes.view new.pass).seen
