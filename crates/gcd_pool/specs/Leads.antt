-- What worker 0 of a pool promises of its poller and its clock.
use Rattle.std.proofs.Common.{◌≡◌, ◌≤◌, ℕ, Bool, true, List, length, sym, subst}
use Rattle.gcd_event.specs.declared.event.Event.{Event}
use Rattle.gcd_plan.specs.PlanView.{PlanView}
use Rattle.gcd_history.specs.Ends.{HasEnded}
use Rattle.gcd_loop.specs.Followed.{FollowsFrom}
use Rattle.gcd_loop.specs.Going.{GoesOn}
use Rattle.gcd_loop.specs.Recorded.{Bounds, IsSight}
use Rattle.gcd_machine.specs.Stands.{StandsFor}
use Rattle.gcd_machine.proofs.Views.Calls.{plan_stands}
use Rattle.gcd_outer.specs.Outside.{ClockState}
use Rattle.gcd_outer.specs.Tells.{PollerState}
use Rattle.gcd_row.specs.Passes.{terms_of, view, machine_of}
use Rattle.gcd_row.specs.Shapes.{Shape}
use Rattle.gcd_row.specs.declared.view.Terms.{Terms}
use Rattle.gcd_row.specs.declared.view.View.{View}
use Rattle.gcd_turn.specs.Asked.{KeepsListens}
use Rattle.gcd_turn.specs.Outsides.{IsSame, faced}
use Rattle.gcd_turn.specs.declared.outside.Outside.{Outside}
use Rattle.gcd_pool.specs.Hands.{IsHandOf, IsReady, Serving}
use Rattle.gcd_pool.specs.Works.{IsAddedBy}
use Rattle.gcd_pool.specs.declared.hand.Hand.{Hand}
use Rattle.gcd_pool.specs.declared.hand.Pool.{Pool}

-- the plan of a pool, and how many events its row may have
abbrev pub bounds_of : {S : Type 0} → Pool S → Bounds
bounds_of pool = record { plan = pool.plan.now; most = (terms_of pool.board.now).limits.most }

-- worker 0's hand between two turns
pub record IsHead {S : Type 0} (shape : S → Shape) (gives : S → ℕ → Type 0) (pool : Pool S) (hand : Hand S) : Type 0 where
  pub ready : IsReady shape gives pool hand
  pub head : (view hand.pass).worker ≡ 0

-- so its machine stands for what it has seen
pub head_sight : {S : Type 0} (shape : S → Shape) (gives : S → ℕ → Type 0) (pool : Pool S) (hand : Hand S) → IsHead shape gives pool hand
    → IsSight (bounds_of pool).most (bounds_of pool).plan (view hand.pass).seen (machine_of hand.pass)
head_sight {S} shape gives pool hand is =
    let of = is.ready.of in let plan = pool.plan.now in
    let stands : StandsFor (machine_of hand.pass) plan (view hand.pass).seen = subst (λ (q : PlanView). StandsFor (machine_of hand.pass) q (view hand.pass).seen) (sym of.plan) of.pass.stands in
    record {
      own = plan_stands (machine_of hand.pass) plan (view hand.pass).seen stands;
      stands = stands;
      few = subst (λ (t : Terms S). length (view hand.pass).seen ≤ t.limits.most) of.pass.terms of.pass.few;
    }

-- and it is a hand of the pool
pub head_left : {S : Type 0} (shape : S → Shape) (gives : S → ℕ → Type 0) (pool : Pool S) (hand : Hand S) → IsHead shape gives pool hand → IsHandOf shape gives pool hand
head_left shape gives pool hand is = is.ready.of

-- where each event of k from place `length h` on is worker 0's, each of a worker from there on is what worker 0 chooses at its place
abbrev pub Follows : PlanView → (h k : List Event) → Type 0
Follows plan h k = IsAddedBy 0 h k → FollowsFrom (length h) plan k

-- what no step of worker 0 changes; alone it follows its choice
pub record Leads {S : Type 0} (shape : S → Shape) (gives : S → ℕ → Type 0) (pool : Pool S) (old new : Hand S) : Type 0 where
  pub serving : Serving shape gives pool old new
  pub follows : pool.alone ≡ true → Follows pool.plan.now (view old.pass).seen (view new.pass).seen

-- the plan of a view, and how many events it may have
abbrev pub bounds_in : {S : Type 0} → View S → Bounds
bounds_in v = record { plan = v.terms.plan; most = v.terms.limits.most }

-- Worker 0 has led. Where it is done, the run has ended, what poller and clock said since any beginning stands in it as before, and all that
-- it has seen is in its journal. Done or not, alone it follows its choice, and it has the outside that it had.
pub record Led {S P C : Type 0} (poller_tells clock_tells : Bool) (poller : P → PollerState) (clock : C → ClockState) (alone done : Type 0) (old new : Hand S × Outside P C) : Type 0 where
  pub going : done → (view old.0.pass).worker ≡ 0
      → GoesOn (bounds_in (view old.0.pass)) (view old.0.pass).seen (view new.0.pass).seen (faced poller_tells clock_tells poller clock old.1 new.1)
  pub ended : done → HasEnded (view new.0.pass).terms.limits.most (view new.0.pass).terms.plan (view new.0.pass).seen
  pub whole : done → (view old.0.pass).worker ≡ 0 → new.0.journal.items ≡ (view new.0.pass).seen
  pub follows : alone → (view old.0.pass).worker ≡ 0 → Follows (view old.0.pass).terms.plan (view old.0.pass).seen (view new.0.pass).seen
  pub kept : (view old.0.pass).worker ≡ 0 → KeepsListens poller_tells (poller old.1.poller.now) (poller new.1.poller.now)
  pub same : IsSame old.1 new.1
