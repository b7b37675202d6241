-- What a hand is after its pass or its bench has gone on.
use Rattle.std.proofs.Common.{◌≡◌, ℕ, ◌≤◌, List, length, None, sym, refl, ap, ◌∙◌, subst}
use Rattle.gcd_plan.specs.PlanView.{PlanView}
use Rattle.gcd_event.specs.declared.event.Event.{Event}
use Rattle.gcd_history.specs.Ends.{HasEnded}
use Rattle.gcd_machine.specs.Stands.{StandsFor}
use Rattle.gcd_row.specs.Shapes.{Shape}
use Rattle.gcd_row.specs.Passes.{IsPassOf, Sees, slots, terms_of, view, machine_of}
use Rattle.gcd_row.specs.Views.{held_run, knowing}
use Rattle.gcd_row.specs.declared.pass.RowPass.{RowPass}
use Rattle.gcd_row.specs.declared.view.Terms.{Terms}
use Rattle.gcd_row.specs.declared.view.View.{View}
use Rattle.gcd_steal.specs.Racks.{IsBenchOf, number_of, plan_of}
use Rattle.gcd_row.specs.declared.board.RowBoard.{RowBoard}
use Rattle.gcd_steal.specs.declared.bench.Bench.{Bench}
use Rattle.gcd_steal.specs.declared.bench.Rack.{Rack}
use Rattle.gcd_row.proofs.Gathered.{gathered_on}
use Rattle.gcd_row.proofs.Running.{none_some}
use Rattle.gcd_pool.specs.Duties.{HasExit}
use Rattle.gcd_pool.specs.declared.duty.Exit.{Exit}
use Rattle.gcd_pool.specs.Hands.{GoesOn, IsFresh, IsFreshAt, IsGatheredBy, IsHandOf, IsPool, IsReady, IsSamePool, Served, Serving}
use Rattle.gcd_pool.specs.declared.hand.Hand.{Hand}
use Rattle.gcd_pool.specs.declared.hand.Pool.{Pool}
use Rattle.gcd_pool.proofs.Puts.{goes_further, goes_nowhere, sees_fresh, sees_goes_on}

module _ {S : Type 0} (shape : S → Shape) (gives : S → ℕ → Type 0) (pool : Pool S) where
  -- the passed word is the same, so the journal is what it has seen up to there still
  pub gathered_still : (a : Hand S) (q : RowPass S) → IsHandOf shape gives pool a → GoesOn (view a.pass) (view q) → (view q).marks.passed ≡ (view a.pass).marks.passed → IsGatheredBy (view q) a.journal.items
  gathered_still a q of go same = λ head.
      gathered_on (view a.pass) (view q) a.journal.items (of.gathered (sym (ap (λ (x : View S). x.worker) go.is) ∙ head)) of.pass.may_read.passed go.more same

  -- a hand with the same bench whose pass has gone on, and whose journal may have grown
  pub hand_after : (a b : Hand S) → IsHandOf shape gives pool a → b.bench ≡ a.bench → IsPassOf shape gives pool.board.now b.pass → GoesOn (view a.pass) (view b.pass) → IsGatheredBy (view b.pass) b.journal.items → IsHandOf shape gives pool b
  hand_after a b of bench is go gathered =
      let terms : (view b.pass).terms ≡ (view a.pass).terms = ap (λ (x : View S). x.terms) go.is in
      record {
        pass = is;
        bench = subst (λ (c : Bench). IsBenchOf pool.rack.now c) (sym bench) of.bench;
        rack = subst (λ (t : Terms S). plan_of pool.rack.now ≡ t.plan) (sym terms) of.rack;
        plan = subst (λ (t : Terms S). pool.plan.now ≡ t.plan) (sym terms) of.plan;
        cells = subst (λ (t : Terms S). length t.plan.blocks ≤ length t.cells) (sym terms) of.cells;
        gathered = gathered;
      }

  pub serves_after : (a b : Hand S) → IsHandOf shape gives pool a → b.bench ≡ a.bench → IsPassOf shape gives pool.board.now b.pass → GoesOn (view a.pass) (view b.pass) → IsGatheredBy (view b.pass) b.journal.items → Serving shape gives pool a b
  serves_after a b of bench is go gathered = record { of = hand_after a b of bench is go gathered; view = go; number = ap (λ (c : Bench). number_of c) bench }

  -- one whose pass alone has gone on, with its passed word as it was
  pub pass_of_hand : (a : Hand S) (q : RowPass S) → IsHandOf shape gives pool a → IsPassOf shape gives pool.board.now q → GoesOn (view a.pass) (view q) → (view q).marks.passed ≡ (view a.pass).marks.passed
      → IsHandOf shape gives pool (record { pass = q; bench = a.bench; journal = a.journal })
  pass_of_hand a q of is go same = hand_after a (record { pass = q; bench = a.bench; journal = a.journal }) of refl is go (gathered_still a q of go same)

  pub serves_pass : (a : Hand S) (q : RowPass S) → IsHandOf shape gives pool a → IsPassOf shape gives pool.board.now q → GoesOn (view a.pass) (view q) → (view q).marks.passed ≡ (view a.pass).marks.passed
      → Serving shape gives pool a (record { pass = q; bench = a.bench; journal = a.journal })
  serves_pass a q of is go same = record { of = pass_of_hand a q of is go same; view = go; number = refl }

  pub serves_bench : (a : Hand S) (c : Bench) → IsHandOf shape gives pool a → IsBenchOf pool.rack.now c → number_of c ≡ number_of a.bench → Serving shape gives pool a (record { pass = a.pass; bench = c; journal = a.journal })
  serves_bench a c of is number = record {
    of = record { pass = of.pass; bench = is; rack = of.rack; plan = of.plan; cells = of.cells; gathered = of.gathered };
    view = goes_nowhere (view a.pass);
    number = number;
  }

  pub serves_nothing : (a : Hand S) → IsHandOf shape gives pool a → Serving shape gives pool a a
  serves_nothing a of = record { of = of; view = goes_nowhere (view a.pass); number = refl }

  pub serves_further : (a b c : Hand S) → Serving shape gives pool a b → Serving shape gives pool b c → Serving shape gives pool a c
  serves_further a b c one two = record {
    of = two.of;
    view = goes_further (view a.pass) (view b.pass) (view c.pass) one.view two.view;
    number = two.number ∙ one.number;
  }

  -- ## Looking

  sees_passed : (v w : View S) → Sees v w → w.marks.passed ≡ v.marks.passed
  sees_passed v w looks = ap (λ (x : View S). x.marks.passed) looks.is

  -- a hand that has looked at the row
  pub sees_serves : (a : Hand S) (q : RowPass S) → IsHandOf shape gives pool a → IsPassOf shape gives pool.board.now q → Sees (view a.pass) (view q) → Serving shape gives pool a (record { pass = q; bench = a.bench; journal = a.journal })
  sees_serves a q of pass looks = serves_pass a q of pass (sees_goes_on (view a.pass) (view q) looks) (sees_passed (view a.pass) (view q) looks)

  pub sees_ready : (a : Hand S) (q : RowPass S) → IsReady shape gives pool a → IsPassOf shape gives pool.board.now q → Sees (view a.pass) (view q) → slots q ≡ slots a.pass → IsReady shape gives pool (record { pass = q; bench = a.bench; journal = a.journal })
  sees_ready a q is pass looks same = record {
    of = (sees_serves a q is.of pass looks).of;
    fresh = sees_fresh shape gives pool.board.now a.pass q pass looks same is.fresh;
  }

  -- ## Letting others write over what was seen

  -- the cell of the run that it holds is as it was
  pub passing_fresh : (p q : RowPass S) → view q ≡ knowing (view p) (view p).seen (view q).marks → slots q ≡ slots p → IsFresh shape (view p) (slots p) → IsFresh shape (view q) (slots q)
  passing_fresh p q is same fresh =
      subst (λ (x : View S). IsFresh shape x (slots q)) (sym is) (subst (λ (c : List (ℕ × S)). IsFreshAt shape (view p).terms.plan (view p).seen (view p).worker c) (sym same) fresh)

  pub passing_ready : (a b : Hand S) → Serving shape gives pool a b → view b.pass ≡ knowing (view a.pass) (view a.pass).seen (view b.pass).marks → slots b.pass ≡ slots a.pass → IsFresh shape (view a.pass) (slots a.pass) → IsReady shape gives pool b
  passing_ready a b serving is same fresh = record { of = serving.of; fresh = passing_fresh a.pass b.pass is same fresh }

  -- a worker that holds no run
  pub new_hand : (a : Hand S) → IsPool pool → IsPassOf shape gives pool.board.now a.pass → IsBenchOf pool.rack.now a.bench → held_run (view a.pass) ≡ None → IsGatheredBy (view a.pass) a.journal.items → IsReady shape gives pool a
  new_hand a is pass bench none gathered =
      record {
        of = record {
          pass = pass;
          bench = bench;
          rack = subst (λ (t : Terms S). plan_of pool.rack.now ≡ t.plan) (sym pass.terms) is.rack;
          plan = subst (λ (t : Terms S). pool.plan.now ≡ t.plan) (sym pass.terms) is.plan;
          cells = subst (λ (t : Terms S). length t.plan.blocks ≤ length t.cells) (sym pass.terms) is.cells;
          gathered = gathered;
        };
        fresh = λ r c held here. absurd (none_some _ r none held);
      }

-- ## Two pools of the same board, rack and plan

module _ {S : Type 0} (shape : S → Shape) (gives : S → ℕ → Type 0) (p q : Pool S) (same : IsSamePool p q) where
  hand_in : (a : Hand S) → IsHandOf shape gives p a → IsHandOf shape gives q a
  hand_in a of = record {
    pass = subst (λ (b : RowBoard S). IsPassOf shape gives b a.pass) (sym same.board) of.pass;
    bench = subst (λ (r : Rack). IsBenchOf r a.bench) (sym same.rack) of.bench;
    rack = subst (λ (r : Rack). plan_of r ≡ (view a.pass).terms.plan) (sym same.rack) of.rack;
    plan = same.plan ∙ of.plan;
    cells = of.cells;
    gathered = of.gathered;
  }

  pub ready_in : (a : Hand S) → IsReady shape gives p a → IsReady shape gives q a
  ready_in a is = record { of = hand_in a is.of; fresh = is.fresh }

  pub serving_in : (a b : Hand S) → Serving shape gives p a b → Serving shape gives q a b
  serving_in a b is = record { of = hand_in b is.of; view = is.view; number = is.number }

  pub served_in : (a b : Hand S) → Served shape gives p a b → Served shape gives q a b
  served_in a b is = record { serving = serving_in a b is.serving; ended = is.ended }

pub other_way : {S : Type 0} → (p q : Pool S) → IsSamePool p q → IsSamePool q p
other_way p q same = record { board = sym same.board; rack = sym same.rack; plan = sym same.plan }

-- the limit of events is the board's
pub most_of_hand : {S : Type 0} → (shape : S → Shape) (gives : S → ℕ → Type 0) (pool : Pool S) (a : Hand S) → IsHandOf shape gives pool a → (view a.pass).terms.limits.most ≡ (terms_of pool.board.now).limits.most
most_of_hand {S} shape gives pool a of = ap (λ (t : Terms S). t.limits.most) of.pass.terms

-- how the run has ended that a hand has seen to end
pub exit_served : {S : Type 0} → (shape : S → Shape) (gives : S → ℕ → Type 0) (pool : Pool S) (old new : Hand S) (exit : Exit) → Served shape gives pool old new
    → ((most : ℕ) (plan : PlanView) (h : List Event) → StandsFor (machine_of new.pass) plan h → HasEnded most plan h → HasExit most plan h exit) → HasExit (terms_of pool.board.now).limits.most pool.plan.now (view new.pass).seen exit
exit_served shape gives pool old new exit is tells =
    let v = view new.pass in
    subst (λ (n : ℕ). HasExit n pool.plan.now v.seen exit) (most_of_hand shape gives pool new is.serving.of)
    (subst (λ (q : PlanView). HasExit v.terms.limits.most q v.seen exit) (sym is.serving.of.plan) (tells v.terms.limits.most v.terms.plan v.seen is.serving.of.pass.stands is.ended))
