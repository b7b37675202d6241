use Rattle.std.proofs.Common.{◌≡◌, ◌∙◌, ℕ, List, ap, sym, subst, refl}
use Rattle.gcd_front.specs.Fronts.{IsIntakeOf}
use Rattle.gcd_front.specs.Views.{FrontView}
use Rattle.gcd_event.specs.declared.event.Event.{Event}
use Rattle.gcd_plan.specs.PlanView.{PlanView}
use Rattle.gcd_history.specs.Ends.{HasEnded}
use Rattle.gcd_loop.specs.Going.{GoesOn}
use Rattle.gcd_loop.specs.Recorded.{Bounds}
use Rattle.gcd_row.specs.Passes.{terms_of, view}
use Rattle.gcd_row.specs.Shapes.{Shape}
use Rattle.gcd_row.specs.declared.view.View.{View}
use Rattle.gcd_turn.specs.Outsides.{faced}
use Rattle.gcd_pool.specs.Hands.{IsHandOf, Serving}
use Rattle.gcd_pool.specs.Admitted.{Admitted, KeepsHead}
use Rattle.gcd_pool.specs.Leads.{Follows, bounds_in, bounds_of}
use Rattle.gcd_pool.specs.declared.hand.Hand.{Hand}
use Rattle.gcd_pool.specs.declared.hand.Pool.{Pool}
use Rattle.gcd_pool.specs.declared.head.Head.{Head}
use Rattle.gcd_pool.proofs.Leading.{gathered_admitted}
use Rattle.gcd_pool.proofs.Recording.{leads_nowhere, never}
use Rattle.gcd_pool.proofs.Serves.{most_of_hand, serves_further}
use Rattle.gcd_pool.proofs.head.run_head.Goals as goal

-- what no step has changed since worker 0 began
kept_head : {S X : Type 0} (shape : S → Shape) (gives : S → ℕ → Type 0) (head : Head S X) → IsHandOf shape gives head.pool.now head.hand.now → KeepsHead shape gives head head
kept_head shape gives head of = record { leads = leads_nowhere shape gives head.pool.now head.hand.now of; pool = refl; front = refl; hand = refl; intake = refl }

-- what holds by the bounds of its pool holds by those of a hand
by_hand : {S : Type 0} (shape : S → Shape) (gives : S → ℕ → Type 0) (pool : Pool S) (hand : Hand S) (P : Bounds → Type 0) → IsHandOf shape gives pool hand → P (bounds_of pool) → P (bounds_in (view hand.pass))
by_hand shape gives pool hand P of here =
    subst (λ (n : ℕ). P (record { plan = (view hand.pass).terms.plan; most = n })) (sym (most_of_hand shape gives pool hand of))
    (subst (λ (q : PlanView). P (record { plan = q; most = (terms_of pool.board.now).limits.most })) of.plan here)

pub run_turns-requires : goal.run_turns-requires
run_turns-requires g c = record {
  ready = record {
    head = record { ready = c.requires.ready; head = c.requires.head };
    few = c.requires.few;
    of_front = c.requires.intake;
    admitted = c.requires.admitted;
  };
}

pub gather_all-requires-clause-of : goal.gather_all-requires-clause-of
gather_all-requires-clause-of g c =
    let old = c.args.head.now in
    let kept = c.run_turns.ensures.kept old (kept_head g.S.Slot.shape g.S.Slot.gives old c.requires.ready.of) in
    subst (λ (p : Pool g.row.S.Denot). IsHandOf g.S.Slot.shape g.S.Slot.gives p c.run_turns.new.run.hand.now) (sym kept.pool) kept.leads.serving.of

pub gather_all-requires-clause-head : goal.gather_all-requires-clause-head
gather_all-requires-clause-head g c =
    let old = c.args.head.now in
    let kept = c.run_turns.ensures.kept old (kept_head g.S.Slot.shape g.S.Slot.gives old c.requires.ready.of) in
    ap (λ x. x.worker) kept.leads.serving.view.is ∙ c.requires.head

pub returns-in-Ok-Ended-clause-served : goal.returns-in-Ok-Ended-clause-served
returns-in-Ok-Ended-clause-served g c =
    let old = c.args.head.now in let mid = c.run_turns.new.run in let new = c.gather_all.new.hand in
    let kept = c.run_turns.ensures.kept old (kept_head g.S.Slot.shape g.S.Slot.gives old c.requires.ready.of) in
    serves_further g.S.Slot.shape g.S.Slot.gives old.pool.now old.hand.now mid.hand.now new kept.leads.serving
    (subst (λ (p : Pool g.row.S.Denot). Serving g.S.Slot.shape g.S.Slot.gives p mid.hand.now new) kept.pool c.gather_all.ensures.serving)

pub returns-in-Err-clause-served : goal.returns-in-Err-clause-served
returns-in-Err-clause-served g c =
    let old = c.args.head.now in
    (c.run_turns.ensures.kept old (kept_head g.S.Slot.shape g.S.Slot.gives old c.requires.ready.of)).leads.serving

pub returns-in-Ok-Ended-clause-led : goal.returns-in-Ok-Ended-clause-led
returns-in-Ok-Ended-clause-led g c =
    let first = c.args.head.now in
    let shape = g.S.Slot.shape in let gives = g.S.Slot.gives in
    let pool = first.pool.now in
    let old = first.hand.now in
    let mid = c.run_turns.new.run.hand.now in
    let new = c.gather_all.new.hand in
    let kept = c.run_turns.ensures.kept first (kept_head shape gives first c.requires.ready.of) in
    let serving = kept.leads.serving in
    let seen : (view new.pass).seen ≡ (view mid.pass).seen = ap (λ x. x.seen) c.gather_all.ensures.view in
    let face = faced g.P.Poller.tells g.C.Clock.tells g.P.Poller.state g.C.Clock.state c.args.outside.now c.run_turns.new.outside in
    record {
      going = λ done head.
          subst (λ (k : List Event). GoesOn (bounds_in (view old.pass)) (view old.pass).seen k face) (sym seen)
          (by_hand shape gives pool old (λ (b : Bounds). GoesOn b (view old.pass).seen (view mid.pass).seen face) c.requires.ready.of c.in-Ok-Ended.ensures.going);
      ended = λ done.
          subst (λ (v : View g.row.S.Denot). HasEnded v.terms.limits.most v.terms.plan v.seen) (sym c.gather_all.ensures.view)
          (by_hand shape gives pool mid (λ (b : Bounds). HasEnded b.most b.plan (view mid.pass).seen) serving.of (c.in-Ok-Ended.ensures.ended c.in-Ok-Ended.field-0-is));
      whole = λ done head. c.gather_all.ensures.whole done;
      follows = λ alone head.
          subst (λ (k : List Event). Follows (view old.pass).terms.plan (view old.pass).seen k) (sym seen)
          (subst (λ (q : PlanView). Follows q (view old.pass).seen (view mid.pass).seen) c.requires.ready.of.plan (kept.leads.follows alone));
      kept = λ head. c.run_turns.ensures.listens;
      same = c.run_turns.ensures.same;
    }

pub returns-in-Err-clause-led : goal.returns-in-Err-clause-led
returns-in-Err-clause-led g c =
    let first = c.args.head.now in
    let old = first.hand.now in
    let mid = c.run_turns.new.run.hand.now in
    let kept = c.run_turns.ensures.kept first (kept_head g.S.Slot.shape g.S.Slot.gives first c.requires.ready.of) in
    record {
      going = λ done. never done;
      ended = λ done. never done;
      whole = λ done. never done;
      follows = λ alone head. subst (λ (q : PlanView). Follows q (view old.pass).seen (view mid.pass).seen) c.requires.ready.of.plan (kept.leads.follows alone);
      kept = λ head. c.run_turns.ensures.listens;
      same = c.run_turns.ensures.same;
    }

pub returns-in-Ok-Ended-clause-same_hand : goal.returns-in-Ok-Ended-clause-same_hand
returns-in-Ok-Ended-clause-same_hand g c =
    let old = c.args.head.now in (c.run_turns.ensures.kept old (kept_head g.S.Slot.shape g.S.Slot.gives old c.requires.ready.of)).hand

pub returns-in-Ok-Ended-clause-same_intake : goal.returns-in-Ok-Ended-clause-same_intake
returns-in-Ok-Ended-clause-same_intake g c =
    let old = c.args.head.now in (c.run_turns.ensures.kept old (kept_head g.S.Slot.shape g.S.Slot.gives old c.requires.ready.of)).intake

pub returns-in-Ok-Ended-clause-intake : goal.returns-in-Ok-Ended-clause-intake
returns-in-Ok-Ended-clause-intake g c = λ done.
    let old = c.args.head.now in
    let kept = c.run_turns.ensures.kept old (kept_head g.S.Slot.shape g.S.Slot.gives old c.requires.ready.of) in
    subst (λ (f : FrontView). IsIntakeOf f c.run_turns.new.run.intake.now) kept.front (c.in-Ok-Ended.ensures.left c.in-Ok-Ended.field-0-is).of_front

pub returns-in-Ok-Ended-clause-admitted : goal.returns-in-Ok-Ended-clause-admitted
returns-in-Ok-Ended-clause-admitted g c = λ done.
    let old = c.args.head.now in
    let kept = c.run_turns.ensures.kept old (kept_head g.S.Slot.shape g.S.Slot.gives old c.requires.ready.of) in
    let mid = c.run_turns.new.run in
    gathered_admitted g.S.Slot.shape g.S.Slot.gives g.X.Sent.gives mid.pool.now old.front.now mid.intake.now mid.hand.now c.gather_all.new.hand c.gather_all.ensures.serving.of c.gather_all.ensures.view
    (subst (λ (f : FrontView). Admitted g.S.Slot.gives g.X.Sent.gives f (view mid.hand.now.pass) mid.intake.now) kept.front (c.in-Ok-Ended.ensures.left c.in-Ok-Ended.field-0-is).admitted)

pub returns-in-Err-clause-same_hand : goal.returns-in-Err-clause-same_hand
returns-in-Err-clause-same_hand g c =
    let old = c.args.head.now in (c.run_turns.ensures.kept old (kept_head g.S.Slot.shape g.S.Slot.gives old c.requires.ready.of)).hand

pub returns-in-Err-clause-same_intake : goal.returns-in-Err-clause-same_intake
returns-in-Err-clause-same_intake g c =
    let old = c.args.head.now in (c.run_turns.ensures.kept old (kept_head g.S.Slot.shape g.S.Slot.gives old c.requires.ready.of)).intake
