use Rattle.std.proofs.Common.{◌≡◌, Some, ap, sym, subst, refl}
use Rattle.gcd_event.specs.declared.event.Event.TheVariants.{Accept}
use Rattle.gcd_history.specs.History.{next_of_intake}
use Rattle.gcd_plan.specs.PlanView.{PlanView}
use Rattle.gcd_loop.specs.Recorded.{Says}
use Rattle.gcd_row.specs.Passes.{view}
use Rattle.gcd_pool.specs.Leads.{bounds_of}
use Rattle.gcd_pool.proofs.Leading.{laid_accepted, laid_head, laid_leads}
use Rattle.gcd_pool.proofs.Recording.{plan_of_head}
use Rattle.gcd_pool.proofs.head.accept.Goals as goal

pub lay-requires-clause-next : goal.lay-requires-clause-next
lay-requires-clause-next g c =
    let a = c.args.hand.now in
    subst (λ (q : PlanView). next_of_intake q (view a.pass).seen ≡ Some c.args.b) (sym (plan_of_head g.S.Slot.shape g.S.Slot.gives c.args.pool.now a c.requires.head)) c.requires.next

pub put_on-requires-clause-head : goal.put_on-requires-clause-head
put_on-requires-clause-head g c =
    let laid = c.lay.ensures.laid in
    laid_head g.S.Slot.shape g.S.Slot.gives c.args.pool.now c.args.hand.now c.requires.head c.lay.new.pass laid.0 c.lay.ensures.pass c.lay.ensures.slots laid.1

pub returns-clause-accepted : goal.returns-clause-accepted
returns-clause-accepted g c =
    let laid = c.lay.ensures.laid in
    laid_accepted g.S.Slot.shape g.S.Slot.gives c.args.pool.now c.args.hand.now c.requires.head c.lay.new.pass laid.0 c.lay.ensures.pass c.lay.ensures.slots laid.1
    g.X.Sent.gives c.args.b c.args.sender c.args.job c.put_on.new.hand c.in_ok-put.put laid.2 c.in_ok-put.ensures.head c.in_ok-put.ensures.said c.in_ok-put.ensures.handed

pub returns-clause-said : goal.returns-clause-said
returns-clause-said g c =
    let k = (view c.put_on.new.hand.pass).seen in
    record {
      event = Accept c.args.b c.args.sender;
      called = refl;
      said = subst (λ h. Says (bounds_of c.args.pool.now).most c.args.pool.now.plan.now (Accept c.args.b c.args.sender) h k c.in_ok-put.put) (ap (λ x. x.seen) c.lay.ensures.laid.1) c.in_ok-put.ensures.said;
    }

pub returns-clause-kept : goal.returns-clause-kept
returns-clause-kept g c = λ first kept.
    let laid = c.lay.ensures.laid in
    c.put_on.ensures.kept first
    (laid_leads g.S.Slot.shape g.S.Slot.gives c.args.pool.now c.args.hand.now c.requires.head c.lay.new.pass laid.0 c.lay.ensures.pass c.lay.ensures.slots laid.1 first kept)

pub returns-in_err-put-clause-kept : goal.returns-in_err-put-clause-kept
returns-in_err-put-clause-kept g c = λ first kept.
    let laid = c.lay.ensures.laid in
    c.put_on.ensures.kept first
    (laid_leads g.S.Slot.shape g.S.Slot.gives c.args.pool.now c.args.hand.now c.requires.head c.lay.new.pass laid.0 c.lay.ensures.pass c.lay.ensures.slots laid.1 first kept)
