use Rattle.std.proofs.Common.{◌≡◌, true, None, inl, ap, refl, sym, subst}
use Rattle.gcd_event.specs.declared.event.Event.TheVariants.{Shut}
use Rattle.gcd_history.specs.History.{is_intake_open, next_of_intake}
use Rattle.gcd_machine.specs.Stands.{StandsFor}
use Rattle.gcd_loop.specs.Recorded.{Says}
use Rattle.gcd_row.specs.Passes.{view}
use Rattle.gcd_turn.specs.Turns.{HasRoom}
use Rattle.gcd_pool.specs.Leads.{bounds_of}
use Rattle.gcd_pool.proofs.Accepting.{all_accepted}
use Rattle.gcd_pool.proofs.Leading.{machine_tells, passed_leading, shut_leading}
use Rattle.gcd_pool.proofs.Recording.{passed_head, passed_leads}
use Rattle.gcd_pool.proofs.Stays.{leads_in}
use Rattle.gcd_pool.proofs.head.HeadRecorder.admit.Goals as goal

pub put_on-requires-clause-head : goal.put_on-requires-clause-head
put_on-requires-clause-head g c =
    let old = c.args.self.now in
    passed_head g.S.Slot.shape g.S.Slot.gives old.pool.now old.hand.now c.requires.ready.head c.pass_many.new.hand c.pass_many.ensures.serving c.pass_many.ensures.view c.pass_many.ensures.slots

pub returns-in_ok-put-in-None-clause-ready : goal.returns-in_ok-put-in-None-clause-ready
returns-in_ok-put-in-None-clause-ready g c =
    let old = c.args.self.now in let pool = old.pool.now in let mid = c.pass_many.new.hand in let plan = pool.plan.now in
    let head = passed_head g.S.Slot.shape g.S.Slot.gives pool old.hand.now c.requires.ready.head mid c.pass_many.ensures.serving c.pass_many.ensures.view c.pass_many.ensures.slots in
    let seen = ap (λ x. x.seen) c.pass_many.ensures.view in
    let now = passed_leading g.S.Slot.shape g.S.Slot.gives g.X.Sent.gives pool old.front.now old.hand.now old.intake.now c.requires.ready mid
    c.pass_many.ensures.serving c.pass_many.ensures.view c.pass_many.ensures.slots in
    let all = all_accepted plan (view mid.pass).seen (subst (λ h. is_intake_open plan h ≡ true) (sym seen) c.requires.open)
    (sym (machine_tells g.S.Slot.shape g.S.Slot.gives pool mid head next_of_intake None
    (λ q h stands. c.in-None.ensures q h (subst (λ m. StandsFor m q h) (sym c.machine.ensures) stands)))) in
    shut_leading g.S.Slot.shape g.S.Slot.gives g.X.Sent.gives pool old.front.now mid old.intake.now now c.put_on.new.hand c.in_ok-put-in-None.ensures.head
    c.in_ok-put-in-None.put (subst (λ h. HasRoom (bounds_of pool).most plan h) (sym seen) c.requires.room) c.in_ok-put-in-None.ensures.said c.in_ok-put-in-None.ensures.handed (inl all)

pub returns-in_ok-put-in-None-clause-said : goal.returns-in_ok-put-in-None-clause-said
returns-in_ok-put-in-None-clause-said g c =
    let old = c.args.self.now in let pool = old.pool.now in let mid = c.pass_many.new.hand in let plan = pool.plan.now in
    let head = passed_head g.S.Slot.shape g.S.Slot.gives pool old.hand.now c.requires.ready.head mid c.pass_many.ensures.serving c.pass_many.ensures.view c.pass_many.ensures.slots in
    let seen = ap (λ x. x.seen) c.pass_many.ensures.view in
    record {
      event = Shut;
      called = refl;
      said = subst (λ h. Says (bounds_of pool).most plan Shut h (view c.put_on.new.hand.pass).seen c.in_ok-put-in-None.put) seen c.in_ok-put-in-None.ensures.said;
    }

pub returns-in_ok-put-in-None-clause-kept : goal.returns-in_ok-put-in-None-clause-kept
returns-in_ok-put-in-None-clause-kept g c = λ first kept.
    let old = c.args.self.now in
    record {
      leads = leads_in g.S.Slot.shape g.S.Slot.gives first.pool.now old.pool.now first.hand.now old.hand.now c.put_on.new.hand kept.pool
          (λ led. c.put_on.ensures.kept first.hand.now (passed_leads g.S.Slot.shape g.S.Slot.gives old.pool.now old.hand.now c.requires.ready.head first.hand.now c.pass_many.new.hand
          c.pass_many.ensures.serving c.pass_many.ensures.view led)) kept.leads;
      pool = kept.pool;
      front = kept.front;
      hand = kept.hand;
      intake = kept.intake;
    }

pub returns-in_err-put-in-None-clause-kept : goal.returns-in_err-put-in-None-clause-kept
returns-in_err-put-in-None-clause-kept g c = λ first kept.
    let old = c.args.self.now in
    record {
      leads = leads_in g.S.Slot.shape g.S.Slot.gives first.pool.now old.pool.now first.hand.now old.hand.now c.put_on.new.hand kept.pool
          (λ led. c.put_on.ensures.kept first.hand.now (passed_leads g.S.Slot.shape g.S.Slot.gives old.pool.now old.hand.now c.requires.ready.head first.hand.now c.pass_many.new.hand
          c.pass_many.ensures.serving c.pass_many.ensures.view led)) kept.leads;
      pool = kept.pool;
      front = kept.front;
      hand = kept.hand;
      intake = kept.intake;
    }

pub take_in-requires-clause-leading : goal.take_in-requires-clause-leading
take_in-requires-clause-leading g c =
    let old = c.args.self.now in
    passed_leading g.S.Slot.shape g.S.Slot.gives g.X.Sent.gives old.pool.now old.front.now old.hand.now old.intake.now c.requires.ready c.pass_many.new.hand
    c.pass_many.ensures.serving c.pass_many.ensures.view c.pass_many.ensures.slots

pub returns-in-Some-clause-kept : goal.returns-in-Some-clause-kept
returns-in-Some-clause-kept g c = λ first kept.
    let old = c.args.self.now in
    record {
      leads = leads_in g.S.Slot.shape g.S.Slot.gives first.pool.now old.pool.now first.hand.now old.hand.now c.take_in.new.hand kept.pool
          (λ led. c.take_in.ensures.kept first.hand.now (passed_leads g.S.Slot.shape g.S.Slot.gives old.pool.now old.hand.now c.requires.ready.head first.hand.now c.pass_many.new.hand
          c.pass_many.ensures.serving c.pass_many.ensures.view led)) kept.leads;
      pool = kept.pool;
      front = kept.front;
      hand = kept.hand;
      intake = kept.intake;
    }
