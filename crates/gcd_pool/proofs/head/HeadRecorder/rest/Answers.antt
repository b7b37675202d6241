use Rattle.std.proofs.Common.{ap}
use Rattle.gcd_pool.proofs.Leading.{passed_leading, rest_grown}
use Rattle.gcd_pool.proofs.Recording.{passed_leads}
use Rattle.gcd_pool.proofs.Stays.{leads_in}
use Rattle.gcd_pool.proofs.head.HeadRecorder.rest.Goals as goal

pub returns-clause-after : goal.returns-clause-after
returns-clause-after g c =
    let old = c.args.self.now in
    passed_leading g.S.Slot.shape g.S.Slot.gives g.X.Sent.gives old.pool.now old.front.now old.hand.now old.intake.now c.requires.ready c.pass_many.new.hand
    c.pass_many.ensures.serving c.pass_many.ensures.view c.pass_many.ensures.slots

pub returns-clause-none : goal.returns-clause-none
returns-clause-none g c = λ waited. ap (λ x. x.seen) c.pass_many.ensures.view

pub returns-clause-grown : goal.returns-clause-grown
returns-clause-grown g c =
    let old = c.args.self.now in
    rest_grown g.S.Slot.shape g.S.Slot.gives g.X.Sent.gives old.pool.now old.front.now old.hand.now old.intake.now c.requires.ready c.pass_many.new.hand
    (ap (λ x. x.seen) c.pass_many.ensures.view)

pub returns-clause-kept : goal.returns-clause-kept
returns-clause-kept g c = λ first kept.
    let old = c.args.self.now in
    record {
      leads = leads_in g.S.Slot.shape g.S.Slot.gives first.pool.now old.pool.now first.hand.now old.hand.now c.pass_many.new.hand kept.pool
          (λ led. passed_leads g.S.Slot.shape g.S.Slot.gives old.pool.now old.hand.now c.requires.ready.head first.hand.now c.pass_many.new.hand
          c.pass_many.ensures.serving c.pass_many.ensures.view led) kept.leads;
      pool = kept.pool;
      front = kept.front;
      hand = kept.hand;
      intake = kept.intake;
    }

pub returns-then-not-pass_many-clause-kept : goal.returns-then-not-pass_many-clause-kept
returns-then-not-pass_many-clause-kept g c = λ first kept.
    let old = c.args.self.now in
    record {
      leads = leads_in g.S.Slot.shape g.S.Slot.gives first.pool.now old.pool.now first.hand.now old.hand.now c.pass_many.new.hand kept.pool
          (λ led. passed_leads g.S.Slot.shape g.S.Slot.gives old.pool.now old.hand.now c.requires.ready.head first.hand.now c.pass_many.new.hand
          c.pass_many.ensures.serving c.pass_many.ensures.view led) kept.leads;
      pool = kept.pool;
      front = kept.front;
      hand = kept.hand;
      intake = kept.intake;
    }
