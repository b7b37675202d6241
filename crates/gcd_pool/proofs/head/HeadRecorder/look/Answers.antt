use Rattle.std.proofs.Common.{ap}
use Rattle.gcd_row.specs.Passes.{view}
use Rattle.gcd_pool.proofs.Leading.{grows_leading}
use Rattle.gcd_pool.proofs.Recording.{adds_grows, look_leads, looked}
use Rattle.gcd_pool.proofs.Serves.{sees_serves}
use Rattle.gcd_pool.proofs.Stays.{leads_in}
use Rattle.gcd_pool.proofs.Works.{sees_adds, sees_none}
use Rattle.gcd_pool.proofs.head.HeadRecorder.look.Goals as goal

pub returns-clause-grows : goal.returns-clause-grows
returns-clause-grows g c =
    let v = view c.args.self.now.hand.now.pass in let w = view c.look.new.pass in
    adds_grows v w c.requires.ready.head.head (sees_adds v w c.look.ensures.view.sees)

pub returns-clause-ready : goal.returns-clause-ready
returns-clause-ready g c =
    let old = c.args.self.now in let a = old.hand.now in let v = view a.pass in let w = view c.look.new.pass in
    grows_leading g.S.Slot.shape g.S.Slot.gives g.X.Sent.gives old.pool.now old.front.now a old.intake.now c.requires.ready
    (record { pass = c.look.new.pass; bench = old.hand.now.bench; journal = old.hand.now.journal })
    (looked g.S.Slot.shape g.S.Slot.gives old.pool.now a c.requires.ready.head c.look.new.pass c.look.ensures.pass c.look.ensures.view.sees c.look.ensures.slots)
    (adds_grows v w c.requires.ready.head.head (sees_adds v w c.look.ensures.view.sees)) (ap (λ x. x.handed) c.look.ensures.view.sees.is)

pub returns-clause-kept : goal.returns-clause-kept
returns-clause-kept g c = λ first kept.
    let old = c.args.self.now in
    record {
      leads = leads_in g.S.Slot.shape g.S.Slot.gives first.pool.now old.pool.now first.hand.now old.hand.now (record { pass = c.look.new.pass; bench = old.hand.now.bench; journal = old.hand.now.journal }) kept.pool
          (λ led. look_leads g.S.Slot.shape g.S.Slot.gives old.pool.now old.hand.now c.requires.ready.head first.hand.now
          (record { pass = c.look.new.pass; bench = old.hand.now.bench; journal = old.hand.now.journal })
          (sees_serves g.S.Slot.shape g.S.Slot.gives old.pool.now old.hand.now c.look.new.pass c.requires.ready.head.ready.of c.look.ensures.pass c.look.ensures.view.sees)
          (sees_none (view old.hand.now.pass) (view c.look.new.pass) c.look.ensures.view.sees) led) kept.leads;
      pool = kept.pool;
      front = kept.front;
      hand = kept.hand;
      intake = kept.intake;
    }
