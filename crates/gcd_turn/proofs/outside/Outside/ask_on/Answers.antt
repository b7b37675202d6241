use Rattle.std.proofs.Common.{◌∙◌, ℕ, subst, sym}
use Rattle.gcd_outer.specs.Outside.{seen}
use Rattle.gcd_turn.specs.Asked.{IsAhead}
use Rattle.gcd_turn.proofs.Expiries.{expiry_is_put}
use Rattle.gcd_turn.proofs.outside.Outside.ask_on.Goals as goal

pub returns-in-Some-clause-asked : goal.returns-in-Some-clause-asked
returns-in-Some-clause-asked g c = λ most h old new stands room watched unfailed. (
  room,
  expiry_is_put c.args.plan.now h c.args.self.now.outlook.start (g.C.Clock.state c.next_time.new.clock).present old new c.in-Some.expire
      (sym (c.expiry.ensures c.args.plan.now h stands) ∙ c.in-Some.is) unfailed,
)

pub returns-in-None-clause-asked : goal.returns-in-None-clause-asked
returns-in-None-clause-asked g c = λ most h old new stands room watched unfailed. (
  room,
  record {
    no_news = c.requires.no_news;
    watched = watched;
    left_is = (c.in-Left.ensures.time h stands).0;
    no_expiry = sym (c.expiry.ensures c.args.plan.now h stands) ∙ c.in-None.is;
  },
  unfailed,
  c.requires.chosen h stands,
  subst (λ (start : ℕ). IsAhead c.args.plan.now h start (seen g.C.Clock.tells g.C.Clock.state c.args.self.now.clock.now c.next_time.new.clock) c.in-Left.left)
      c.start.ensures (c.in-Left.ensures.time h stands).1,
)
