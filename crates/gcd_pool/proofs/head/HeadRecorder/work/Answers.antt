use Rattle.std.proofs.Common.{◌≡◌, ◌∙◌, List, Some, ap, sym, subst}
use Rattle.gcd_event.specs.declared.event.Event.{Event}
use Rattle.gcd_history.specs.History.{choice_of}
use Rattle.gcd_loop.specs.Recorded.{IsGrown}
use Rattle.gcd_row.specs.Passes.{slots, view}
use Rattle.gcd_pool.specs.Leads.{bounds_of}
use Rattle.gcd_pool.proofs.Leading.{work_answered}
use Rattle.gcd_pool.proofs.Recording.{leads_further, on_ok, passed_chosen, passed_head, passed_leads, worked, worked_after}
use Rattle.gcd_pool.proofs.Stays.{leads_in}
use Rattle.gcd_pool.proofs.head.HeadRecorder.work.Goals as goal

pub lead_any-requires-clause-worker : goal.lead_any-requires-clause-worker
lead_any-requires-clause-worker g c =
    let old = c.args.self.now in
    (passed_chosen g.S.Slot.shape g.S.Slot.gives old.pool.now old.hand.now c.requires.ready.head c.pass_many.new.hand c.args.e
    c.pass_many.ensures.serving c.pass_many.ensures.view c.pass_many.ensures.slots c.requires.chosen).0

pub lead_any-requires-clause-may : goal.lead_any-requires-clause-may
lead_any-requires-clause-may g c =
    let old = c.args.self.now in
    (passed_chosen g.S.Slot.shape g.S.Slot.gives old.pool.now old.hand.now c.requires.ready.head c.pass_many.new.hand c.args.e
    c.pass_many.ensures.serving c.pass_many.ensures.view c.pass_many.ensures.slots c.requires.chosen).1

pub lead_any-requires-clause-work : goal.lead_any-requires-clause-work
lead_any-requires-clause-work g c =
    let old = c.args.self.now in
    (passed_chosen g.S.Slot.shape g.S.Slot.gives old.pool.now old.hand.now c.requires.ready.head c.pass_many.new.hand c.args.e
    c.pass_many.ensures.serving c.pass_many.ensures.view c.pass_many.ensures.slots c.requires.chosen).2

pub returns-clause-grown : goal.returns-clause-grown
returns-clause-grown g c =
    let old = c.args.self.now in let pool = old.pool.now in let a = old.hand.now in let mid = c.pass_many.new.hand in let b = c.lead_any.new.hand in
    let head = passed_head g.S.Slot.shape g.S.Slot.gives pool a c.requires.ready.head mid c.pass_many.ensures.serving c.pass_many.ensures.view c.pass_many.ensures.slots in
    let seen = ap (λ x. x.seen) c.pass_many.ensures.view in
    on_ok c.step_of.result (IsGrown (bounds_of pool).most pool.plan.now (view a.pass).seen (view b.pass).seen)
    (subst (λ (h : List Event). IsGrown (bounds_of pool).most pool.plan.now h (view b.pass).seen) seen
    (worked g.S.Slot.shape g.S.Slot.gives pool mid head b c.lead_any.ensures.serving c.lead_any.ensures.work))

pub returns-clause-after : goal.returns-clause-after
returns-clause-after g c =
    let old = c.args.self.now in let pool = old.pool.now in let a = old.hand.now in let mid = c.pass_many.new.hand in let b = c.lead_any.new.hand in
    let head = passed_head g.S.Slot.shape g.S.Slot.gives pool a c.requires.ready.head mid c.pass_many.ensures.serving c.pass_many.ensures.view c.pass_many.ensures.slots in
    let seen = ap (λ x. x.seen) c.pass_many.ensures.view in
    work_answered g.S.Slot.shape g.S.Slot.gives g.X.Sent.gives pool old.front.now a old.intake.now c.requires.ready b c.step_of.result
    (c.lead_any.ensures.work.handed ∙ ap (λ x. x.handed) c.pass_many.ensures.view)
    (on_ok c.step_of.result (IsGrown (bounds_of pool).most pool.plan.now (view a.pass).seen (view b.pass).seen)
    (subst (λ (h : List Event). IsGrown (bounds_of pool).most pool.plan.now h (view b.pass).seen) seen
    (worked g.S.Slot.shape g.S.Slot.gives pool mid head b c.lead_any.ensures.serving c.lead_any.ensures.work)))
    (worked_after g.S.Slot.shape g.S.Slot.gives pool mid head b c.step_of.result c.lead_any.ensures.serving
    (c.step_of.ensures (view b.pass) (slots b.pass) c.lead_any.ensures.after))

pub returns-clause-kept : goal.returns-clause-kept
returns-clause-kept g c = λ first kept.
    let old = c.args.self.now in
    record {
      leads = leads_in g.S.Slot.shape g.S.Slot.gives first.pool.now old.pool.now first.hand.now old.hand.now c.lead_any.new.hand kept.pool
          (λ led. leads_further g.S.Slot.shape g.S.Slot.gives old.pool.now c.pass_many.new.hand
          (passed_head g.S.Slot.shape g.S.Slot.gives old.pool.now old.hand.now c.requires.ready.head c.pass_many.new.hand c.pass_many.ensures.serving c.pass_many.ensures.view c.pass_many.ensures.slots)
          first.hand.now c.lead_any.new.hand c.args.e c.lead_any.ensures.serving c.lead_any.ensures.only
          (λ work. subst (λ (h : List Event). choice_of old.pool.now.plan.now h 0 0 ≡ Some c.args.e) (sym (ap (λ x. x.seen) c.pass_many.ensures.view)) c.requires.chosen)
          (passed_leads g.S.Slot.shape g.S.Slot.gives old.pool.now old.hand.now c.requires.ready.head first.hand.now c.pass_many.new.hand
          c.pass_many.ensures.serving c.pass_many.ensures.view led)) kept.leads;
      pool = kept.pool;
      front = kept.front;
      hand = kept.hand;
      intake = kept.intake;
    }

pub returns-then-not-pass_many-clause-kept : goal.returns-then-not-pass_many-clause-kept
returns-then-not-pass_many-clause-kept g c = λ first kept.
    let old = c.args.self.now in
    record {
      leads = leads_in g.S.Slot.shape g.S.Slot.gives first.pool.now old.pool.now first.hand.now old.hand.now c.pass_many.new.hand kept.pool
          (λ led. passed_leads g.S.Slot.shape g.S.Slot.gives old.pool.now old.hand.now c.requires.ready.head first.hand.now c.pass_many.new.hand
          c.pass_many.ensures.serving c.pass_many.ensures.view led) kept.leads;
      pool = kept.pool;
      front = kept.front;
      hand = kept.hand;
      intake = kept.intake;
    }
