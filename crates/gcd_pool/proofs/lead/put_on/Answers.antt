use Rattle.std.proofs.Common.{ap, subst, sym, ◌∙◌}
use Rattle.std.proofs.lemmas.Bool.{both_ways}
use Rattle.gcd_loop.specs.Recorded.{Says}
use Rattle.gcd_row.specs.Passes.{view}
use Rattle.gcd_pool.specs.Leads.{bounds_of}
use Rattle.gcd_pool.proofs.Recording.{handed_since, leads_further, passed_head, passed_leads, put_says, said_here, still_head}
use Rattle.gcd_pool.proofs.Throughs.{outcome_fresh, outcome_only}
use Rattle.gcd_pool.proofs.lead.put_on.Goals as goal

pub returns-clause-head : goal.returns-clause-head
returns-clause-head g c =
    let pool = c.args.pool.now in let a = c.args.hand.now in let mid = c.pass_many.new.hand in let b = c.put_through-answer.new.hand in
    let head = passed_head g.S.Slot.shape g.S.Slot.gives pool a c.requires.head mid c.pass_many.ensures.serving c.pass_many.ensures.view c.pass_many.ensures.slots in
    still_head g.S.Slot.shape g.S.Slot.gives pool mid head b c.put_through-answer.ensures.serving
    (outcome_fresh g.S.Slot.shape g.S.Slot.gives pool.board.now c.args.e mid.pass b.pass c.put_through-answer.result c.put_through-answer.ensures.serving.of.pass
    (c.requires.by ∙ sym head.head) c.put_through-answer.ensures.said head.ready.fresh)

pub returns-clause-said : goal.returns-clause-said
returns-clause-said g c =
    let pool = c.args.pool.now in let a = c.args.hand.now in let mid = c.pass_many.new.hand in let b = c.put_through-answer.new.hand in
    let head = passed_head g.S.Slot.shape g.S.Slot.gives pool a c.requires.head mid c.pass_many.ensures.serving c.pass_many.ensures.view c.pass_many.ensures.slots in
    let says = put_says g.S.Slot.shape g.S.Slot.gives pool.board.now c.args.e mid.pass b.pass c.put_through-answer.result c.in_default.not-Held c.put_through-answer.ensures.said head.head in
    subst (λ h. Says (bounds_of pool).most pool.plan.now c.args.e h (view b.pass).seen c.put_through-answer.result) (ap (λ x. x.seen) c.pass_many.ensures.view)
    (said_here g.S.Slot.shape g.S.Slot.gives pool mid head c.args.e (view mid.pass).seen (view b.pass).seen c.put_through-answer.result says.0)

pub returns-clause-handed : goal.returns-clause-handed
returns-clause-handed g c =
    let pool = c.args.pool.now in let a = c.args.hand.now in let mid = c.pass_many.new.hand in let b = c.put_through-answer.new.hand in
    let head = passed_head g.S.Slot.shape g.S.Slot.gives pool a c.requires.head mid c.pass_many.ensures.serving c.pass_many.ensures.view c.pass_many.ensures.slots in
    let says = put_says g.S.Slot.shape g.S.Slot.gives pool.board.now c.args.e mid.pass b.pass c.put_through-answer.result c.in_default.not-Held c.put_through-answer.ensures.said head.head in
    handed_since c.args.e (view a.pass) (view mid.pass) (view b.pass) c.put_through-answer.result c.pass_many.ensures.view says.1

pub returns-clause-kept : goal.returns-clause-kept
returns-clause-kept g c = λ first kept.
    let pool = c.args.pool.now in let a = c.args.hand.now in let mid = c.pass_many.new.hand in let b = c.put_through-answer.new.hand in
    let head = passed_head g.S.Slot.shape g.S.Slot.gives pool a c.requires.head mid c.pass_many.ensures.serving c.pass_many.ensures.view c.pass_many.ensures.slots in
    leads_further g.S.Slot.shape g.S.Slot.gives pool mid head first b c.args.e c.put_through-answer.ensures.serving
    (λ alone. outcome_only g.S.Slot.shape g.S.Slot.gives pool.board.now c.args.e mid.pass b.pass c.put_through-answer.result c.put_through-answer.ensures.said)
    (λ work. absurd (both_ways _ c.requires.no_work work))
    (passed_leads g.S.Slot.shape g.S.Slot.gives pool a c.requires.head first mid c.pass_many.ensures.serving c.pass_many.ensures.view kept)

pub returns-in-Held-clause-kept : goal.returns-in-Held-clause-kept
returns-in-Held-clause-kept g c = λ first kept.
    let pool = c.args.pool.now in let a = c.args.hand.now in let mid = c.pass_many.new.hand in let b = c.put_through-answer.new.hand in
    let head = passed_head g.S.Slot.shape g.S.Slot.gives pool a c.requires.head mid c.pass_many.ensures.serving c.pass_many.ensures.view c.pass_many.ensures.slots in
    leads_further g.S.Slot.shape g.S.Slot.gives pool mid head first b c.args.e c.put_through-answer.ensures.serving
    (λ alone. outcome_only g.S.Slot.shape g.S.Slot.gives pool.board.now c.args.e mid.pass b.pass c.put_through-answer.result c.put_through-answer.ensures.said)
    (λ work. absurd (both_ways _ c.requires.no_work work))
    (passed_leads g.S.Slot.shape g.S.Slot.gives pool a c.requires.head first mid c.pass_many.ensures.serving c.pass_many.ensures.view kept)
