use Rattle.std.proofs.Common.{inr, refl, sym, subst}
use Rattle.gcd_event.specs.declared.event.Event.TheVariants.{Shut}
use Rattle.gcd_front.specs.Fronts.{KnowsAll, TookAll}
use Rattle.gcd_pool.specs.Admitted.{IsLeading}
use Rattle.gcd_pool.proofs.Leading.{accept_answered, learns_leading, shut_leading}
use Rattle.gcd_pool.proofs.head.take_in.Goals as goal

pub returns-then-all_shut-clause-leading : goal.returns-then-all_shut-clause-leading
returns-then-all_shut-clause-leading g c =
    let now =
    subst (λ j. IsLeading g.S.Slot.shape g.S.Slot.gives g.X.Sent.gives c.args.pool.now c.args.front.now c.args.hand.now j) (sym c.in-None.ensures.same)
    (learns_leading g.S.Slot.shape g.S.Slot.gives g.X.Sent.gives c.args.pool.now c.args.front.now c.args.hand.now c.args.intake.now c.requires.leading
    c.all_shut-all_shut.new.self c.requires.open c.all_shut-all_shut.ensures.more) in
    let all = subst (λ j. KnowsAll c.args.front.now j × TookAll j) (sym c.in-None.ensures.same) (c.all_shut-all_shut.ensures.known c.if-all_shut.true, c.in-None.ensures.all) in
    shut_leading g.S.Slot.shape g.S.Slot.gives g.X.Sent.gives c.args.pool.now c.args.front.now c.args.hand.now c.take.new.self now c.put_on.new.hand c.in_ok-put-in-None.ensures.head
    c.in_ok-put-in-None.put c.requires.room c.in_ok-put-in-None.ensures.said c.in_ok-put-in-None.ensures.handed (inr all)

pub returns-then-all_shut-clause-said : goal.returns-then-all_shut-clause-said
returns-then-all_shut-clause-said g c = record { event = Shut; called = refl; said = c.in_ok-put-in-None.ensures.said }

pub returns-in-Some-clause-leading : goal.returns-in-Some-clause-leading
returns-in-Some-clause-leading g c =
    accept_answered g.S.Slot.shape g.S.Slot.gives g.X.Sent.gives c.args.pool.now c.args.front.now c.args.hand.now c.all_shut-all_shut.new.self
    (learns_leading g.S.Slot.shape g.S.Slot.gives g.X.Sent.gives c.args.pool.now c.args.front.now c.args.hand.now c.args.intake.now c.requires.leading
    c.all_shut-all_shut.new.self c.requires.open c.all_shut-all_shut.ensures.more)
    c.accept.new.hand c.take.new.self c.args.b _ _ _ c.accept.result c.requires.room c.requires.open c.requires.next c.in-Some.ensures.taken c.accept.ensures.head c.accept.ensures.accepted

pub returns-else-all_shut-clause-leading : goal.returns-else-all_shut-clause-leading
returns-else-all_shut-clause-leading g c =
    subst (λ j. IsLeading g.S.Slot.shape g.S.Slot.gives g.X.Sent.gives c.args.pool.now c.args.front.now c.args.hand.now j) (sym c.in-None.ensures.same)
    (learns_leading g.S.Slot.shape g.S.Slot.gives g.X.Sent.gives c.args.pool.now c.args.front.now c.args.hand.now c.args.intake.now c.requires.leading
    c.all_shut-all_shut.new.self c.requires.open c.all_shut-all_shut.ensures.more)
